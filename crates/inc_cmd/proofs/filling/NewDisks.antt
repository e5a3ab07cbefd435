-- A new file is made on an empty disk, mounted, and a content goes in.
use Rattle.std.proofs.Common.{◌≡◌, ◌⊎◌, inl, inr, ⊎_elim, ℕ, zero, suc, ◌+◌, ◌<◌, ◌≤◌, ◌^◌, Bool, true, false, ◌&&◌, List, [], ◌∷◌, ◌++◌, length, Option, Some, None, Result, Ok, Err, refl, sym, ap, ◌∙◌, subst, arith, append_assoc, eqb}
use Rattle.std.specs.Prelude.{IfOk, nat_eq, nat_le, is_some, slice_index_or}
use Rattle.std.specs.List.{list_all}
use Rattle.std.specs.Cmp.Lexicographic.{bytes_decides, pointwise}
use Rattle.std.proofs.lemmas.Bool.{eq-eqb, eqb-true, le-leb}
use Rattle.inc_disk.specs.Disk.{DiskState, MayHaveLeft, Now, reads_of, settled}
use Rattle.inc_disk.specs.Laws.{HoldsSince, LeavesOnly}
use Rattle.inc_disk.proofs.Moments.{settled_image}
use Rattle.inc_entry.specs.declared.classes.Class.{Class}
use Rattle.inc_entry.specs.declared.classes.Class.TheVariants as class
use Rattle.inc_frame.specs.declared.piece.Piece.{Piece}
use Rattle.inc_layout.specs.Fresh.{IsSigOf}
use Rattle.inc_layout.specs.fixed.Fixed.{shape_for}
use Rattle.inc_layout.specs.opening.Opening.{IsSoundOpened}
use Rattle.inc_layout.specs.state.Reopening.{AreOpened}
use Rattle.inc_layout.specs.declared.opened.Opened.{Opened}
use Rattle.inc_layout.proofs.opened_file.BackingMeaning.{stands_backing}
use Rattle.inc_loader.specs.declared.loader_file.LoaderFile.{LoaderFile}
use Rattle.inc_signature.specs.declared.signature.SigInfo.{SigInfo}
use Rattle.inc_tree.specs.shape.Geometry.{Shape, data_blocks, hash_blocks, tree_of}
use Rattle.inc_model.specs.relation.Step.{IsLegal}
use Rattle.inc_model.specs.declared.words.reply.Entry.{Entry}
use Rattle.inc_cell.specs.laws.Runs.{KeepsFront}
use Rattle.inc_cell.specs.seen.Opens.{cell_on}
use Rattle.inc_cell.specs.seen.Parts.{parts_of}
use Rattle.inc_cell.specs.seen.Seen.{tells}
use Rattle.inc_recover.specs.Making.{MayBeLeft}
use Rattle.inc_recover.specs.Mounting.{GivesMountFault, GivesMounted, HasRightCounts, IsCutAtSync, IsSameButCounts, counted, counted_bytes, layout_of}
use Rattle.inc_recover.specs.declared.fault.MountFault.{MountFault}
use Rattle.inc_filling.specs.Contents.{FilledFile, filled_file}
use Rattle.inc_filling.specs.Generated.{IsNewFileOf}
use Rattle.inc_words.specs.declared.stop.Stop.{Stop}
use Rattle.inc_words.specs.declared.stop.Stop.TheVariants as stop
use Rattle.inc_cmd.specs.Commands.Big.{IsFileFor, filled_fresh, filled_opened}
use Rattle.inc_cmd.specs.Commands.Fill.{fillable_of}
use Rattle.inc_cmd.specs.Commands.FillMoments.{EndsAcknowledged, IsFillHistory, KeepsAllOpen, fill_opening}
use Rattle.inc_cmd.specs.NewFiles.{FillsContent, FillsMade, FillsNew, HoldsAllOf, is_closed_class, is_file_for}
use Rattle.inc_cmd.proofs.filling.DiskFills.{begins, counted_reads, grows_on, no_history, one_opened, opened_parts_of, settled_open, tells_more}
use Rattle.inc_cmd.proofs.filling.Refused.{mounted_fillable}

-- ---- which file it is

both_true : (a b : Bool) → (a && b) ≡ true → (a ≡ true) × (b ≡ true)
both_true true b e = (refl, e)
both_true false b e = absurd (cc)

all_closed : (classes : List Class) (i : ℕ) → list_all is_closed_class classes ≡ true → i < length classes → slice_index_or classes i class.Damaged ≡ class.Closed
all_closed [] i e lt = absurd (omega arith)
all_closed (one ∷ classes) zero e lt = closed one (both_true (is_closed_class one) (list_all is_closed_class classes) e).0
  where
    closed : (one : Class) → is_closed_class one ≡ true → one ≡ class.Closed
    closed class.Closed e = refl
    closed (class.OpenAt place len) e = absurd (cc)
    closed class.Compressed e = absurd (cc)
    closed class.Damaged e = absurd (cc)
all_closed (one ∷ classes) (suc i) e lt = all_closed classes i (both_true (is_closed_class one) (list_all is_closed_class classes) e).1 (omega arith)

each_closed : (classes : List Class) → ((i : ℕ) → i < length classes → slice_index_or classes i class.Damaged ≡ class.Closed) → list_all is_closed_class classes ≡ true
each_closed [] each = refl
each_closed (one ∷ classes) each = let first : one ≡ class.Closed = each 0 (omega arith) in rw first (each_closed classes (λ i lt. each (suc i) (omega arith)))

tree_for : (sig : Option SigInfo) (size : ℕ) → is_some sig ≡ true → shape_for sig size ≡ tree_of size
tree_for None size e = absurd (cc)
tree_for (Some sig) size e = refl

-- a signed file of this id and size none of whose blocks is there takes the content
pub is_new : (file : LoaderFile) (opened : Opened) → IsSoundOpened opened → is_file_for file opened ≡ true → IsNewFileOf opened file.id file.size
is_new file opened sound e =
    let first = both_true (pointwise nat_eq opened.header.id file.id) _ e in
    let second = both_true (eqb opened.header.size file.size) _ first.1 in
    let third = both_true (is_some opened.sig) (list_all is_closed_class opened.classes) second.1 in
    let size : opened.header.size ≡ file.size = eqb-true opened.header.size file.size second.0 in
    let shape : opened.areas.geometry ≡ tree_of file.size = sound.layout.shape ∙ tree_for opened.sig opened.header.size third.0 ∙ ap tree_of size in
    record {
      id_is = (bytes_decides opened.header.id file.id).0 first.0;
      shape_is = shape;
      all_closed = λ i lt. all_closed opened.classes i third.1
          (subst (λ (n : ℕ). i < n) (sym sound.layout.class_count) (subst (λ (s : Shape). i < data_blocks s + hash_blocks s) (sym shape) lt));
    }

signed_of : (blob : List ℕ) (sig : Option SigInfo) → IsSigOf (Some blob) sig → is_some sig ≡ true
signed_of blob None is = absurd is
signed_of blob (Some sig) is = refl

three_true : (a b c d : Bool) → a ≡ true → b ≡ true → c ≡ true → d ≡ true → (a && (b && (c && d))) ≡ true
three_true a b c d e f g h = rw (e, f, g, h) refl

module _ (file : LoaderFile) (fresh : List ℕ) (is_for : IsFileFor file fresh) where
  -- the new file, as it is opened
  new_opened : Opened
  new_opened = is_for.stands.opened

  new_stands : layout_of fresh ≡ Ok is_for.stands.opened
  new_stands = let short : nat_le (length fresh) (2 ^ 46) ≡ true = le-leb (length fresh) (2 ^ 46) is_for.short in rw short (stands_backing fresh is_for.stands.opened is_for.stands.stands)

  -- what is mounted of it takes the content
  pub is_own : (opened found : Opened) → layout_of fresh ≡ Ok found → opened ≡ counted found → IsSoundOpened opened → is_file_for file opened ≡ true
  is_own opened found found_is is sound =
      let same : found ≡ is_for.stands.opened = one_opened (layout_of fresh) found is_for.stands.opened found_is new_stands in
      let whole : opened ≡ counted is_for.stands.opened = is ∙ ap counted same in
      let id : opened.header.id ≡ file.id = ap (λ (o : Opened). o.header.id) whole ∙ (λ k. (is_for.stands.header k).id) in
      let size : opened.header.size ≡ file.size = ap (λ (o : Opened). o.header.size) whole ∙ (λ k. (is_for.stands.header k).size) in
      let signed : is_some opened.sig ≡ true = ap (λ (o : Opened). is_some o.sig) whole ∙ signed_of is_for.blob is_for.stands.opened.sig is_for.stands.sig in
      let shape : opened.areas.geometry ≡ tree_of file.size = sound.layout.shape ∙ tree_for opened.sig opened.header.size signed ∙ ap tree_of size in
      let count : length opened.classes ≡ data_blocks (tree_of file.size) + hash_blocks (tree_of file.size) = sound.layout.class_count ∙ ap (λ (s : Shape). data_blocks s + hash_blocks s) shape in
      let closed : list_all is_closed_class opened.classes ≡ true = each_closed opened.classes (λ i lt.
      ap (λ (o : Opened). slice_index_or o.classes i class.Damaged) whole ∙ is_for.stands.all_closed i (subst (λ (n : ℕ). i < n) count lt)) in
      three_true _ _ _ _ ((bytes_decides opened.header.id file.id).1 id) (eq-eqb opened.header.size file.size size) signed closed

-- ---- since the file stands whole

-- whatever a crash leaves since then, before anything else is written, is the file
of_whole : (fresh image : List ℕ) (making : List DiskState) → MayHaveLeft (suc (length making)) (settled fresh ∷ making) image → image ≡ fresh
of_whole fresh image making (inl here) = settled_image fresh image here.1
of_whole fresh image making (inr there) = absurd (let late = not_after (suc (length making)) making image there in omega arith)
  where
    not_after : (moment : ℕ) (states : List DiskState) (image : List ℕ) → MayHaveLeft moment states image → moment ≤ length states
    not_after moment [] image left = absurd left
    not_after moment (disk ∷ past) image (inl here) = here.0
    not_after moment (disk ∷ past) image (inr there) = let before = not_after moment past image there in omega arith

of_whole_synced : (fresh image : List ℕ) (making : List DiskState) → MayHaveLeft (suc (length making)) (settled fresh ∷ settled fresh ∷ making) image → image ≡ fresh
of_whole_synced fresh image making (inl here) = settled_image fresh image here.1
of_whole_synced fresh image making (inr there) = of_whole fresh image making there

same_since : (fresh : List ℕ) (making mid : List DiskState) → LeavesOnly (settled fresh ∷ settled fresh ∷ making) mid (IsSameButCounts fresh) → HoldsSince (suc (length making)) mid (IsSameButCounts fresh)
same_since fresh making mid leaves image left =
    ⊎_elim (λ early. inl (of_whole_synced fresh image making early)) (λ same. same) (leaves.before (suc (length making)) image (omega arith) left)

-- behind the file as it stood whole there is the sync of its mount
behind_whole : (fresh : List ℕ) (making new later : List DiskState) → new ≡ later ++ (settled fresh ∷ settled fresh ∷ making) → (more : List DiskState) × (new ≡ more ++ (settled fresh ∷ making))
behind_whole fresh making new later is = (later ++ (settled fresh ∷ []), is ∙ sym (append_assoc later (settled fresh ∷ []) (settled fresh ∷ making)))

filled_is : (fresh : List ℕ) (pieces : List Piece) (found : Opened) → fillable_of fresh ≡ Ok found → filled_file (counted found) (counted_bytes found fresh) pieces ≡ filled_fresh pieces fresh
unfolding filled_fresh
filled_is fresh pieces found is = sym (ap (filled_opened pieces fresh) is)

-- ---- a mounted file

module _ (file : LoaderFile) (fresh : List ℕ) (making mid new : List DiskState) (pieces : List Piece) where
  content_made : (found : Opened) (result : Result (Option ℕ) Stop) → layout_of fresh ≡ Ok found → Now mid (HasRightCounts fresh) → LeavesOnly (settled fresh ∷ settled fresh ∷ making) mid (IsSameButCounts fresh)
      → FillsContent (cell_on mid 0 (counted found) 0) new pieces result → FillsMade fresh pieces making new result
  content_made found result is right leaves fills =
      let base : List DiskState = settled fresh ∷ settled fresh ∷ making in
      let judged = mounted_fillable fresh found is in
      let opened = opened_parts_of found in
      let reads = counted_reads fresh mid found leaves.grew.0 (settled fresh) (settled fresh ∷ making) leaves.grew.1 is right in
      let grows = grows_on base mid new (IsSameButCounts fresh) (KeepsFront (fill_opening found) 0 fills.history) leaves fills.runs in
      let told_all : tells new ≡ true = ap tells grows.1 ∙ tells_more grows.0 (settled fresh) (settled fresh ∷ making) in
      let whole = behind_whole fresh making new grows.0 grows.1 in
      let history : IsFillHistory found (Some pieces) fills.history = record {
        legal = subst (λ (b : Bool). IsLegal 0 b (fill_opening found) fills.history) told_all fills.legal;
        puts = fills.puts;
      } in
      record {
        later = whole.0;
        grew = whole.1;
        filled = subst (λ (filled : FilledFile). IfOk result (HoldsAllOf filled (reads_of new))) (filled_is fresh pieces found judged) (fills.contents (counted_bytes found fresh) reads);
        opened = found;
        judged = judged;
        history = fills.history;
        is_history = history;
        each = each fills.history opened fills.runs;
        at_rest = rests result history fills.settled;
      }
    where
      each : (history : List Entry) → AreOpened found (parts_of (fill_opening found)) → (new ≡ mid) ⊎ LeavesOnly mid new (KeepsFront (fill_opening found) 0 history) → HoldsSince (suc (length making)) new (KeepsFront (fill_opening found) 0 history)
      each history opened (inl same) = subst (λ (ds : List DiskState). HoldsSince (suc (length making)) ds (KeepsFront (fill_opening found) 0 history)) (sym same)
          (λ image left. begins fresh image found history is opened (same_since fresh making mid leaves image left))
      each history opened (inr runs) = λ image left.
          ⊎_elim (λ early. begins fresh image found history is opened (same_since fresh making mid leaves image early)) (λ late. late)
          (runs.before (suc (length making)) image (let long = leaves.later in omega arith) left)

      rests : (result : Result (Option ℕ) Stop) → IsFillHistory found (Some pieces) fills.history → IfOk result (λ written. Now new (KeepsAllOpen (counted found) (fill_opening found) fills.history))
          → IfOk result (λ written. Now new (EndsAcknowledged found (Some pieces)))
      rests (Ok written) history holds = settled_open found (Some pieces) fills.history new history holds
      rests (Err why) history holds = tt

  pub mounted_made : (opened : Opened) (result : Result (Option ℕ) Stop) → IsFileFor file fresh → IsSoundOpened opened → GivesMounted (Ok opened) (layout_of fresh) → Now mid (HasRightCounts fresh)
      → IsCutAtSync (settled fresh ∷ making) mid fresh (Ok opened) → (is_file_for file opened ≡ true → FillsContent (cell_on mid 0 opened 0) new pieces result) → FillsMade fresh pieces making new result
  mounted_made opened result is_for sound is right (inl never) fills = absurd (cc)
  mounted_made opened result is_for sound is right (inr since) fills =
      content_made is.found result is.wanted_is right since
      (subst (λ (o : Opened). FillsContent (cell_on mid 0 o 0) new pieces result) is.counted_is (fills (is_own file fresh is_for opened is.found is.wanted_is is.counted_is sound)))

-- ---- a file that isn't mounted

module _ (file : LoaderFile) (fresh : List ℕ) (making mid : List DiskState) (pieces : List Piece) (is_for : IsFileFor file fresh) where
  keeps_whole : (later : List DiskState) (result : Result (Option ℕ) Stop) → mid ≡ later ++ (settled fresh ∷ making) → HoldsSince (suc (length making)) mid (IsSameButCounts fresh)
      → IfOk result (λ written. ⊥) → FillsMade fresh pieces making mid result
  keeps_whole later result grew same none =
      let found : Opened = is_for.stands.opened in
      let is = new_stands file fresh is_for in
      record {
        later = later;
        grew = grew;
        filled = never result none (HoldsAllOf (filled_fresh pieces fresh) (reads_of mid));
        opened = found;
        judged = mounted_fillable fresh found is;
        history = [];
        is_history = no_history found (Some pieces);
        each = λ image left. begins fresh image found [] is (opened_parts_of found) (same image left);
        at_rest = never result none (λ written. Now mid (EndsAcknowledged found (Some pieces)));
      }
    where
      never : (result : Result (Option ℕ) Stop) → IfOk result (λ written. ⊥) → (P : Option ℕ → Type 0) → IfOk result P
      never (Ok written) none P = absurd none
      never (Err why) none P = tt

  no_outcome : (fault : MountFault) (result : Result (Option ℕ) Stop) → GivesMountFault fault (layout_of fresh)
      → IfOk result (λ written. (bytes : List ℕ) (found : Opened) → layout_of bytes ≡ Ok found → GivesMountFault fault (layout_of bytes) → ⊥) → IfOk result (λ written. ⊥)
  no_outcome fault (Ok written) gives none = none fresh is_for.stands.opened (new_stands file fresh is_for) gives
  no_outcome fault (Err why) gives none = tt

  pub unmounted_made : (fault : MountFault) (result : Result (Option ℕ) Stop) → GivesMountFault fault (layout_of fresh) → IsCutAtSync {T = Opened} (settled fresh ∷ making) mid fresh (Err fault)
      → IfOk result (λ written. (bytes : List ℕ) (found : Opened) → layout_of bytes ≡ Ok found → GivesMountFault fault (layout_of bytes) → ⊥) → FillsMade fresh pieces making mid result
  unmounted_made fault result gives (inl never) none =
      keeps_whole never.1.grew.0 result never.1.grew.1 (λ image left. inl (of_whole fresh image making (never.1.each image left))) (no_outcome fault result gives none)
  unmounted_made fault result gives (inr since) none =
      let whole = behind_whole fresh making mid since.grew.0 since.grew.1 in
      keeps_whole whole.0 result whole.1 (same_since fresh making mid since) (no_outcome fault result gives none)

-- ---- as the disk was lent

pub told_made : (file : LoaderFile) (old mid new : List DiskState) (pieces : List Piece) (opened : Opened) (result : Result (Option ℕ) Stop) → IsSoundOpened opened → Now old (λ state. GivesMounted (Ok opened) (layout_of state.reads))
    → Now old (λ state. Now mid (HasRightCounts state.reads)) → Now old (λ state. IsCutAtSync old mid state.reads (Ok opened)) → (is_file_for file opened ≡ true → FillsContent (cell_on mid 0 opened 0) new pieces result)
    → (fresh : List ℕ) (making : List DiskState) → IsFileFor file fresh → old ≡ settled fresh ∷ making → FillsMade fresh pieces making new result
told_made file old mid new pieces opened result sound answer right since fills fresh making is_for is =
    mounted_made file fresh making mid new pieces opened result is_for sound (subst (λ (ds : List DiskState). Now ds (λ state. GivesMounted (Ok opened) (layout_of state.reads))) is answer)
    (subst (λ (ds : List DiskState). Now ds (λ state. Now mid (HasRightCounts state.reads))) is right) (subst (λ (ds : List DiskState). Now ds (λ state. IsCutAtSync ds mid state.reads (Ok opened))) is since) fills

pub told_unmounted : (file : LoaderFile) (old mid : List DiskState) (pieces : List Piece) (fault : MountFault) (result : Result (Option ℕ) Stop) → Now old (λ state. GivesMountFault fault (layout_of state.reads))
    → Now old (λ state. IsCutAtSync {T = Opened} old mid state.reads (Err fault)) → IfOk result (λ written. (bytes : List ℕ) (found : Opened) → layout_of bytes ≡ Ok found → GivesMountFault fault (layout_of bytes) → ⊥)
    → (fresh : List ℕ) (making : List DiskState) → IsFileFor file fresh → old ≡ settled fresh ∷ making → FillsMade fresh pieces making mid result
told_unmounted file old mid pieces fault result answer since none fresh making is_for is =
    unmounted_made file fresh making mid pieces is_for fault result (subst (λ (ds : List DiskState). Now ds (λ state. GivesMountFault fault (layout_of state.reads))) is answer)
    (subst (λ (ds : List DiskState). Now ds (λ state. IsCutAtSync {T = Opened} ds mid state.reads (Err fault))) is since) none

-- ---- an empty disk

pub make_failed : (fresh : List ℕ) (pieces : List Piece) (lent new : List DiskState) → LeavesOnly lent new (MayBeLeft fresh) → lent ≡ settled [] ∷ [] → FillsNew fresh pieces new (Err stop.Fault)
make_failed fresh pieces lent new leaves is =
    let own = subst (λ (ds : List DiskState). LeavesOnly ds new (MayBeLeft fresh)) is leaves in
    record { grew = own.grew; filled = tt; moments = inl own; at_rest = tt }

record IsWhole (fresh : List ℕ) (states : List DiskState) : Type 0 where
  making : List DiskState
  states_are : states ≡ settled fresh ∷ making

whole_now : (fresh : List ℕ) (states more : List DiskState) (first : DiskState) → states ≡ more ++ (first ∷ []) → Now states (λ state. state ≡ settled fresh) → IsWhole fresh states
whole_now fresh [] more first grew now = absurd (none more grew)
  where
    none : (more : List DiskState) → [] ≡ more ++ (first ∷ []) → ⊥
    none [] e = absurd (cc)
    none (disk ∷ past) e = absurd (cc)
whole_now fresh (disk ∷ past) more first grew now = record { making = past; states_are = ap (λ (d : DiskState). d ∷ past) now }

same_opened : (fresh : List ℕ) (pieces : List Piece) (new : List DiskState) (found : Opened) (result : Result (Option ℕ) Stop) → fillable_of fresh ≡ Ok found → IfOk result (λ written. Now new (EndsAcknowledged found (Some pieces)))
    → IfOk result (λ written. (opened : Opened) → fillable_of fresh ≡ Ok opened → Now new (EndsAcknowledged opened (Some pieces)))
same_opened fresh pieces new found (Ok written) judged holds = λ opened is. subst (λ (o : Opened). Now new (EndsAcknowledged o (Some pieces))) (one_opened (fillable_of fresh) found opened judged is) holds
same_opened fresh pieces new found (Err why) judged holds = tt

pub make_filled : (fresh : List ℕ) (pieces : List Piece) (lent made new : List DiskState) (result : Result (Option ℕ) Stop) → LeavesOnly lent made (MayBeLeft fresh) → Now made (λ state. state ≡ settled fresh)
    → ((making : List DiskState) → made ≡ settled fresh ∷ making → FillsMade fresh pieces making new result) → lent ≡ settled [] ∷ [] → FillsNew fresh pieces new result
make_filled fresh pieces lent made new result leaves now fills is =
    let own = subst (λ (ds : List DiskState). LeavesOnly ds made (MayBeLeft fresh)) is leaves in
    let whole = whole_now fresh made own.grew.0 (settled []) own.grew.1 now in
    let fill = fills whole.making whole.states_are in
    record {
      grew = (fill.later ++ own.grew.0, fill.grew ∙ ap (λ (ds : List DiskState). fill.later ++ ds) (sym whole.states_are ∙ own.grew.1) ∙ sym (append_assoc fill.later own.grew.0 (settled [] ∷ [])));
      filled = fill.filled;
      moments = inr (record {
        making = whole.making;
        later = fill.later;
        parts = fill.grew;
        made = subst (λ (ds : List DiskState). LeavesOnly (settled [] ∷ []) ds (MayBeLeft fresh)) whole.states_are own;
        opened = fill.opened;
        judged = fill.judged;
        history = fill.history;
        is_history = fill.is_history;
        each = fill.each;
      });
      at_rest = same_opened fresh pieces new fill.opened result fill.judged fill.at_rest;
    }
