-- A fill of a lent disk: its mount, and then its cell, or its refusal.
use Rattle.std.proofs.Common.{◌≡◌, ◌≢◌, ◌⊎◌, inl, inr, ⊎_elim, ℕ, Bool, true, false, ◌||◌, cond, eqb, List, [], ◌∷◌, ◌++◌, take, Option, Some, None, Result, Ok, Err, refl, sym, ap, ◌∙◌, subst, arith, append_assoc}
use Rattle.std.specs.Prelude.{IfSome, IfOk, is_some}
use Rattle.inc_disk.specs.Disk.{DiskState, IsImage, IsSound, MayHaveLeft, Now, SoundNow, reads_of, settled}
use Rattle.inc_disk.specs.Laws.{HoldsSince, LeavesOnly}
use Rattle.inc_disk.proofs.Moments.{settled_image}
use Rattle.inc_frame.specs.Fronts.{stream_front}
use Rattle.inc_frame.specs.declared.piece.Piece.{Piece}
use Rattle.inc_layout.specs.state.Reopening.{AreOpened, rows_of}
use Rattle.inc_layout.proofs.opened_file.OpenedParts.{has_parts}
use Rattle.inc_pending.specs.Keyed.{lookup}
use Rattle.inc_model.specs.relation.State.{Digests, has, is_in, keys_of}
use Rattle.inc_layout.specs.declared.fault.LayoutFault.{LayoutFault}
use Rattle.inc_layout.specs.declared.opened.Opened.{Opened}
use Rattle.inc_model.specs.relation.Step.{IsLegal}
use Rattle.inc_model.specs.declared.words.reply.Entry.{Entry}
use Rattle.inc_cell.specs.laws.Runs.{KeepsFront}
use Rattle.inc_cell.specs.seen.Opens.{cell_on}
use Rattle.inc_cell.specs.seen.Parts.{parts_of}
use Rattle.inc_cell.specs.seen.Seen.{tells}
use Rattle.inc_cell.proofs.standing.KindLemmas.{held_is, same_row}
use Rattle.inc_recover.specs.Mounting.{GivesMountFault, GivesMounted, HasRightCounts, IsCutAtSync, IsLeftUnsynced, IsOnlySynced, IsSameButCounts, IsUnwritten, counted, counted_bytes, layout_of}
use Rattle.inc_recover.specs.declared.fault.MountFault.{MountFault}
use Rattle.inc_recover.specs.declared.fault.MountFault.TheVariants as mount
use Rattle.inc_recover.proofs.MountLemmas.{layout_backing}
use Rattle.inc_recover.proofs.Reopened.{own_preserves, same_preserves}
use Rattle.inc_filling.specs.Pieces.{piece_puts}
use Rattle.inc_filling.specs.Refusals.{taken_pieces}
use Rattle.inc_words.specs.declared.outcome.CommandOutcome.{CommandOutcome}
use Rattle.inc_words.specs.declared.stop.Stop.{Stop}
use Rattle.inc_words.specs.declared.stop.Stop.TheVariants as stop
use Rattle.inc_cmd.specs.Commands.Fill.{fill_judged, fill_over, fillable_of}
use Rattle.inc_cmd.specs.Commands.FillMoments.{EndsAcknowledged, IsFillHistory, KeepsAllOpen, PutsPieces, fill_opening, stream_pieces}
use Rattle.inc_cmd.specs.FilledDisks.{AnswersFile, AnswersOr, FillsCell, FillsDisk, FillsUp, IsFullOr, IsRefusedFile, LeavesDisk, ReachesSince, StaysAsLent}
use Rattle.inc_cmd.specs.Runs.{status_of}
use Rattle.inc_cmd.proofs.filling.Refused.{mounted_fillable}

pub one_opened : {E : Type 0} (found : Result Opened E) (a b : Opened) → found ≡ Ok a → found ≡ Ok b → a ≡ b
one_opened found a b first second = cc

none_opened : {E : Type 0} (found : Result Opened E) (a : Opened) (fault : E) → found ≡ Ok a → found ≡ Err fault → ⊥
none_opened found a fault first second = absurd (let both : Ok a ≡ Err fault = sym first ∙ second in cc)

-- ---- nothing has happened but a sync

only_synced : (first : DiskState) (new : List DiskState) → IsSound first → new ≡ settled first.reads ∷ first ∷ [] → StaysAsLent first new
only_synced first new sound is = subst (StaysAsLent first) (sym is) each
  where
    each : StaysAsLent first (settled first.reads ∷ first ∷ [])
    each image (inl here) = subst (IsImage first) (sym (settled_image first.reads image here.1)) sound
    each image (inr (inl there)) = there.1
    each image (inr (inr none)) = absurd none

unsynced : (first : DiskState) (new : List DiskState) → IsLeftUnsynced (first ∷ []) new → StaysAsLent first new
unsynced first new (inl same) = subst (StaysAsLent first) (sym same) each
  where
    each : StaysAsLent first (first ∷ [])
    each image (inl here) = here.1
    each image (inr none) = absurd none
unsynced first new (inr again) = subst (StaysAsLent first) (sym again) each
  where
    each : StaysAsLent first (first ∷ first ∷ [])
    each image (inl here) = here.1
    each image (inr (inl there)) = there.1
    each image (inr (inr none)) = absurd none

first_only : (first : DiskState) (image : List ℕ) → MayHaveLeft 1 (first ∷ []) image → IsImage first image
first_only first image (inl here) = here.1
first_only first image (inr none) = absurd none

never_synced : (first : DiskState) (new : List DiskState) → LeavesOnly (first ∷ []) new (MayHaveLeft 1 (first ∷ [])) → StaysAsLent first new
never_synced first new leaves = λ image left. first_only first image (leaves.each image left)

unsynced_grew : (first : DiskState) (new : List DiskState) → IsLeftUnsynced (first ∷ []) new → (more : List DiskState) × (new ≡ more ++ (first ∷ []))
unsynced_grew first new (inl same) = ([], same)
unsynced_grew first new (inr again) = (first ∷ [], again)

-- ---- the state that was found

-- a file that is the one found but for its counts keeps the state in which the fill begins
pub begins : (bytes image : List ℕ) (found : Opened) (history : List Entry) → layout_of bytes ≡ Ok found → AreOpened found (parts_of (fill_opening found)) → IsSameButCounts bytes image
    → KeepsFront (fill_opening found) 0 history image
begins bytes image found history is opened same = record {
  front = [];
  rest = history;
  cut = refl;
  later = omega arith;
  keeps = same_preserves bytes image (parts_of (fill_opening found)) (own_preserves bytes found (parts_of (fill_opening found)) (layout_backing bytes found is) opened) same;
}

key_of : (i : ℕ) (rows : Digests) → is_in i rows ≡ true → has i (keys_of rows) ≡ true
key_of i [] e = e
key_of i (row ∷ rows) e = step (eqb i row.0) (λ rest. key_of i rows rest) e
  where
    step : (b : Bool) → (is_in i rows ≡ true → has i (keys_of rows) ≡ true) → is_some (cond b (Some row.1) (lookup i rows)) ≡ true → (b || has i (keys_of rows)) ≡ true
    step true rest found = refl
    step false rest found = rest found

-- each row's index is among the keys
keyed : (rows : Digests) (i : ℕ) → cond (has i (keys_of rows)) (lookup i rows) None ≡ lookup i rows
keyed rows i = step (lookup i rows) refl
  where
    step : (found : Option (List ℕ)) → lookup i rows ≡ found → cond (has i (keys_of rows)) (lookup i rows) None ≡ lookup i rows
    step None e = neither (has i (keys_of rows))
      where
        neither : (b : Bool) → cond b (lookup i rows) None ≡ lookup i rows
        neither true = refl
        neither false = sym e
    step (Some digest) e = ap (λ (b : Bool). cond b (lookup i rows) None) (key_of i rows (ap (λ (o : Option (List ℕ)). is_some o) e))

-- the parts of the state in which a file begins are those that the file tells
pub opened_parts_of : (found : Opened) → AreOpened found (parts_of (fill_opening found))
opened_parts_of found =
    let parts = has_parts found in
    record {
      state = record { id_is = refl; root_is = refl; data_is = refl; hash_is = refl };
      damaged_is = parts.damaged_is;
      compressed_is = parts.compressed_is;
      acknowledged_is = λ i. held_is (fill_opening found) i ∙ keyed (rows_of 0 found.digests) i ∙ sym (same_row (rows_of 0 found.digests) i) ∙ parts.acknowledged_is i;
      none_begun = refl;
    }

pub no_puts : (opened : Opened) (pieces : List Piece) → PutsPieces opened [] pieces
no_puts opened pieces = record { count = 0; puts_are = ap (piece_puts opened) (sym (none (taken_pieces opened pieces))) }
  where
    none : (pieces : List Piece) → take 0 pieces ≡ []
    none [] = refl
    none (piece ∷ pieces) = refl

pub no_history : (found : Opened) (pieces : Option (List Piece)) → IsFillHistory found pieces []
no_history found None = record { legal = tt; puts = tt }
no_history found (Some pieces) = record { legal = tt; puts = no_puts (counted found) pieces }

-- ---- a file that isn't mounted

refused_answer : (name : List ℕ) (bytes : List ℕ) (before : Option (List ℕ)) (new : List DiskState) (told : Result CommandOutcome Stop) → IfOk told (IsRefusedFile name bytes) → reads_of new ≡ Some bytes
    → IfSome before (λ given. IfOk told (λ outcome. outcome.status.0 ≢ 7 → AnswersFile (fill_over name given bytes) outcome (reads_of new)))
refused_answer name bytes None new told refused reads = tt
refused_answer name bytes (Some given) new (Err why) refused reads = tt
refused_answer name bytes (Some given) new (Ok outcome) refused reads = λ other.
    subst (λ (r : Result Opened LayoutFault). AnswersFile (fill_judged name given bytes r) outcome (reads_of new)) (sym refused.judged)
    (record { ends = refused.ends; reads_is = reads })

never_full : (bytes : List ℕ) (before : Option (List ℕ)) (new : List DiskState) (told : Result CommandOutcome Stop) → IfOk told (λ outcome. outcome.status.0 ≡ 3)
    → IfSome before (λ given. IfOk told (λ outcome. outcome.status.0 ≡ 7 → FillsUp bytes given (reads_of new)))
never_full bytes None new told three = tt
never_full bytes (Some given) new (Err why) three = tt
never_full bytes (Some given) new (Ok outcome) three = λ seven. absurd (omega arith)

refused_unsettled : (name bytes : List ℕ) (before : Option (List ℕ)) (new : List DiskState) (told : Result CommandOutcome Stop) → IfOk told (IsRefusedFile name bytes)
    → status_of told ≢ 5 → status_of told ≢ 6 → (opened : Opened) → fillable_of bytes ≡ Ok opened → Now new (EndsAcknowledged opened (stream_pieces before))
refused_unsettled name bytes before new (Ok outcome) refused five six opened is = absurd (none_opened (fillable_of bytes) opened refused.fault is refused.judged)
refused_unsettled name bytes before new (Err stop.Fault) refused five six opened is = absurd (five refl)
refused_unsettled name bytes before new (Err stop.OutOfMemory) refused five six opened is = absurd (six refl)

synced_reads : (first : DiskState) (new : List DiskState) → new ≡ settled first.reads ∷ first ∷ [] → reads_of new ≡ Some first.reads
synced_reads first new is = ap reads_of is

pub disk_refused : (name : List ℕ) (first : DiskState) (new : List DiskState) (before : Option (List ℕ)) (told : Result CommandOutcome Stop) → IsSound first → IsOnlySynced (first ∷ []) new first.reads
    → IfOk told (IsRefusedFile name first.reads) → IfOk told (λ outcome. outcome.status.0 ≡ 3) → FillsDisk name first new before told
disk_refused name first new before told sound is refused three = record {
  grew = (settled first.reads ∷ [], is);
  answer = refused_answer name first.reads before new told refused (synced_reads first new is);
  full = never_full first.reads before new told three;
  moments = inl (only_synced first new sound is);
  settled = refused_unsettled name first.reads before new told refused;
}

-- ---- a disk that fails while it is mounted

fault_answer : (P : List ℕ → CommandOutcome → Type 0) (before : Option (List ℕ)) (told : Result CommandOutcome Stop) → told ≡ Err stop.Fault → IfSome before (λ given. IfOk told (P given))
fault_answer P None told is = tt
fault_answer P (Some given) told is = subst (λ (r : Result CommandOutcome Stop). IfOk r (P given)) (sym is) tt

disk_fault : (name : List ℕ) (first : DiskState) (new : List DiskState) (before : Option (List ℕ)) (told : Result CommandOutcome Stop) → told ≡ Err stop.Fault
    → ((more : List DiskState) × (new ≡ more ++ (first ∷ []))) → LeavesDisk (stream_pieces before) first new → FillsDisk name first new before told
disk_fault name first new before told is grew leaves = record {
  grew = grew;
  answer = fault_answer _ before told is;
  full = fault_answer _ before told is;
  moments = leaves;
  settled = λ five six. absurd (five (ap status_of is));
}

since_sync : (first : DiskState) (new : List DiskState) (pieces : Option (List Piece)) (found : Opened) → layout_of first.reads ≡ Ok found → AreOpened found (parts_of (fill_opening found))
    → LeavesOnly (settled first.reads ∷ first ∷ []) new (IsSameButCounts first.reads) → ReachesSince pieces first new
since_sync first new pieces found is opened leaves = record {
  opened = found;
  judged = mounted_fillable first.reads found is;
  later = leaves.grew.0;
  synced = leaves.grew.1;
  history = [];
  is_history = no_history found pieces;
  each = λ image left. begins first.reads image found [] is opened (leaves.each image left);
}

grew_past : (first : DiskState) (new : List DiskState) (P : List ℕ → Type 0) → LeavesOnly (settled first.reads ∷ first ∷ []) new P → (more : List DiskState) × (new ≡ more ++ (first ∷ []))
grew_past first new P leaves = (leaves.grew.0 ++ (settled first.reads ∷ []), leaves.grew.1 ∙ sym (append_assoc leaves.grew.0 (settled first.reads ∷ []) (first ∷ [])))

pub mount_failed : (name : List ℕ) (first : DiskState) (new : List DiskState) (before : Option (List ℕ)) (told : Result CommandOutcome Stop) → told ≡ Err stop.Fault → IsCutAtSync {T = Opened} (first ∷ []) new first.reads (Err mount.DiskFault) → IsUnwritten (first ∷ []) new first.reads (Err mount.DiskFault) → FillsDisk name first new before told
mount_failed name first new before told is cut (inl unsynced_is) = disk_fault name first new before told is (unsynced_grew first new unsynced_is) (inl (unsynced first new unsynced_is))
mount_failed name first new before told is (inl never) (inr needs) = disk_fault name first new before told is never.1.grew (inl (never_synced first new never.1))
mount_failed name first new before told is (inr since) (inr needs) =
    disk_fault name first new before told is (grew_past first new (IsSameButCounts first.reads) since)
    (inr (since_sync first new (stream_pieces before) needs.found needs.found_is (opened_parts_of needs.found) since))

-- ---- a file that is mounted

pub tells_more : (more : List DiskState) (disk : DiskState) (past : List DiskState) → tells (more ++ (disk ∷ past)) ≡ true
tells_more [] disk past = refl
tells_more (newer ∷ more) disk past = refl

pub counted_reads : (bytes : List ℕ) (mid : List DiskState) (found : Opened) (more : List DiskState) (disk : DiskState) (past : List DiskState) → mid ≡ more ++ (disk ∷ past) → layout_of bytes ≡ Ok found → Now mid (HasRightCounts bytes)
    → reads_of mid ≡ Some (counted_bytes found bytes)
counted_reads bytes [] found more disk past grew is right = absurd (none more grew)
  where
    none : (more : List DiskState) → [] ≡ more ++ (disk ∷ past) → ⊥
    none [] e = absurd (cc)
    none (newer ∷ more) e = absurd (cc)
counted_reads bytes (newest ∷ states) found more disk past grew is right =
    ap (λ (bytes : List ℕ). Some bytes) (right.reads_is ∙ ap (λ (o : Opened). counted_bytes o bytes) (one_opened (layout_of bytes) right.found found right.found_is is))

-- the states since the first one
pub grows_on : (base mid new : List DiskState) (P Q : List ℕ → Type 0) → LeavesOnly base mid P → (new ≡ mid) ⊎ LeavesOnly mid new Q → (later : List DiskState) × (new ≡ later ++ base)
grows_on base mid new P Q leaves (inl same) = (leaves.grew.0, same ∙ leaves.grew.1)
grows_on base mid new P Q leaves (inr runs) =
    (runs.grew.0 ++ leaves.grew.0, runs.grew.1 ∙ ap (λ (ds : List DiskState). runs.grew.0 ++ ds) leaves.grew.1 ∙ sym (append_assoc runs.grew.0 leaves.grew.0 base))

each_since : (first : DiskState) (mid new : List DiskState) (P Q : List ℕ → Type 0) → LeavesOnly (settled first.reads ∷ first ∷ []) mid P → ((image : List ℕ) → P image → Q image) → (new ≡ mid) ⊎ LeavesOnly mid new Q
    → HoldsSince 2 new Q
each_since first mid new P Q leaves weaker (inl same) = subst (λ (ds : List DiskState). HoldsSince 2 ds Q) (sym same) (λ image left. weaker image (leaves.each image left))
each_since first mid new P Q leaves weaker (inr runs) = λ image left.
    ⊎_elim (λ early. weaker image (leaves.each image early)) (λ late. late) (runs.before 2 image leaves.later left)

judged_answer : (name bytes : List ℕ) (found : Opened) (before : Option (List ℕ)) (new : List DiskState) (told : Result CommandOutcome Stop) → fillable_of bytes ≡ Ok found
    → AnswersOr name (counted found) (counted_bytes found bytes) before (reads_of new) told
    → IfSome before (λ given. IfOk told (λ outcome. outcome.status.0 ≢ 7 → AnswersFile (fill_over name given bytes) outcome (reads_of new)))
judged_answer name bytes found before new told judged answer =
    subst (λ (r : Result Opened LayoutFault). IfSome before (λ given. IfOk told (λ outcome. outcome.status.0 ≢ 7 → AnswersFile (fill_judged name given bytes r) outcome (reads_of new)))) (sym judged) answer

judged_full : (bytes : List ℕ) (found : Opened) (before : Option (List ℕ)) (new : List DiskState) (told : Result CommandOutcome Stop) → fillable_of bytes ≡ Ok found
    → IsFullOr (counted found) (counted_bytes found bytes) before (reads_of new) told → IfSome before (λ given. IfOk told (λ outcome. outcome.status.0 ≡ 7 → FillsUp bytes given (reads_of new)))
judged_full bytes found None new told judged full = tt
judged_full bytes found (Some given) new (Err why) judged full = tt
judged_full bytes found (Some given) new (Ok outcome) judged full = λ seven. record { opened = found; judged = judged; full = full seven }

pub settled_open : (found : Opened) (pieces : Option (List Piece)) (history : List Entry) (new : List DiskState) → IsFillHistory found pieces history → Now new (KeepsAllOpen (counted found) (fill_opening found) history)
    → Now new (EndsAcknowledged found pieces)
settled_open found pieces history [] is holds = tt
settled_open found pieces history (disk ∷ past) is holds = record { history = history; is_history = is; holds = record { keeps = holds.keeps; acknowledged = holds.acknowledged } }

counted_fills : (name : List ℕ) (first : DiskState) (mid new : List DiskState) (found : Opened) (before : Option (List ℕ)) (told : Result CommandOutcome Stop) → layout_of first.reads ≡ Ok found
    → AreOpened found (parts_of (fill_opening found)) → Now mid (HasRightCounts first.reads) → LeavesOnly (settled first.reads ∷ first ∷ []) mid (IsSameButCounts first.reads)
    → FillsCell name (cell_on mid 0 (counted found) 0) new before told → FillsDisk name first new before told
counted_fills name first mid new found before told is opened right leaves fills =
    let judged = mounted_fillable first.reads found is in
    let reads = counted_reads first.reads mid found leaves.grew.0 (settled first.reads) (first ∷ []) leaves.grew.1 is right in
    let grows = grows_on (settled first.reads ∷ first ∷ []) mid new (IsSameButCounts first.reads) (KeepsFront (fill_opening found) 0 fills.history) leaves fills.runs in
    let told_all : tells new ≡ true = ap tells grows.1 ∙ tells_more grows.0 (settled first.reads) (first ∷ []) in
    let history : IsFillHistory found (stream_pieces before) fills.history = record {
      legal = subst (λ (b : Bool). IsLegal 0 b (fill_opening found) fills.history) told_all fills.legal;
      puts = fills.puts;
    } in
    record {
      grew = (grows.0 ++ (settled first.reads ∷ []), grows.1 ∙ sym (append_assoc grows.0 (settled first.reads ∷ []) (first ∷ [])));
      answer = judged_answer name first.reads found before new told judged (fills.answer (counted_bytes found first.reads) reads);
      full = judged_full first.reads found before new told judged (fills.full (counted_bytes found first.reads) reads);
      moments = inr (record {
        opened = found;
        judged = judged;
        later = grows.0;
        synced = grows.1;
        history = fills.history;
        is_history = history;
        each = each_since first mid new (IsSameButCounts first.reads) (KeepsFront (fill_opening found) 0 fills.history) leaves (λ image same. begins first.reads image found fills.history is opened same) fills.runs;
      });
      settled = λ five six other other_is.
          subst (λ (o : Opened). Now new (EndsAcknowledged o (stream_pieces before))) (one_opened (fillable_of first.reads) found other judged other_is)
          (settled_open found (stream_pieces before) fills.history new history (fills.settled five six));
    }

pub mounted_fills : (name : List ℕ) (first : DiskState) (mid new : List DiskState) (opened : Opened) (before : Option (List ℕ)) (told : Result CommandOutcome Stop) → GivesMounted (Ok opened) (layout_of first.reads) → Now mid (HasRightCounts first.reads) → IsCutAtSync (first ∷ []) mid first.reads (Ok opened)
    → FillsCell name (cell_on mid 0 opened 0) new before told → FillsDisk name first new before told
mounted_fills name first mid new opened before told is right (inl never) fills = absurd (cc)
mounted_fills name first mid new opened before told is right (inr since) fills =
    counted_fills name first mid new is.found before told is.wanted_is
    (opened_parts_of is.found) right since
    (subst (λ (o : Opened). FillsCell name (cell_on mid 0 o 0) new before told) is.counted_is fills)

-- ---- as it was lent

pub lent_mounted : (name : List ℕ) (old mid new : List DiskState) (opened : Opened) (before : Option (List ℕ)) (told : Result CommandOutcome Stop) → Now old (λ state. GivesMounted (Ok opened) (layout_of state.reads))
    → Now old (λ state. Now mid (HasRightCounts state.reads)) → Now old (λ state. IsCutAtSync old mid state.reads (Ok opened)) → FillsCell name (cell_on mid 0 opened 0) new before told
    → (first : DiskState) → old ≡ first ∷ [] → FillsDisk name first new before told
lent_mounted name old mid new opened before told answer right cut fills first is =
    mounted_fills name first mid new opened before told (subst (λ (ds : List DiskState). Now ds (λ state. GivesMounted (Ok opened) (layout_of state.reads))) is answer)
    (subst (λ (ds : List DiskState). Now ds (λ state. Now mid (HasRightCounts state.reads))) is right) (subst (λ (ds : List DiskState). Now ds (λ state. IsCutAtSync ds mid state.reads (Ok opened))) is cut) fills

refused_told : (name : List ℕ) (first : DiskState) (mid : List DiskState) (fault : MountFault) (reads : Option (List ℕ)) (told : Result CommandOutcome Stop) → mid ≡ settled first.reads ∷ first ∷ [] → reads ≡ reads_of mid
    → GivesMountFault fault (layout_of first.reads) → IfSome reads (λ bytes. GivesMountFault fault (layout_of bytes) → IfOk told (IsRefusedFile name bytes)) → IfOk told (IsRefusedFile name first.reads)
refused_told name first mid fault reads told is reads_is gives refused =
    subst (λ (r : Option (List ℕ)). IfSome r (λ bytes. GivesMountFault fault (layout_of bytes) → IfOk told (IsRefusedFile name bytes))) (reads_is ∙ ap reads_of is) refused gives

not_mounted : (name : List ℕ) (first : DiskState) (mid : List DiskState) (reads : Option (List ℕ)) (fault : MountFault) (before : Option (List ℕ)) (told : Result CommandOutcome Stop) → IsSound first → reads ≡ reads_of mid
    → GivesMountFault fault (layout_of first.reads) → IsCutAtSync {T = Opened} (first ∷ []) mid first.reads (Err fault) → IsUnwritten (first ∷ []) mid first.reads (Err fault)
    → IfSome reads (λ bytes. GivesMountFault fault (layout_of bytes) → IfOk told (IsRefusedFile name bytes)) → IfOk told (λ outcome. outcome.status.0 ≡ 3) → (fault ≡ mount.DiskFault → told ≡ Err stop.Fault)
    → FillsDisk name first mid before told
not_mounted name first mid reads (mount.Layout fault) before told sound reads_is gives cut unwritten refused three failed =
    disk_refused name first mid before told sound unwritten (refused_told name first mid (mount.Layout fault) reads told unwritten reads_is gives refused) three
not_mounted name first mid reads mount.DiskFault before told sound reads_is gives cut unwritten refused three failed = mount_failed name first mid before told (failed refl) cut unwritten
not_mounted name first mid reads mount.OutOfMemory before told sound reads_is gives cut unwritten refused three failed =
    disk_refused name first mid before told sound unwritten (refused_told name first mid mount.OutOfMemory reads told unwritten reads_is gives refused) three

pub lent_refused : (name : List ℕ) (old mid new : List DiskState) (reads : Option (List ℕ)) (fault : MountFault) (before : Option (List ℕ)) (told : Result CommandOutcome Stop) → SoundNow old → new ≡ mid → reads ≡ reads_of mid
    → Now old (λ state. GivesMountFault fault (layout_of state.reads)) → Now old (λ state. IsCutAtSync {T = Opened} old mid state.reads (Err fault)) → Now old (λ state. IsUnwritten old mid state.reads (Err fault))
    → IfSome reads (λ bytes. GivesMountFault fault (layout_of bytes) → IfOk told (IsRefusedFile name bytes)) → IfOk told (λ outcome. outcome.status.0 ≡ 3) → (fault ≡ mount.DiskFault → told ≡ Err stop.Fault)
    → (first : DiskState) → old ≡ first ∷ [] → FillsDisk name first new before told
lent_refused name old mid new reads fault before told sound same reads_is answer cut unwritten refused three failed first is =
    subst (λ (ds : List DiskState). FillsDisk name first ds before told) (sym same)
    (not_mounted name first mid reads fault before told (sound first [] is) reads_is (subst (λ (ds : List DiskState). Now ds (λ state. GivesMountFault fault (layout_of state.reads))) is answer)
    (subst (λ (ds : List DiskState). Now ds (λ state. IsCutAtSync {T = Opened} ds mid state.reads (Err fault))) is cut) (subst (λ (ds : List DiskState). Now ds (λ state. IsUnwritten ds mid state.reads (Err fault))) is unwritten)
    refused three failed)

-- ---- without memory for a cell

pub no_cell : (name : List ℕ) (mid new : List DiskState) (opened : Opened) (before : Option (List ℕ)) → new ≡ mid → FillsCell name (cell_on mid 0 opened 0) new before (Err stop.OutOfMemory)
no_cell name mid new opened before same = record {
  history = [];
  legal = tt;
  puts = puts before;
  runs = inl same;
  answer = λ bytes reads. no_answer bytes before;
  full = λ bytes reads. not_full bytes before;
  settled = λ five six. absurd (six refl);
}
  where
    puts : (before : Option (List ℕ)) → IfSome (stream_pieces before) (PutsPieces opened [])
    puts None = tt
    puts (Some given) = no_puts opened (stream_front given).pieces

    no_answer : (bytes : List ℕ) (before : Option (List ℕ)) → AnswersOr name opened bytes before (reads_of new) (Err stop.OutOfMemory)
    no_answer bytes None = tt
    no_answer bytes (Some given) = tt

    not_full : (bytes : List ℕ) (before : Option (List ℕ)) → IsFullOr opened bytes before (reads_of new) (Err stop.OutOfMemory)
    not_full bytes None = tt
    not_full bytes (Some given) = tt
