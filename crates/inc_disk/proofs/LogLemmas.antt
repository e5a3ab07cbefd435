-- The log of a shelf: the newest state of a name, and the images of a name once a disk is given back.
use Rattle.std.proofs.Common.{◌≡◌, ◌≢◌, ◌⊎◌, inl, inr, ⊎_elim, ℕ, suc, ◌+◌, ◌-◌, ◌<◌, ◌≤◌, Bool, false, true, cond, List, [], ◌∷◌, ◌++◌, length, take, get_or, Option, None, Some, refl, sym, ◌∙◌, ap, subst, arith}
use Rattle.std.proofs.lemmas.List.{take_more}
use Rattle.std.proofs.lemmas.Slice.Eq.{bytes_eq-Decides}
use Rattle.std.specs.Prelude.{option_map, is_some, IfSome}
use Rattle.std.specs.Option.{option_to_list}
use Rattle.std.specs.Str.{bytes_eq}
use Rattle.std.specs.Ordering.{nat_cmp, eq_by_cmp}
use Rattle.std.specs.Cmp.Lexicographic.{slice_cmp, texts_ties, nat_list_cmp_total}
use Rattle.std.specs.FinMap.{get, get-empty, get-insert}
use Rattle.inc_disk.specs.Disk.{DiskState, MayHaveLeft, reads_of}
use Rattle.inc_disk.specs.Log.{Log, newest_of, contents_of, entries_of, IsImageOf, MayHaveLeftOf, MayHaveLeftFile}
use Rattle.inc_disk.specs.Laws.{JoinsImages, KeepsOthers}
use Rattle.inc_disk.specs.Book.{log_after, log_of}
use Rattle.inc_disk.specs.declared.entry.Entry.{Entry}

-- The log of a list of entries.

pub log_push : (log : Log) (entries : List Entry) (entry : Entry) → log_after log (entries ++ entry ∷ []) ≡ entries_of entry.name entry.history ++ log_after log entries
log_push log [] entry = refl
log_push log (first ∷ entries) entry = log_push (entries_of first.name first.history ++ log) entries entry

pub log_step : (entries : List Entry) (i : ℕ) (d : Entry) → i < length entries
    → log_of (take (i + 1) entries) ≡ entries_of (get_or entries i d).name (get_or entries i d).history ++ log_of (take i entries)
log_step entries i d lt = ap log_of (take_more entries i d lt) ∙ log_push [] (take i entries) (get_or entries i d)

-- The newest state of a name.

itself : (name : List ℕ) → bytes_eq name name ≡ true
itself name = (bytes_eq-Decides name name).1 refl

not_true : (b : Bool) → b ≢ true → b ≡ false
not_true true ne = absurd (ne refl)
not_true false ne = refl

differs : (name other : List ℕ) → other ≢ name → bytes_eq other name ≡ false
differs name other ne = not_true (bytes_eq other name) (λ e. ne ((bytes_eq-Decides other name).0 e))

pub newest_same : (name other : List ℕ) (disk : DiskState) (past : List DiskState) (log : Log) → bytes_eq name other ≡ true → newest_of name (entries_of other (disk ∷ past) ++ log) ≡ Some disk
newest_same name other disk past log e = ap (λ (b : Bool). cond b (Some disk) (newest_of name (entries_of other past ++ log))) e

pub newest_other : (name other : List ℕ) (states : List DiskState) (log : Log) → bytes_eq name other ≡ false → newest_of name (entries_of other states ++ log) ≡ newest_of name log
newest_other name other [] log e = refl
newest_other name other (disk ∷ past) log e =
    ap (λ (b : Bool). cond b (Some disk) (newest_of name (entries_of other past ++ log))) e ∙ newest_other name other past log e

-- one entry more on the way through a list of entries
pub newest_step_same : (name : List ℕ) (entries : List Entry) (i : ℕ) (d : Entry) (disk : DiskState) (past : List DiskState) → i < length entries
    → bytes_eq name (get_or entries i d).name ≡ true → (get_or entries i d).history ≡ disk ∷ past → newest_of name (log_of (take (i + 1) entries)) ≡ Some disk
newest_step_same name entries i d disk past lt same is =
    ap (newest_of name) (log_step entries i d lt)
    ∙ ap (λ (states : List DiskState). newest_of name (entries_of (get_or entries i d).name states ++ log_of (take i entries))) is
    ∙ newest_same name (get_or entries i d).name disk past (log_of (take i entries)) same

pub newest_step_other : (name : List ℕ) (entries : List Entry) (i : ℕ) (d : Entry) → i < length entries
    → bytes_eq name (get_or entries i d).name ≡ false → newest_of name (log_of (take (i + 1) entries)) ≡ newest_of name (log_of (take i entries))
newest_step_other name entries i d lt other =
    ap (newest_of name) (log_step entries i d lt) ∙ newest_other name (get_or entries i d).name (get_or entries i d).history (log_of (take i entries)) other

-- What stands on the shelf.

chosen : (b c : Bool) (disk : DiskState) (newest : Option DiskState) (bytes : Option (List ℕ)) → b ≡ c → bytes ≡ option_map (λ disk. disk.reads) newest
    → cond c (Some disk.reads) bytes ≡ option_map (λ disk. disk.reads) (cond b (Some disk) newest)
chosen true true disk newest bytes e is = refl
chosen false false disk newest bytes e is = is
chosen true false disk newest bytes e is = absurd (cc)
chosen false true disk newest bytes e is = absurd (cc)

pub get_contents : (log : Log) (name : List ℕ) → get (contents_of log) name ≡ option_map (λ disk. disk.reads) (newest_of name log)
get_contents [] name = get-empty (slice_cmp nat_cmp) name
get_contents (entry ∷ log) name =
    get-insert nat_list_cmp_total (contents_of log) entry.0 entry.1.reads name
    ∙ chosen (bytes_eq name entry.0) (eq_by_cmp (slice_cmp nat_cmp) name entry.0) entry.1 (newest_of name log) (get (contents_of log) name) (texts_ties name entry.0) (get_contents log name)

-- a file that is found is what stands there
pub stands : (found : Option DiskState) (log : Log) (name : List ℕ) → found ≡ newest_of name log → option_map (λ disk. disk.reads) found ≡ get (contents_of log) name
stands found log name e = ap (option_map (λ disk. disk.reads)) e ∙ sym (get_contents log name)

is_some-map : (newest : Option DiskState) → is_some newest ≡ is_some (option_map (λ disk. disk.reads) newest)
is_some-map None = refl
is_some-map (Some disk) = refl

pub lent_found : (lent : Bool) (log : Log) (name : List ℕ) → lent ≡ is_some (newest_of name log) → lent ≡ is_some (get (contents_of log) name)
lent_found lent log name e = e ∙ is_some-map (newest_of name log) ∙ ap is_some (sym (get_contents log name))

reads_of_newest : (newest : Option DiskState) → reads_of (option_to_list newest) ≡ option_map (λ disk. disk.reads) newest
reads_of_newest None = refl
reads_of_newest (Some disk) = refl

pub lent_reads : {D : Type 0} (states : D → List DiskState) (lent : Option D) (log : Log) (name : List ℕ) → IfSome lent (λ disk. states disk ≡ option_to_list (newest_of name log))
    → IfSome lent (λ disk. reads_of (states disk) ≡ get (contents_of log) name)
lent_reads states None log name e = tt
lent_reads states (Some disk) log name e = ap reads_of e ∙ reads_of_newest (newest_of name log) ∙ sym (get_contents log name)

-- The images of a name.

length-entries_of : (name : List ℕ) (states : List DiskState) (log : Log) → length (entries_of name states ++ log) ≡ length states + length log
length-entries_of name [] log = omega arith
length-entries_of name (disk ∷ past) log = omega (arith, length-entries_of name past log)

-- what might have been left on a shelf might have been left whatever came since
pub left_before : (name other : List ℕ) (moment : ℕ) (states : List DiskState) (log : Log) (image : Option (List ℕ)) → MayHaveLeftOf name moment log image → MayHaveLeftOf name moment (entries_of other states ++ log) image
left_before name other moment [] log image left = left
left_before name other moment (disk ∷ past) log image left = inr (left_before name other moment past log image left)

file_left : (moment : ℕ) (disk : DiskState) (past : List DiskState) (image : Option (List ℕ)) → MayHaveLeftFile moment past image → MayHaveLeftFile moment (disk ∷ past) image
file_left moment disk past None left = left
file_left moment disk past (Some bytes) left = inr left

file_now : (moment : ℕ) (disk : DiskState) (past : List DiskState) (image : Option (List ℕ)) → moment ≤ suc (length past) → IsImageOf (Some disk) image → MayHaveLeftFile moment (disk ∷ past) image
file_now moment disk past None le is = is
file_now moment disk past (Some bytes) le is = inl (le, is)

joined_each : (name : List ℕ) (moment : ℕ) (states : List DiskState) (log : Log) (image : Option (List ℕ)) → MayHaveLeftOf name moment (entries_of name states ++ log) image
    → MayHaveLeftOf name moment log image ⊎ MayHaveLeftFile (moment - length log) states image
joined_each name moment [] log image left = inl left
joined_each name moment (disk ∷ past) log image (inl here) =
    inr (file_now (moment - length log) disk past image (omega (arith, here.0, length-entries_of name past log)) (subst (λ newest. IsImageOf newest image) (newest_same name name disk past log (itself name)) here.1))
joined_each name moment (disk ∷ past) log image (inr there) =
    ⊎_elim (λ before. inl before) (λ since. inr (file_left (moment - length log) disk past image since)) (joined_each name moment past log image there)

joined_disk : (name : List ℕ) (moment : ℕ) (states : List DiskState) (log : Log) (bytes : List ℕ) → MayHaveLeft (moment - length log) states bytes → MayHaveLeftOf name moment (entries_of name states ++ log) (Some bytes)
joined_disk name moment [] log bytes left = absurd left
joined_disk name moment (disk ∷ past) log bytes (inl here) =
    inl (omega (arith, here.0, length-entries_of name past log), subst (λ newest. IsImageOf newest (Some bytes)) (sym (newest_same name name disk past log (itself name))) here.1)
joined_disk name moment (disk ∷ past) log bytes (inr there) = inr (joined_disk name moment past log bytes there)

file_joined : (name : List ℕ) (moment : ℕ) (states : List DiskState) (log : Log) (image : Option (List ℕ)) → MayHaveLeftFile (moment - length log) states image → MayHaveLeftOf name moment (entries_of name states ++ log) image
file_joined name moment states log None left = absurd left
file_joined name moment states log (Some bytes) left = joined_disk name moment states log bytes left

pub joins_images : (name : List ℕ) (states : List DiskState) (log : Log) → JoinsImages name states log
joins_images name states log = record {
  newest = λ disk past is. subst (λ (disks : List DiskState). newest_of name (entries_of name disks ++ log) ≡ Some disk) (sym is) (newest_same name name disk past log (itself name));
  each = λ moment image left. joined_each name moment states log image left;
  shelf = λ moment image left. left_before name name moment states log image left;
  disk = λ moment image left. file_joined name moment states log image left;
}

left_now : (name : List ℕ) (moment : ℕ) (log : Log) (image : Option (List ℕ)) → moment ≤ length log → IsImageOf (newest_of name log) image → MayHaveLeftOf name moment log image
left_now name moment [] image le is = (le, is)
left_now name moment (entry ∷ log) image le is = inl (le, is)

other_each : (name other : List ℕ) (moment : ℕ) (states : List DiskState) (log : Log) (image : Option (List ℕ)) → bytes_eq other name ≡ false → moment ≤ length log
    → MayHaveLeftOf other moment (entries_of name states ++ log) image → MayHaveLeftOf other moment log image
other_each name other moment [] log image ne le left = left
other_each name other moment (disk ∷ past) log image ne le (inl here) =
    left_now other moment log image le (subst (λ newest. IsImageOf newest image) (newest_other other name (disk ∷ past) log ne) here.1)
other_each name other moment (disk ∷ past) log image ne le (inr there) = other_each name other moment past log image ne le there

pub keeps_others : (name : List ℕ) (states : List DiskState) (log : Log) → KeepsOthers name states log
keeps_others name states log = record {
  newest = λ other ne. newest_other other name states log (differs name other ne);
  each = λ other moment image ne le left. other_each name other moment states log image (differs name other ne) le left;
  kept = λ other moment image left. left_before other name moment states log image left;
}
