-- What a make leaves on a shelf, over a log that may not be told.
use Rattle.std.proofs.Common.{◌≡◌, inl, inr, ⊎_elim, ℕ, suc, ◌-◌, ◌≤◌, Bool, true, false, cond, List, [], ◌∷◌, ◌++◌, length, Option, Some, None, Result, Ok, Err, refl, sym, ap, ◌∙◌, subst, arith}
use Rattle.std.specs.Prelude.{IfSome, IfOk, is_some, not, option_map, Contains}
use Rattle.std.proofs.lemmas.List.Elements.{Contains-append_right}
use Rattle.std.specs.Str.{bytes_eq}
use Rattle.std.specs.Cmp.Lexicographic.{texts_ties, nat_list_cmp_total}
use Rattle.std.specs.FinMap.{get, get-insert, insert, same_map, slice_cmp-IsAntisymmetric, nat_cmp-IsAntisymmetric}
use Rattle.inc_disk.specs.Disk.{DiskState, IsImage, MayHaveLeft, Now, settled}
use Rattle.inc_disk.specs.Log.{Log, IsImageOf, MayHaveLeftFile, MayHaveLeftOf, contents_of, entries_of, newest_of}
use Rattle.inc_disk.specs.Laws.{LeavesOnly}
use Rattle.inc_disk.proofs.LogLemmas.{get_contents, joins_images, newest_other, newest_same}
use Rattle.inc_io.specs.Contents.{Contents}
use Rattle.inc_recover.specs.Making.{MayBeLeft}
use Rattle.inc_tree.specs.shape.Geometry.{Shape}
use Rattle.inc_cmd.specs.Commands.Make.{AddsOnly, LeavesNew, MayBeMade, made, made_text}
use Rattle.inc_words.specs.Endings.{AnswersAs, EndsAs, refused}
use Rattle.inc_words.specs.Refusals.{exists}
use Rattle.inc_cmd.specs.Runs.{IfLogs}
use Rattle.inc_words.specs.declared.outcome.CommandOutcome.{CommandOutcome}
use Rattle.inc_words.specs.declared.stop.Stop.{Stop}

-- ---- a shelf that stays as it is

-- no moment is later than the present one
pub not_later : (name : List ℕ) (moment : ℕ) (log : Log) (image : Option (List ℕ)) → MayHaveLeftOf name moment log image → moment ≤ length log
not_later name moment [] image left = left.0
not_later name moment (entry ∷ past) image (inl here) = here.0
not_later name moment (entry ∷ past) image (inr there) = let before : moment ≤ length past = not_later name moment past image there in omega arith

same_log : (name : List ℕ) (log : Log) → AddsOnly name log log
same_log name log = record { untouched = λ e. refl; own = ([], refl) }

nothing_left : (name fresh : List ℕ) (log : Log) → LeavesNew name fresh log log
nothing_left name fresh log = λ image left. absurd (let late : suc (length log) ≤ length log = not_later name (suc (length log)) log image left in omega arith)

pub adds_none : (before after : Option Log) (name : List ℕ) → after ≡ before → IfLogs before after (AddsOnly name)
adds_none None after name same = tt
adds_none (Some before) after name same = subst (λ (log : Option Log). IfSome log (AddsOnly name before)) (sym same) (same_log name before)

pub leaves_none : (before after : Option Log) (name fresh : List ℕ) → after ≡ before → IfLogs before after (LeavesNew name fresh)
leaves_none None after name fresh same = tt
leaves_none (Some before) after name fresh same = subst (λ (log : Option Log). IfSome log (LeavesNew name fresh before)) (sym same) (nothing_left name fresh before)

-- the same where the input may not be told
pub given_none : (left : Option (List ℕ)) (before after : Option Log) (name : List ℕ) (fresh : List ℕ → List ℕ) → after ≡ before
    → IfSome left (λ given. IfLogs before after (LeavesNew name (fresh given)))
given_none None before after name fresh same = tt
given_none (Some given) before after name fresh same = leaves_none before after name (fresh given) same

-- ---- the moments of a make

-- what a crash left as the file came to stand is left by the run too
first_left : (states more : List DiskState) (first : DiskState) (image : List ℕ) → states ≡ more ++ first ∷ [] → IsImage first image → MayHaveLeft 1 states image
first_left states more first image grew is = subst (λ (ds : List DiskState). MayHaveLeft 1 ds image) (sym grew) (at_end more)
  where
    at_end : (more : List DiskState) → MayHaveLeft 1 (more ++ first ∷ []) image
    at_end [] = inl (omega arith, is)
    at_end (disk ∷ past) = inr (at_end past)

pub own_entries : (name : List ℕ) (states : List DiskState) (first : DiskState) (log : Log) → entries_of name states ++ (name, first) ∷ log ≡ entries_of name (states ++ first ∷ []) ++ log
own_entries name [] first log = refl
own_entries name (disk ∷ past) first log = ap (λ (rest : Log). (name, disk) ∷ rest) (own_entries name past first log)

own_file : (name : List ℕ) (states : List DiskState) (log : Log) → true ≡ not (is_some (newest_of name log)) → AddsOnly name log (entries_of name states ++ (name, settled []) ∷ log)
own_file name states log free = record {
  untouched = λ there. absurd (none (is_some (newest_of name log)) free there);
  own = (states ++ settled [] ∷ [], own_entries name states (settled []) log);
}
  where
    none : (there : Bool) → true ≡ not there → there ≡ true → ⊥
    none true free e = absurd (cc)
    none false free e = absurd (cc)

pub file_log : (name fresh : List ℕ) (states : List DiskState) (log : Log) → LeavesOnly (settled [] ∷ []) states (MayBeLeft fresh)
    → LeavesNew name fresh log (entries_of name states ++ (name, settled []) ∷ log)
file_log name fresh states log leaves =
    λ image left. ⊎_elim (on_shelf image) (of_disk image) ((joins_images name states ((name, settled []) ∷ log)).each (suc (length log)) image left)
  where
    empty : (image : List ℕ) → IsImage (settled []) image → MayBeLeft fresh image
    empty image is = leaves.each image (first_left states leaves.grew.0 (settled []) image leaves.grew.1 is)

    of_first : (image : Option (List ℕ)) → IsImageOf (Some (settled [])) image → MayBeMade fresh image
    of_first None is = tt
    of_first (Some bytes) is = empty bytes is

    on_shelf : (image : Option (List ℕ)) → MayHaveLeftOf name (suc (length log)) ((name, settled []) ∷ log) image → MayBeMade fresh image
    on_shelf image (inl here) =
        of_first image (subst (λ newest. IsImageOf newest image) ((joins_images name (settled [] ∷ []) log).newest (settled []) [] refl) here.1)
    on_shelf image (inr there) = absurd (let late : suc (length log) ≤ length log = not_later name (suc (length log)) log image there in omega arith)

    of_disk : (image : Option (List ℕ)) → MayHaveLeftFile (suc (length log) - length ((name, settled []) ∷ log)) states image → MayBeMade fresh image
    of_disk None left = tt
    of_disk (Some bytes) left =
        let early : suc (length log) - length ((name, settled []) ∷ log) ≤ 1 = omega arith in
        ⊎_elim (λ before. earlier bytes before) (λ is. is) (leaves.before (suc (length log) - length ((name, settled []) ∷ log)) bytes early left)
      where
        earlier : (bytes : List ℕ) → MayHaveLeft (suc (length log) - length ((name, settled []) ∷ log)) (settled [] ∷ []) bytes → MayBeLeft fresh bytes
        earlier bytes (inl here) = empty bytes here.1
        earlier bytes (inr there) = absurd there

-- a file came to stand, was written and given back
pub all_entries : (log : Log) (created after : Option Log) (name : List ℕ) (states : List DiskState) → created ≡ option_map (λ log. (name, settled []) ∷ log) (Some log)
    → after ≡ option_map (λ log. entries_of name states ++ log) created → after ≡ Some (entries_of name states ++ (name, settled []) ∷ log)
all_entries log created after name states made back = back ∙ ap (option_map (λ (entries : Log). entries_of name states ++ entries)) made

pub adds_file : (told created after : Option Log) (name : List ℕ) (states : List DiskState) → IfSome told (λ log. true ≡ not (is_some (newest_of name log)))
    → created ≡ option_map (λ log. (name, settled []) ∷ log) told → after ≡ option_map (λ log. entries_of name states ++ log) created → IfLogs told after (AddsOnly name)
adds_file None created after name states free made back = tt
adds_file (Some log) created after name states free made back =
    subst (λ (told : Option Log). IfSome told (AddsOnly name log)) (sym (all_entries log created after name states made back)) (own_file name states log free)

pub leaves_file : (told created after : Option Log) (name fresh : List ℕ) (lent states : List DiskState) → IfSome told (λ log. lent ≡ settled [] ∷ [])
    → created ≡ option_map (λ log. (name, settled []) ∷ log) told → after ≡ option_map (λ log. entries_of name states ++ log) created
    → LeavesOnly lent states (MayBeLeft fresh) → IfLogs told after (LeavesNew name fresh)
leaves_file None created after name fresh lent states empty made back leaves = tt
leaves_file (Some log) created after name fresh lent states empty made back leaves =
    subst (λ (told : Option Log). IfSome told (LeavesNew name fresh log)) (sym (all_entries log created after name states made back))
    (file_log name fresh states log (subst (λ (ds : List DiskState). LeavesOnly ds states (MayBeLeft fresh)) empty leaves))

-- ---- the files that stand afterwards

by_name : (name other fresh : List ℕ) (disk : DiskState) (past : List DiskState) (log : Log) (same : Bool) → bytes_eq other name ≡ same → disk.reads ≡ fresh
    → option_map (λ (d : DiskState). d.reads) (newest_of other (entries_of name (disk ∷ past) ++ (name, settled []) ∷ log)) ≡ cond same (Some fresh) (get (contents_of log) other)
by_name name other fresh disk past log true is reads =
    ap (option_map (λ (d : DiskState). d.reads)) (newest_same other name disk past ((name, settled []) ∷ log) is) ∙ ap (λ (bytes : List ℕ). Some bytes) reads
by_name name other fresh disk past log false is reads =
    ap (option_map (λ (d : DiskState). d.reads)) (newest_other other name (disk ∷ past) ((name, settled []) ∷ log) is ∙ newest_other other name (settled [] ∷ []) log is)
    ∙ sym (get_contents log other)

pub with_file : (name fresh : List ℕ) (disk : DiskState) (past : List DiskState) (log : Log) → disk.reads ≡ fresh
    → contents_of (entries_of name (disk ∷ past) ++ (name, settled []) ∷ log) ≡ insert (contents_of log) name fresh
with_file name fresh disk past log reads =
    same_map nat_list_cmp_total (slice_cmp-IsAntisymmetric nat_cmp-IsAntisymmetric) _ _ (λ (other : List ℕ).
    get_contents (entries_of name (disk ∷ past) ++ (name, settled []) ∷ log) other
    ∙ by_name name other fresh disk past log (bytes_eq other name) refl reads
    ∙ ap (λ (b : Bool). cond b (Some fresh) (get (contents_of log) other)) (texts_ties other name)
    ∙ sym (get-insert nat_list_cmp_total (contents_of log) name fresh other))

now_file : (name fresh : List ℕ) (states more : List DiskState) (first : DiskState) (log : Log) → states ≡ more ++ first ∷ [] → Now states (λ state. state ≡ settled fresh)
    → contents_of (entries_of name states ++ (name, settled []) ∷ log) ≡ insert (contents_of log) name fresh
now_file name fresh [] more first log grew now = absurd (none more grew)
  where
    none : (more : List DiskState) → [] ≡ more ++ first ∷ [] → ⊥
    none [] e = absurd (cc)
    none (disk ∷ past) e = absurd (cc)
now_file name fresh (disk ∷ past) more first log grew now = with_file name fresh disk past log (ap (λ (d : DiskState). d.reads) now)

-- ---- what is answered

pub there_is : (log : Log) (name : List ℕ) (there : Bool) → there ≡ is_some (newest_of name log) → is_some (get (contents_of log) name) ≡ there
there_is log name there is = ap is_some (get_contents log name) ∙ mapped (newest_of name log) ∙ sym is
  where
    mapped : (newest : Option DiskState) → is_some (option_map (λ (d : DiskState). d.reads) newest) ≡ is_some newest
    mapped None = refl
    mapped (Some disk) = refl

pub not_true : (b : Bool) → false ≡ not b → true ≡ b
not_true true e = refl
not_true false e = absurd (cc)

pub not_false : (b : Bool) → true ≡ not b → false ≡ b
not_false false e = refl
not_false true e = absurd (cc)

outcome_stays : (name : List ℕ) (shape : Shape) (fresh : List ℕ) (files : Contents) (stored : Option (List ℕ)) (now : Option Contents) (result : Result CommandOutcome Stop) → is_some stored ≡ true
    → now ≡ Some files → IfOk result (EndsAs (refused name exists)) → IfOk result (λ outcome. AnswersAs (made name shape fresh files stored) outcome now)
outcome_stays name shape fresh files None now result there same ends = absurd (cc)
outcome_stays name shape fresh files (Some bytes) now (Ok outcome) there same ends = record { status_is = ends.status_is; text_is = ends.text_is; after_is = same }
outcome_stays name shape fresh files (Some bytes) now (Err stop) there same ends = tt

-- nothing was lent, since the name is there
pub answers_exists : (told now : Option Contents) (log : Option Log) (name : List ℕ) (shape : Shape) (fresh : List ℕ) (result : Result CommandOutcome Stop) → told ≡ option_map contents_of log → now ≡ told
    → IfSome log (λ entries. false ≡ not (is_some (newest_of name entries))) → IfOk result (EndsAs (refused name exists))
    → IfSome told (λ files. IfOk result (λ outcome. AnswersAs (made name shape fresh files (get files name)) outcome now))
answers_exists told now None name shape fresh result is same found ends =
    subst (λ (t : Option Contents). IfSome t (λ files. IfOk result (λ outcome. AnswersAs (made name shape fresh files (get files name)) outcome now))) (sym is) tt
answers_exists told now (Some log) name shape fresh result is same found ends =
    subst (λ (t : Option Contents). IfSome t (λ files. IfOk result (λ outcome. AnswersAs (made name shape fresh files (get files name)) outcome now))) (sym is)
    (outcome_stays name shape fresh (contents_of log) (get (contents_of log) name) now result (there_is log name true (not_true (is_some (newest_of name log)) found)) (same ∙ is) ends)

outcome_made : (name : List ℕ) (shape : Shape) (fresh : List ℕ) (files : Contents) (stored : Option (List ℕ)) (now : Option Contents) (outcome : CommandOutcome) → is_some stored ≡ false
    → now ≡ Some (insert files name fresh) → outcome.status.0 ≡ 0 → outcome.text.items ≡ made_text name shape fresh → AnswersAs (made name shape fresh files stored) outcome now
outcome_made name shape fresh files (Some bytes) now outcome there after status text = absurd (cc)
outcome_made name shape fresh files None now outcome there after status text = record { status_is = status; text_is = text; after_is = after }

pub answers_made : (told now : Option Contents) (log created after : Option Log) (name : List ℕ) (shape : Shape) (fresh : List ℕ) (lent states : List DiskState) (outcome : CommandOutcome)
    → told ≡ option_map contents_of log → now ≡ option_map contents_of after → IfSome log (λ entries. true ≡ not (is_some (newest_of name entries)))
    → IfSome log (λ log. lent ≡ settled [] ∷ []) → created ≡ option_map (λ log. (name, settled []) ∷ log) log → after ≡ option_map (λ log. entries_of name states ++ log) created
    → LeavesOnly lent states (MayBeLeft fresh) → Now states (λ state. state ≡ settled fresh) → outcome.status.0 ≡ 0 → outcome.text.items ≡ made_text name shape fresh
    → IfSome told (λ files. AnswersAs (made name shape fresh files (get files name)) outcome now)
answers_made told now None created after name shape fresh lent states outcome is now_is free empty made_is back leaves whole status text =
    subst (λ (t : Option Contents). IfSome t (λ files. AnswersAs (made name shape fresh files (get files name)) outcome now)) (sym is) tt
answers_made told now (Some log) created after name shape fresh lent states outcome is now_is free empty made_is back leaves whole status text =
    let same : contents_of (entries_of name states ++ (name, settled []) ∷ log) ≡ insert (contents_of log) name fresh =
    now_file name fresh states leaves.grew.0 (settled []) log (leaves.grew.1 ∙ ap (λ (ds : List DiskState). leaves.grew.0 ++ ds) empty) whole in
    subst (λ (t : Option Contents). IfSome t (λ files. AnswersAs (made name shape fresh files (get files name)) outcome now)) (sym is)
    (outcome_made name shape fresh (contents_of log) (get (contents_of log) name) now outcome (there_is log name false (not_false (is_some (newest_of name log)) free))
    (now_is ∙ ap (option_map contents_of) (all_entries log created after name states made_is back) ∙ ap (λ (c : Contents). Some c) same) status text)

-- ---- the name is out while its disk is lent

ends_with : (names : List (List ℕ)) (name : List ℕ) → Contains (names ++ name ∷ []) name
ends_with names name = Contains-append_right names (name ∷ []) name (0, omega arith, refl)

pub lent_out : (before after : Option (List (List ℕ))) (name : List ℕ) → after ≡ option_map (λ names. names ++ name ∷ []) before → IfSome after (λ names. Contains names name)
lent_out None after name lent = subst (λ (out : Option (List (List ℕ))). IfSome out (λ names. Contains names name)) (sym lent) tt
lent_out (Some names) after name lent = subst (λ (out : Option (List (List ℕ))). IfSome out (λ names. Contains names name)) (sym lent) (ends_with names name)
