-- What is read from a text is spelled by it.
use Rattle.std.proofs.Common.{◌≡◌, ℕ, ◌+◌, ◌^◌, ◌<◌, ◌≤◌, Bool, true, false, cond, List, [], ◌∷◌, ◌++◌, length, Option, Some, None, Result, Ok, Err, refl, sym, ap, ◌∙◌, subst, arith, append_assoc, append-nil, inl, inr}
use Rattle.std.specs.Prelude.{IfOk, nat_le, nat_lt}
use Rattle.std.specs.List.{AllByRecursion}
use Rattle.std.proofs.lemmas.Bool.{cases_Bool, leb-true, ltb-true}
use Rattle.std.proofs.lemmas.List.{length_push}
use Rattle.inc_script.specs.Drafts.{DraftState}
use Rattle.inc_script.specs.Forms.{line_of}
use Rattle.inc_script.specs.Limits.{all_reads, sum_of_reads}
use Rattle.inc_script.specs.Lines.{lines_of}
use Rattle.inc_script.specs.Script.{IsRead, with_line, and_on, behind_end, fits_reads, fresh_draft, script_from, script_of, taken, taken_as, with_reader, with_times}
use Rattle.inc_script.specs.Spelling.{IsSpelled, IsWithinLimits, SaysNothing, SpellLines}
use Rattle.inc_script.specs.declared.parsing.forms.ScriptLine.{ScriptLine}
use Rattle.inc_script.specs.declared.parsing.forms.ScriptLine.TheVariants.{Passed, TimesOf, ReaderOf, End}
use Rattle.inc_script.specs.declared.script.ReaderLine.{ReaderLine}
use Rattle.inc_script.specs.declared.script.Script.{Script}
use Rattle.inc_script.specs.declared.script.ScriptFault.{ScriptFault}
use Rattle.inc_script.specs.declared.script.ScriptFault.TheVariants.{TooLong, TooMany, NoEnd}
use Rattle.inc_script.specs.declared.script.TimesLine.{TimesLine}
use Rattle.inc_script.proofs.DraftLemmas.{all_reads_push}
use Rattle.inc_script.proofs.SaidLemmas.{Says, line_says}

-- ---- one line

record OnParts (told : Result DraftState ScriptFault) (more : DraftState → Result Script ScriptFault) (script : Script) : Type 0 where
  new : DraftState
  told_is : told ≡ Ok new
  more_is : more new ≡ Ok script

on_cases : (told : Result DraftState ScriptFault) (more : DraftState → Result Script ScriptFault) (script : Script) → and_on told more ≡ Ok script → OnParts told more script
on_cases (Ok new) more script h = record { new = new; told_is = refl; more_is = h }
on_cases (Err fault) more script h = absurd (cc)

at_true : (test : Bool) (first second told : Result DraftState ScriptFault) → test ≡ true → cond test first second ≡ told → first ≡ told
at_true true first second told is h = h
at_true false first second told is h = absurd (cc)

at_false : (test : Bool) (first second told : Result DraftState ScriptFault) → test ≡ false → cond test first second ≡ told → second ≡ told
at_false true first second told is h = absurd (cc)
at_false false first second told is h = h

record OpenParts (at : ℕ) (draft : DraftState) (told : Option ScriptLine) (new : DraftState) : Type 0 where
  said : ScriptLine
  told_is : told ≡ Some said
  new_is : with_line at draft said ≡ Ok new

open_cases : (at : ℕ) (draft : DraftState) (told : Option ScriptLine) (new : DraftState) → draft.ended ≡ false → taken_as at draft told ≡ Ok new → OpenParts at draft told new
open_cases at draft None new open_yet h = absurd (cc)
open_cases at draft (Some said) new open_yet h = record { said = said; told_is = refl; new_is = at_false draft.ended (behind_end at draft said) (with_line at draft said) (Ok new) open_yet h }

record EndedParts (draft : DraftState) (told : Option ScriptLine) (new : DraftState) : Type 0 where
  told_is : told ≡ Some Passed
  new_is : draft ≡ new

behind_cases : (at : ℕ) (draft : DraftState) (said : ScriptLine) (new : DraftState) → behind_end at draft said ≡ Ok new → EndedParts draft (Some said) new
behind_cases at draft Passed new h = record { told_is = refl; new_is = cc }
behind_cases at draft (TimesOf times) new h = absurd (cc)
behind_cases at draft (ReaderOf reader) new h = absurd (cc)
behind_cases at draft End new h = absurd (cc)

ended_cases : (at : ℕ) (draft : DraftState) (told : Option ScriptLine) (new : DraftState) → draft.ended ≡ true → taken_as at draft told ≡ Ok new → EndedParts draft told new
ended_cases at draft None new ended h = absurd (cc)
ended_cases at draft (Some said) new ended h = behind_cases at draft said new (at_true draft.ended (behind_end at draft said) (with_line at draft said) (Ok new) ended h)

-- ---- limits of a draft

record Keeps (draft : DraftState) : Type 0 where
  few_times : length draft.times ≤ 256
  few_readers : length draft.readers ≤ 64
  few_reads : all_reads draft.readers ≤ 2 ^ 18

record TimesAdded (draft : DraftState) (times : TimesLine) (new : DraftState) : Type 0 where
  few : length draft.times < 256
  new_is : record draft { times = draft.times ++ times ∷ [] } ≡ new

times_added_cases : (at : ℕ) (draft : DraftState) (times : TimesLine) (new : DraftState) → with_times at draft times ≡ Ok new → TimesAdded draft times new
times_added_cases at draft times new h = elim (cases_Bool (nat_lt (length draft.times) 256)) [
  | inl is ↦ (
      let more : DraftState = record draft { times = draft.times ++ times ∷ [] } in
      let e : ◌≡◌ {A = Result DraftState ScriptFault} (Ok more) (Ok new) = rw is at h in
      record { few = ltb-true (length draft.times) 256 is; new_is = cc }
      )
  | inr other ↦ absurd (let e : ◌≡◌ {A = Result DraftState ScriptFault} (Err (TooMany at)) (Ok new) = rw other at h in cc)
]

record ReaderAdded (draft : DraftState) (reader : ReaderLine) (new : DraftState) : Type 0 where
  few : length draft.readers < 64
  reads : all_reads draft.readers + sum_of_reads reader.blocks ≤ 2 ^ 18
  new_is : record draft { readers = draft.readers ++ reader ∷ [] } ≡ new

reader_added_cases : (at : ℕ) (draft : DraftState) (reader : ReaderLine) (new : DraftState) → with_reader at draft reader ≡ Ok new → ReaderAdded draft reader new
reader_added_cases at draft reader new h =
    let more : DraftState = record draft { readers = draft.readers ++ reader ∷ [] } in
    elim (cases_Bool (nat_lt (length draft.readers) 64)) [
      | inl is ↦ (
          let inner : ◌≡◌ {A = Result DraftState ScriptFault} (cond (fits_reads draft reader) (Ok more) (Err (TooMany at))) (Ok new) = rw is at h in
          elim (cases_Bool (fits_reads draft reader)) [
            | inl fits ↦ (
                let e : ◌≡◌ {A = Result DraftState ScriptFault} (Ok more) (Ok new) = rw fits at inner in
                record { few = ltb-true (length draft.readers) 64 is; reads = leb-true (all_reads draft.readers + sum_of_reads reader.blocks) (2 ^ 18) fits; new_is = cc }
                )
            | inr over ↦ absurd (let e : ◌≡◌ {A = Result DraftState ScriptFault} (Err (TooMany at)) (Ok new) = rw over at inner in cc)
          ]
          )
      | inr other ↦ absurd (let e : ◌≡◌ {A = Result DraftState ScriptFault} (Err (TooMany at)) (Ok new) = rw other at h in cc)
    ]

keeps_times : (draft : DraftState) (times : TimesLine) (new : DraftState) → Keeps draft → TimesAdded draft times new → Keeps new
keeps_times draft times new keeps added_is =
    let few = added_is.few in
    let there : Keeps (record draft { times = draft.times ++ times ∷ [] }) = record {
      few_times = omega (arith, length_push draft.times times);
      few_readers = keeps.few_readers;
      few_reads = keeps.few_reads;
    } in
    let P : DraftState → Type 0 = Keeps in
    subst P added_is.new_is there

keeps_reader : (draft : DraftState) (reader : ReaderLine) (new : DraftState) → Keeps draft → ReaderAdded draft reader new → Keeps new
keeps_reader draft reader new keeps added_is =
    let few = added_is.few in
    let reads = added_is.reads in
    let there : Keeps (record draft { readers = draft.readers ++ reader ∷ [] }) = record {
      few_times = keeps.few_times;
      few_readers = omega (arith, length_push draft.readers reader);
      few_reads = omega (arith, all_reads_push draft.readers reader);
    } in
    let P : DraftState → Type 0 = Keeps in
    subst P added_is.new_is there

-- ---- all lines

-- the lines spell what stands in the script behind what the draft has
record Spelled (draft : DraftState) (lines : List (List ℕ)) (script : Script) : Type 0 where
  times : List TimesLine
  readers : List ReaderLine
  times_are : script.times ≡ draft.times ++ times
  readers_are : script.readers ≡ draft.readers ++ readers
  lines_are : SpellLines lines times readers
  limits : IsWithinLimits script

-- the lines behind the end
record PassedBy (draft : DraftState) (lines : List (List ℕ)) (script : Script) : Type 0 where
  times_are : script.times ≡ draft.times
  readers_are : script.readers ≡ draft.readers
  all : AllByRecursion SaysNothing lines

rest_says : (at : ℕ) (draft : DraftState) (lines : List (List ℕ)) (script : Script) → draft.ended ≡ true → script_from at draft lines ≡ Ok script → PassedBy draft lines script
rest_says at draft [] script ended h =
    let whole : Script = record { times = draft.times; readers = draft.readers } in
    let e : ◌≡◌ {A = Result Script ScriptFault} (Ok whole) (Ok script) = rw ended at h in
    let same : whole ≡ script = cc in
    record { times_are = ap (λ (s : Script). s.times) (sym same); readers_are = ap (λ (s : Script). s.readers) (sym same); all = tt }
rest_says at draft (line ∷ lines) script ended h =
    let on = on_cases (taken at draft line) (λ next. script_from (at + 1) next lines) script h in
    let parts = ended_cases at draft (line_of line) on.new ended on.told_is in
    let P : DraftState → Type 0 = λ (d : DraftState). script_from (at + 1) d lines ≡ Ok script in
    let rest = rest_says (at + 1) draft lines script ended (subst P (sym parts.new_is) on.more_is) in
    record { times_are = rest.times_are; readers_are = rest.readers_are; all = (line_says line Passed parts.told_is, rest.all) }

within_of : (draft : DraftState) (script : Script) → Keeps draft → script.times ≡ draft.times → script.readers ≡ draft.readers → IsWithinLimits script
within_of draft script keeps times_are readers_are =
    let few_times = keeps.few_times in
    let few_readers = keeps.few_readers in
    let few_reads = keeps.few_reads in
    record {
      few_times = omega (arith, ap length times_are);
      few_readers = omega (arith, ap length readers_are);
      few_reads = omega (arith, ap all_reads readers_are);
    }

-- the lines behind one that left this draft spell the rest
GoesOn : ℕ → List (List ℕ) → Script → Type 0
GoesOn at lines script = (next : DraftState) → next.ended ≡ false → Keeps next → script_from at next lines ≡ Ok script → Spelled next lines script

said_more : (at : ℕ) (draft : DraftState) (line : List ℕ) (lines : List (List ℕ)) (script : Script) (said : ScriptLine) (new : DraftState) → draft.ended ≡ false → Keeps draft → Says line said
    → with_line at draft said ≡ Ok new → script_from (at + 1) new lines ≡ Ok script → GoesOn (at + 1) lines script → Spelled draft (line ∷ lines) script
unfolding GoesOn
said_more at draft line lines script Passed new open_yet keeps says new_is more go =
    let same : draft ≡ new = cc in
    let P : DraftState → Type 0 = λ (d : DraftState). script_from (at + 1) d lines ≡ Ok script in
    let rest = go draft open_yet keeps (subst P (sym same) more) in
    record { times = rest.times; readers = rest.readers; times_are = rest.times_are; readers_are = rest.readers_are; lines_are = inl (says, rest.lines_are); limits = rest.limits }
said_more at draft line lines script (TimesOf times) new open_yet keeps says new_is more go =
    let added_is = times_added_cases at draft times new new_is in
    let next : DraftState = record draft { times = draft.times ++ times ∷ [] } in
    let P : DraftState → Type 0 = λ (d : DraftState). script_from (at + 1) d lines ≡ Ok script in
    let Q : DraftState → Type 0 = Keeps in
    let rest = go next open_yet (subst Q (sym added_is.new_is) (keeps_times draft times new keeps added_is)) (subst P (sym added_is.new_is) more) in
    record {
      times = times ∷ rest.times;
      readers = rest.readers;
      times_are = rest.times_are ∙ append_assoc draft.times (times ∷ []) rest.times;
      readers_are = rest.readers_are;
      lines_are = inr (inl (times, rest.times, refl, says, rest.lines_are));
      limits = rest.limits;
    }
said_more at draft line lines script (ReaderOf reader) new open_yet keeps says new_is more go =
    let added_is = reader_added_cases at draft reader new new_is in
    let next : DraftState = record draft { readers = draft.readers ++ reader ∷ [] } in
    let P : DraftState → Type 0 = λ (d : DraftState). script_from (at + 1) d lines ≡ Ok script in
    let Q : DraftState → Type 0 = Keeps in
    let rest = go next open_yet (subst Q (sym added_is.new_is) (keeps_reader draft reader new keeps added_is)) (subst P (sym added_is.new_is) more) in
    record {
      times = rest.times;
      readers = reader ∷ rest.readers;
      times_are = rest.times_are;
      readers_are = rest.readers_are ∙ append_assoc draft.readers (reader ∷ []) rest.readers;
      lines_are = inr (inr (inl (reader, rest.readers, refl, says, rest.lines_are)));
      limits = rest.limits;
    }
said_more at draft line lines script End new open_yet keeps says new_is more go =
    let next : DraftState = record draft { ended = true } in
    let same : next ≡ new = cc in
    let P : DraftState → Type 0 = λ (d : DraftState). script_from (at + 1) d lines ≡ Ok script in
    let rest = rest_says (at + 1) next lines script refl (subst P (sym same) more) in
    record {
      times = [];
      readers = [];
      times_are = rest.times_are ∙ sym (append-nil draft.times);
      readers_are = rest.readers_are ∙ sym (append-nil draft.readers);
      lines_are = inr (inr (inr (refl, refl, says, rest.all)));
      limits = within_of draft script keeps rest.times_are rest.readers_are;
    }

lines_say : (at : ℕ) (draft : DraftState) (lines : List (List ℕ)) (script : Script) → draft.ended ≡ false → Keeps draft → script_from at draft lines ≡ Ok script → Spelled draft lines script
unfolding GoesOn
lines_say at draft [] script open_yet keeps h = absurd (let e : ◌≡◌ {A = Result Script ScriptFault} (Err (NoEnd at)) (Ok script) = rw open_yet at h in cc)
lines_say at draft (line ∷ lines) script open_yet keeps h =
    let on = on_cases (taken at draft line) (λ next. script_from (at + 1) next lines) script h in
    let parts = open_cases at draft (line_of line) on.new open_yet on.told_is in
    said_more at draft line lines script parts.said on.new open_yet keeps (line_says line parts.said parts.told_is) parts.new_is on.more_is
    (λ next open_too keeps_too more. lines_say (at + 1) next lines script open_too keeps_too more)

-- what is told is spelled
told_spelled : (text : List ℕ) (script : Script) → script_of text ≡ Ok script → IsSpelled text script
unfolding script_of
told_spelled text script h = elim (cases_Bool (nat_le (length text) 1048576)) [
  | inl short ↦ (
      let inner : script_from 1 fresh_draft (lines_of text) ≡ Ok script = rw short at h in
      let found = lines_say 1 fresh_draft (lines_of text) script refl (record { few_times = omega arith; few_readers = omega arith; few_reads = omega arith }) inner in
      let P : List TimesLine → Type 0 = λ (ts : List TimesLine). SpellLines (lines_of text) ts script.readers in
      let Q : List ReaderLine → Type 0 = λ (rs : List ReaderLine). SpellLines (lines_of text) found.times rs in
      record {
        short = leb-true (length text) 1048576 short;
        limits = found.limits;
        lines = subst P (sym found.times_are) (subst Q (sym found.readers_are) found.lines_are);
      }
      )
  | inr long ↦ absurd (let e : ◌≡◌ {A = Result Script ScriptFault} (Err TooLong) (Ok script) = rw long at h in cc)
]

pub read_spelled : (text : List ℕ) (result : Result Script ScriptFault) → IsRead (script_of text) result → IfOk result (λ script. IsSpelled text script)
read_spelled text (Ok script) is = told_spelled text script is
read_spelled text (Err fault) is = tt
