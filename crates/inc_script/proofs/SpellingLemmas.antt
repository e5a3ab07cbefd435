-- What a text spells is read from it.
use Rattle.std.proofs.Common.{◌≡◌, ℕ, ◌+◌, ◌^◌, ◌≤◌, suc, Bool, true, false, cond, List, [], ◌∷◌, ◌++◌, length, Some, Result, Ok, refl, sym, ap, ◌∙◌, subst, arith, append_assoc, append-nil, inl, inr}
use Rattle.std.specs.List.{AllByRecursion}
use Rattle.std.proofs.lemmas.Bool.{le-leb}
use Rattle.std.proofs.lemmas.List.{length_push}
use Rattle.std.proofs.lemmas.List.Sums.{sum_by-cons}
use Rattle.inc_script.specs.Drafts.{DraftState}
use Rattle.inc_script.specs.Forms.{line_of}
use Rattle.inc_script.specs.Limits.{all_reads, sum_of_reads}
use Rattle.inc_script.specs.Lines.{lines_of}
use Rattle.inc_script.specs.Script.{IsRead, with_line, fresh_draft, script_from, script_of, taken, taken_as}
use Rattle.inc_script.specs.Spelling.{IsSpelled, SaysNothing, SpellLines}
use Rattle.inc_script.specs.declared.parsing.forms.ScriptLine.{ScriptLine}
use Rattle.inc_script.specs.declared.parsing.forms.ScriptLine.TheVariants.{Passed, TimesOf, ReaderOf, End}
use Rattle.inc_script.specs.declared.script.ReaderLine.{ReaderLine}
use Rattle.inc_script.specs.declared.script.Script.{Script}
use Rattle.inc_script.specs.declared.script.ScriptFault.{ScriptFault}
use Rattle.inc_script.specs.declared.script.TimesLine.{TimesLine}
use Rattle.inc_script.proofs.DraftLemmas.{all_reads_push, line_taken, reader_added, times_added}
use Rattle.inc_script.proofs.FormLemmas.{end_read, nothing_read, reader_read, times_read}

same_either : (test : Bool) (told : Result DraftState ScriptFault) → cond test told told ≡ told
same_either true told = refl
same_either false told = refl

taken_passed : (at : ℕ) (draft : DraftState) (line : List ℕ) → line_of line ≡ Some Passed → taken at draft line ≡ Ok draft
taken_passed at draft line is = ap (taken_as at draft) is ∙ same_either draft.ended (Ok draft)

taken_open : (at : ℕ) (draft : DraftState) (line : List ℕ) (said : ScriptLine) → draft.ended ≡ false → line_of line ≡ Some said → taken at draft line ≡ with_line at draft said
taken_open at draft line said open_yet is = ap (taken_as at draft) is ∙ rw open_yet refl

-- behind the end
rest_passed : (at : ℕ) (draft : DraftState) (lines : List (List ℕ)) → draft.ended ≡ true → AllByRecursion SaysNothing lines → script_from at draft lines ≡ Ok (record { times = draft.times; readers = draft.readers })
rest_passed at draft [] ended are = rw ended refl
rest_passed at draft (line ∷ lines) ended are =
    line_taken at draft draft line lines (taken_passed at draft line (nothing_read line are.0)) ∙ rest_passed (at + 1) draft lines ended are.1

pub made : List TimesLine → List ReaderLine → Result Script ScriptFault
made times readers = Ok (record { times = times; readers = readers })

pub lines_read : (at : ℕ) (draft : DraftState) (lines : List (List ℕ)) (times : List TimesLine) (readers : List ReaderLine) → draft.ended ≡ false
    → length draft.times + length times ≤ 256 → length draft.readers + length readers ≤ 64 → all_reads draft.readers + all_reads readers ≤ 2 ^ 18
    → SpellLines lines times readers → script_from at draft lines ≡ made (draft.times ++ times) (draft.readers ++ readers)
unfolding made
lines_read at draft [] times readers open_yet few_times few_readers few_reads s = absurd s
lines_read at draft (line ∷ lines) times readers open_yet few_times few_readers few_reads (inl nothing) =
    line_taken at draft draft line lines (taken_passed at draft line (nothing_read line nothing.0))
    ∙ lines_read (at + 1) draft lines times readers open_yet few_times few_readers few_reads nothing.1
lines_read at draft (line ∷ lines) times readers open_yet few_times few_readers few_reads (inr (inl s)) =
    let first = s.0 in
    let rest = s.1 in
    let long : length times ≡ suc (length rest) = ap length s.2 in
    let new = record draft { times = draft.times ++ first ∷ [] } in
    line_taken at draft new line lines (taken_open at draft line (TimesOf first) open_yet (times_read line first s.3) ∙ times_added at draft first (omega arith))
    ∙ lines_read (at + 1) new lines rest readers open_yet (omega (arith, length_push draft.times first)) few_readers few_reads s.4
    ∙ ap (λ (xs : List TimesLine). made xs (draft.readers ++ readers)) (append_assoc draft.times (first ∷ []) rest ∙ ap (λ (xs : List TimesLine). draft.times ++ xs) (sym s.2))
lines_read at draft (line ∷ lines) times readers open_yet few_times few_readers few_reads (inr (inr (inl s))) =
    let first = s.0 in
    let rest = s.1 in
    let long : length readers ≡ suc (length rest) = ap length s.2 in
    let reads : all_reads readers ≡ sum_of_reads first.blocks + all_reads rest = ap all_reads s.2 ∙ sum_by-cons (λ (r : ReaderLine). sum_of_reads r.blocks) first rest in
    let pushed = all_reads_push draft.readers first in
    let new = record draft { readers = draft.readers ++ first ∷ [] } in
    line_taken at draft new line lines (taken_open at draft line (ReaderOf first) open_yet (reader_read line first s.3) ∙ reader_added at draft first (omega arith) (omega arith))
    ∙ lines_read (at + 1) new lines times rest open_yet few_times (omega (arith, length_push draft.readers first)) (omega arith) s.4
    ∙ ap (λ (xs : List ReaderLine). made (draft.times ++ times) xs) (append_assoc draft.readers (first ∷ []) rest ∙ ap (λ (xs : List ReaderLine). draft.readers ++ xs) (sym s.2))
lines_read at draft (line ∷ lines) times readers open_yet few_times few_readers few_reads (inr (inr (inr s))) =
    let new = record draft { ended = true } in
    line_taken at draft new line lines (taken_open at draft line End open_yet (end_read line s.2))
    ∙ rest_passed (at + 1) new lines refl s.3
    ∙ ap (λ (xs : List TimesLine). made xs draft.readers) (sym (append-nil draft.times) ∙ ap (λ (xs : List TimesLine). draft.times ++ xs) (sym s.0))
    ∙ ap (λ (xs : List ReaderLine). made (draft.times ++ times) xs) (sym (append-nil draft.readers) ∙ ap (λ (xs : List ReaderLine). draft.readers ++ xs) (sym s.1))

-- what is spelled is the script that is told
pub spelled_told : (text : List ℕ) (script : Script) → IsSpelled text script → script_of text ≡ Ok script
unfolding script_of made
spelled_told text script s =
    let limits = s.limits in
    let few_times : 0 + length script.times ≤ 256 = omega (arith, limits.few_times) in
    let few_readers : 0 + length script.readers ≤ 64 = omega (arith, limits.few_readers) in
    let few_reads : 0 + all_reads script.readers ≤ 2 ^ 18 = omega (arith, limits.few_reads) in
    rw (le-leb (length text) 1048576 s.short)
    (lines_read 1 fresh_draft (lines_of text) script.times script.readers refl few_times few_readers few_reads s.lines)

pub spelled_read : (text : List ℕ) (script : Script) (result : Result Script ScriptFault) → IsRead (script_of text) result → IsSpelled text script → IsRead (Ok script) result
spelled_read text script result is s = subst (λ (told : Result Script ScriptFault). IsRead told result) (spelled_told text script s) is
