-- A script as far as its lines are read.
use Rattle.std.proofs.Common.{◌≡◌, ℕ, ◌+◌, ◌^◌, ◌<◌, ◌≤◌, true, false, List, [], ◌∷◌, ◌++◌, length, Result, Ok, Err, refl, ap, subst, arith}
use Rattle.std.specs.Prelude.{nat_le, nat_lt}
use Rattle.std.proofs.lemmas.Bool.Decides.{nat_tests}
use Rattle.std.proofs.lemmas.List.Sums.{sum_by_push}
use Rattle.inc_script.specs.Drafts.{DraftState}
use Rattle.inc_script.specs.Limits.{all_reads, sum_of_reads}
use Rattle.inc_script.specs.Lines.{lines_of}
use Rattle.inc_script.specs.Script.{IsRead, IsTaken, and_on, finished, fresh_draft, script_from, script_of, taken, with_reader, with_times}
use Rattle.inc_script.specs.declared.script.ReaderLine.{ReaderLine}
use Rattle.inc_script.specs.declared.script.Script.{Script}
use Rattle.inc_script.specs.declared.script.ScriptFault.{ScriptFault}
use Rattle.inc_script.specs.declared.script.ScriptFault.TheVariants.{TooLong, BadLine, TooMany, NoEnd, OutOfMemory}
use Rattle.inc_script.specs.declared.script.TimesLine.{TimesLine}

lt_test : (m n : ℕ) → m < n → nat_lt m n ≡ true
lt_test m n lt = grind (arith, nat_tests)

not_lt_test : (m n : ℕ) → n ≤ m → nat_lt m n ≡ false
not_lt_test m n le = grind (arith, nat_tests)

le_test : (m n : ℕ) → m ≤ n → nat_le m n ≡ true
le_test m n le = grind (arith, nat_tests)

not_le_test : (m n : ℕ) → n < m → nat_le m n ≡ false
not_le_test m n lt = grind (arith, nat_tests)

-- ---- one line more

pub times_added : (at : ℕ) (draft : DraftState) (times : TimesLine) → length draft.times < 256 → with_times at draft times ≡ Ok (record draft { times = draft.times ++ times ∷ [] })
times_added at draft times few = rw (lt_test (length draft.times) 256 few) refl

pub times_refused : (at : ℕ) (draft : DraftState) (times : TimesLine) → 256 ≤ length draft.times → with_times at draft times ≡ Err (TooMany at)
times_refused at draft times many = rw (not_lt_test (length draft.times) 256 many) refl

pub reader_added : (at : ℕ) (draft : DraftState) (reader : ReaderLine) → length draft.readers < 64 → all_reads draft.readers + sum_of_reads reader.blocks ≤ 2 ^ 18
    → with_reader at draft reader ≡ Ok (record draft { readers = draft.readers ++ reader ∷ [] })
reader_added at draft reader few fits = rw (lt_test (length draft.readers) 64 few, le_test (all_reads draft.readers + sum_of_reads reader.blocks) (2 ^ 18) fits) refl

pub reader_refused : (at : ℕ) (draft : DraftState) (reader : ReaderLine) → 64 ≤ length draft.readers → with_reader at draft reader ≡ Err (TooMany at)
reader_refused at draft reader many = rw (not_lt_test (length draft.readers) 64 many) refl

pub reads_refused : (at : ℕ) (draft : DraftState) (reader : ReaderLine) → length draft.readers < 64 → 2 ^ 18 < all_reads draft.readers + sum_of_reads reader.blocks
    → with_reader at draft reader ≡ Err (TooMany at)
reads_refused at draft reader few many = rw (lt_test (length draft.readers) 64 few, not_le_test (all_reads draft.readers + sum_of_reads reader.blocks) (2 ^ 18) many) refl

pub all_reads_push : (readers : List ReaderLine) (reader : ReaderLine) → all_reads (readers ++ reader ∷ []) ≡ all_reads readers + sum_of_reads reader.blocks
all_reads_push readers reader = sum_by_push (λ (r : ReaderLine). sum_of_reads r.blocks) readers reader

-- ---- the lines one after another

pub line_taken : (at : ℕ) (draft new : DraftState) (line : List ℕ) (lines : List (List ℕ)) → taken at draft line ≡ Ok new → script_from at draft (line ∷ lines) ≡ script_from (at + 1) new lines
line_taken at draft new line lines is = ap (λ (told : Result DraftState ScriptFault). and_on told (λ next. script_from (at + 1) next lines)) is

fault_told : (told : Result DraftState ScriptFault) (new : DraftState) (more : DraftState → Result Script ScriptFault) (fault : ScriptFault) → IsTaken told new (Err fault) → IsRead (and_on told more) (Err fault)
fault_told told new more TooLong is = ap (λ (t : Result DraftState ScriptFault). and_on t more) is
fault_told told new more (BadLine line) is = ap (λ (t : Result DraftState ScriptFault). and_on t more) is
fault_told told new more (TooMany line) is = ap (λ (t : Result DraftState ScriptFault). and_on t more) is
fault_told told new more (NoEnd line) is = ap (λ (t : Result DraftState ScriptFault). and_on t more) is
fault_told told new more OutOfMemory is = tt

pub line_refused : (at : ℕ) (draft new : DraftState) (line : List ℕ) (lines : List (List ℕ)) (whole : Result Script ScriptFault) (fault : ScriptFault) → script_from at draft (line ∷ lines) ≡ whole
    → IsTaken (taken at draft line) new (Err fault) → IsRead whole (Err fault)
line_refused at draft new line lines whole fault same is =
    let there : IsRead (script_from at draft (line ∷ lines)) (Err fault) = fault_told (taken at draft line) new (λ next. script_from (at + 1) next lines) fault is in
    subst (λ (told : Result Script ScriptFault). IsRead told (Err fault)) same there

pub ended_told : (at : ℕ) (draft : DraftState) → draft.ended ≡ true → finished at draft ≡ Ok (record { times = draft.times; readers = draft.readers })
ended_told at draft is = rw is refl

pub no_end_told : (at : ℕ) (draft : DraftState) → draft.ended ≡ false → finished at draft ≡ Err (NoEnd at)
no_end_told at draft is = rw is refl

-- ---- a whole text

pub too_long : (text : List ℕ) → 2 ^ 20 < length text → script_of text ≡ Err TooLong
unfolding script_of
too_long text long = rw (not_le_test (length text) (2 ^ 20) long) refl

pub read_short : (text : List ℕ) (result : Result Script ScriptFault) → length text ≤ 2 ^ 20 → IsRead (script_from 1 fresh_draft (lines_of text)) result → IsRead (script_of text) result
unfolding script_of
read_short text result short is = rw (le_test (length text) (2 ^ 20) short) is
