-- The script that a text is, read line by line, or the first fault. A text that is too long is refused before a line is looked at. Then the
-- first line that has a fault gives it: one of no form that may stand there comes before one that makes too many. The missing end comes
-- last.
use Rattle.std.specs.Prelude.{◌≡◌, ℕ, ◌+◌, nat_le, nat_lt, Bool, true, false, if◌then◌else◌, List, [], ◌∷◌, ◌++◌, length, Option, Some, None, Result, Ok, Err}
use Rattle.inc_script.specs.Drafts.{DraftState}
use Rattle.inc_script.specs.Forms.{line_of}
use Rattle.inc_script.specs.Limits.{all_reads, sum_of_reads}
use Rattle.inc_script.specs.Lines.{lines_of}
use Rattle.inc_script.specs.declared.parsing.forms.ScriptLine.{ScriptLine}
use Rattle.inc_script.specs.declared.parsing.forms.ScriptLine.TheVariants.{Passed, TimesOf, ReaderOf, End}
use Rattle.inc_script.specs.declared.script.ReaderLine.{ReaderLine}
use Rattle.inc_script.specs.declared.script.Script.{Script}
use Rattle.inc_script.specs.declared.script.ScriptFault.{ScriptFault}
use Rattle.inc_script.specs.declared.script.ScriptFault.TheVariants.{TooLong, BadLine, TooMany, NoEnd, OutOfMemory}
use Rattle.inc_script.specs.declared.script.TheConstants.{MOST_READERS, MOST_READS, MOST_TEXT, MOST_TIMES}
use Rattle.inc_script.specs.declared.script.TimesLine.{TimesLine}

-- nothing is read
abbrev pub fresh_draft : DraftState
fresh_draft = record { times = []; readers = []; ended = false }

abbrev pub with_times : ℕ → DraftState → TimesLine → Result DraftState ScriptFault
with_times at draft times = if nat_lt (length draft.times) MOST_TIMES then Ok (record draft { times = draft.times ++ times ∷ [] }) else Err (TooMany at)

abbrev pub fits_reads : DraftState → ReaderLine → Bool
fits_reads draft reader = nat_le (all_reads draft.readers + sum_of_reads reader.blocks) MOST_READS

abbrev pub with_reader : ℕ → DraftState → ReaderLine → Result DraftState ScriptFault
with_reader at draft reader =
    if nat_lt (length draft.readers) MOST_READERS then (if fits_reads draft reader then Ok (record draft { readers = draft.readers ++ reader ∷ [] }) else Err (TooMany at)) else Err (TooMany at)

-- the line with this number says this
abbrev pub with_line : ℕ → DraftState → ScriptLine → Result DraftState ScriptFault
with_line at draft Passed = Ok draft
with_line at draft (TimesOf times) = with_times at draft times
with_line at draft (ReaderOf reader) = with_reader at draft reader
with_line at draft End = Ok (record draft { ended = true })

-- behind the end only lines that say nothing may stand
abbrev pub behind_end : ℕ → DraftState → ScriptLine → Result DraftState ScriptFault
behind_end at draft Passed = Ok draft
behind_end at draft (TimesOf times) = Err (BadLine at)
behind_end at draft (ReaderOf reader) = Err (BadLine at)
behind_end at draft End = Err (BadLine at)

abbrev pub taken_as : ℕ → DraftState → Option ScriptLine → Result DraftState ScriptFault
taken_as at draft None = Err (BadLine at)
taken_as at draft (Some said) = if draft.ended then behind_end at draft said else with_line at draft said

abbrev pub taken : ℕ → DraftState → List ℕ → Result DraftState ScriptFault
taken at draft line = taken_as at draft (line_of line)

abbrev pub and_on : Result DraftState ScriptFault → (DraftState → Result Script ScriptFault) → Result Script ScriptFault
and_on (Ok draft) more = more draft
and_on (Err fault) more = Err fault

-- where no line is left, `at` is the number of all lines plus 1
abbrev pub finished : ℕ → DraftState → Result Script ScriptFault
finished at draft = if draft.ended then Ok (record { times = draft.times; readers = draft.readers }) else Err (NoEnd at)

-- the lines from number `at` on
abbrev pub script_from : ℕ → DraftState → List (List ℕ) → Result Script ScriptFault
script_from at draft [] = finished at draft
script_from at draft (line ∷ lines) = and_on (taken at draft line) (λ next. script_from (at + 1) next lines)

unfoldable pub script_of : List ℕ → Result Script ScriptFault
script_of text = if nat_le (length text) MOST_TEXT then script_from 1 fresh_draft (lines_of text) else Err TooLong

-- ---- what the code answers

-- the result is what was told, or want of memory
abbrev pub IsRead : Result Script ScriptFault → Result Script ScriptFault → Type 0
IsRead told (Ok script) = told ≡ Ok script
IsRead told (Err TooLong) = told ≡ Err TooLong
IsRead told (Err (BadLine line)) = told ≡ Err (BadLine line)
IsRead told (Err (TooMany line)) = told ≡ Err (TooMany line)
IsRead told (Err (NoEnd line)) = told ≡ Err (NoEnd line)
IsRead told (Err OutOfMemory) = Unit {0}

-- the same of one line, after which this draft stands
abbrev pub IsTaken : Result DraftState ScriptFault → DraftState → Result (Unit {0}) ScriptFault → Type 0
IsTaken told new (Ok done) = told ≡ Ok new
IsTaken told new (Err TooLong) = told ≡ Err TooLong
IsTaken told new (Err (BadLine line)) = told ≡ Err (BadLine line)
IsTaken told new (Err (TooMany line)) = told ≡ Err (TooMany line)
IsTaken told new (Err (NoEnd line)) = told ≡ Err (NoEnd line)
IsTaken told new (Err OutOfMemory) = Unit {0}
