-- The forms of a script's lines, whose fields one or more spaces separate:
--
--     timeouts NAME UID A B C    least time, least pending time and greatest pending time in microseconds
--     reader UID NAME SPECS      each of one or more SPECS is `A`, or `A-B` with A at most B
--     end
--
-- An empty line and one that begins with `#` say nothing. UID, and A and B of a span, are 32 bits wide, the times 64.
use Rattle.std.specs.Prelude.{◌≡◌, ℕ, ◌-◌, ◌^◌, ◌==◌, nat_le, bytes_eq, if◌then◌else◌, List, [], ◌∷◌, length, Option, Some, None, Result, Ok, Err, codes}
use Rattle.inc_io.specs.Names.{is_name}
use Rattle.inc_pending.specs.declared.timeouts.Times.{Times}
use Rattle.inc_script.specs.Lines.{fields_of, part_before, part_from}
use Rattle.inc_bytes.specs.Decimals.{numeral_of}
use Rattle.inc_script.specs.declared.parsing.forms.LineFault.{LineFault}
use Rattle.inc_script.specs.declared.parsing.forms.LineFault.TheVariants.{Misfit, OutOfMemory}
use Rattle.inc_script.specs.declared.parsing.forms.ScriptLine.{ScriptLine}
use Rattle.inc_script.specs.declared.parsing.forms.ScriptLine.TheVariants.{Passed, TimesOf, ReaderOf, End}

-- what was told is the result, and nothing where the result is a misfit. Memory may run out instead.
abbrev pub IsFormed : {A : Type 0} → Option A → Result A LineFault → Type 0
IsFormed told (Ok value) = told ≡ Some value
IsFormed told (Err Misfit) = told ≡ None
IsFormed told (Err OutOfMemory) = Unit {0}

-- ---- spans of blocks

abbrev pub rising_span : ℕ → ℕ → Option (ℕ × ℕ)
rising_span first last = if nat_le first last then Some (first, last) else None

abbrev pub span_to : ℕ → Option ℕ → Option (ℕ × ℕ)
span_to first None = None
span_to first (Some last) = rising_span first last

abbrev pub span_from : Option ℕ → List ℕ → Option (ℕ × ℕ)
span_from None rest = None
span_from (Some first) [] = Some (first, first)
span_from (Some first) (dash ∷ word) = span_to first (numeral_of (2 ^ 32 - 1) word)

-- what stands before the first dash and what stands behind it
abbrev pub block_span : List ℕ → Option (ℕ × ℕ)
block_span word = span_from (numeral_of (2 ^ 32 - 1) (part_before 45 word)) (part_from 45 word)

abbrev pub with_span : Option (ℕ × ℕ) → Option (List (ℕ × ℕ)) → Option (List (ℕ × ℕ))
with_span None spans = None
with_span (Some span) None = None
with_span (Some span) (Some spans) = Some (span ∷ spans)

abbrev pub block_spans : List (List ℕ) → Option (List (ℕ × ℕ))
block_spans [] = Some []
block_spans (word ∷ words) = with_span (block_span word) (block_spans words)

-- ---- the lines

abbrev pub times_of_numbers : Option ℕ → Option ℕ → Option ℕ → Option Times
times_of_numbers None second third = None
times_of_numbers (Some first) None third = None
times_of_numbers (Some first) (Some second) None = None
times_of_numbers (Some first) (Some second) (Some third) = Some (record { least_read = first; least_pending = second; most_pending = third })

abbrev pub times_of_words : List ℕ → List ℕ → List ℕ → Option Times
times_of_words first second third = times_of_numbers (numeral_of (2 ^ 64 - 1) first) (numeral_of (2 ^ 64 - 1) second) (numeral_of (2 ^ 64 - 1) third)

abbrev pub three_times : List (List ℕ) → Option Times
three_times [] = None
three_times (first ∷ []) = None
three_times (first ∷ second ∷ []) = None
three_times (first ∷ second ∷ third ∷ []) = times_of_words first second third
three_times (first ∷ second ∷ third ∷ more ∷ fields) = None

abbrev pub times_line : List ℕ → Option ℕ → Option Times → Option ScriptLine
times_line name None times = None
times_line name (Some uid) None = None
times_line name (Some uid) (Some times) = if is_name name then Some (TimesOf (record { name = name; uid = uid; times = times })) else None

abbrev pub times_form : List (List ℕ) → Option ScriptLine
times_form [] = None
times_form (name ∷ []) = None
times_form (name ∷ uid ∷ fields) = times_line name (numeral_of (2 ^ 32 - 1) uid) (three_times fields)

abbrev pub reader_line : Option ℕ → List ℕ → Option (List (ℕ × ℕ)) → Option ScriptLine
reader_line None name blocks = None
reader_line (Some uid) name None = None
reader_line (Some uid) name (Some blocks) = if length blocks == 0 then None else if is_name name then Some (ReaderOf (record { uid = uid; name = name; blocks = blocks })) else None

abbrev pub reader_form : List (List ℕ) → Option ScriptLine
reader_form [] = None
reader_form (uid ∷ []) = None
reader_form (uid ∷ name ∷ words) = reader_line (numeral_of (2 ^ 32 - 1) uid) name (block_spans words)

abbrev pub end_form : List (List ℕ) → Option ScriptLine
end_form [] = Some End
end_form (field ∷ fields) = None

unfoldable pub timeouts_word : List ℕ
timeouts_word = codes "timeouts"

unfoldable pub reader_word : List ℕ
reader_word = codes "reader"

unfoldable pub end_word : List ℕ
end_word = codes "end"

abbrev pub form_of : List (List ℕ) → Option ScriptLine
form_of [] = None
form_of (word ∷ fields) =
    if bytes_eq word timeouts_word then times_form fields
    else if bytes_eq word reader_word then reader_form fields
    else if bytes_eq word end_word then end_form fields
    else None

-- what a line says, where it has one of the forms
abbrev pub line_of : List ℕ → Option ScriptLine
line_of [] = Some Passed
line_of (byte ∷ bytes) = if byte == 35 then Some Passed else form_of (fields_of (byte ∷ bytes))
