-- The lines of a text, and the fields of a line.
use Rattle.std.specs.Prelude.{ℕ, ◌==◌, Bool, true, false, if◌then◌else◌, List, [], ◌∷◌}

-- the bytes before the first that is `stop`, and those from there on
abbrev pub part_before : ℕ → List ℕ → List ℕ
part_before stop [] = []
part_before stop (byte ∷ bytes) = if byte == stop then [] else byte ∷ part_before stop bytes

abbrev pub part_from : ℕ → List ℕ → List ℕ
part_from stop [] = []
part_from stop (byte ∷ bytes) = if byte == stop then byte ∷ bytes else part_from stop bytes

-- the first part with one more byte in front
abbrev pub with_byte : ℕ → List (List ℕ) → List (List ℕ)
with_byte byte [] = (byte ∷ []) ∷ []
with_byte byte (part ∷ parts) = (byte ∷ part) ∷ parts

-- a line feed ends each line, and the last may lack it
abbrev pub lines_of : List ℕ → List (List ℕ)
lines_of [] = []
lines_of (byte ∷ bytes) = if byte == 10 then [] ∷ lines_of bytes else with_byte byte (lines_of bytes)

-- what runs of spaces separate, where `gap` says that a space stands in front. Before spaces at a line's front and behind those at its
-- end an empty field stands, which no form takes.
abbrev pub fields_from : Bool → List ℕ → List (List ℕ)
fields_from gap [] = [] ∷ []
fields_from gap (byte ∷ bytes) = if byte == 32 then (if gap then fields_from true bytes else [] ∷ fields_from true bytes) else with_byte byte (fields_from false bytes)

abbrev pub fields_of : List ℕ → List (List ℕ)
fields_of line = fields_from false line

-- the fields of what stands behind a field: nothing, or a space and more
abbrev pub tail_fields : List ℕ → List (List ℕ)
tail_fields [] = []
tail_fields (space ∷ bytes) = fields_from true bytes
