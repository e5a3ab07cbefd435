-- Which pieces a fill of a shared file takes, by what is known of it outside its lock.
use Rattle.std.specs.Prelude.{◌≡◌, ℕ, ◌+◌, ◌<◌, ◌==◌, ◌||◌, Bool, true, not, nat_eq, nat_lt, if◌then◌else◌, List, [], ◌∷◌, length, Option, Some, None, option_map, slice_index_or}
use Rattle.std.specs.Cmp.Lexicographic.{pointwise}
use Rattle.inc_bytes.specs.Tests.{first_failing}
use Rattle.inc_frame.specs.declared.piece.Piece.{Piece}
use Rattle.inc_layout.specs.declared.opened.Opened.{Opened}
use Rattle.inc_cell.specs.events.Pieces.{piece_tests}
use Rattle.inc_model.specs.declared.words.outcomes.FillError.{FillError}
use Rattle.inc_model.specs.declared.words.outcomes.FillError.TheVariants.{BadLength, Compressed, Damaged, OutOfRange}

-- the tests of a block that the file has, in the order of refusal, by whether its entry is damaged or compressed
unfoldable pub mark_tests : Bool → Bool → ℕ → ℕ → ℕ → List (Bool × FillError)
mark_tests damaged compressed own_len compression len =
    (compression == 0, Compressed 0)
    ∷ (not compressed, Compressed 0)
    ∷ ((len == own_len) || (len == 4096), BadLength 0)
    ∷ (not damaged, Damaged 0)
    ∷ []

-- ---- one piece

-- the first cause by which the file doesn't take a piece, as of a piece with the number 0
abbrev pub piece_refusal : Opened → Piece → Option FillError
piece_refusal opened piece = first_failing (piece_tests opened piece.hash piece.number piece.compression (length piece.bytes))

-- ---- several

-- the causes in the order of refusal
abbrev pub cause_order : FillError → ℕ
cause_order (OutOfRange piece) = 0
cause_order (Compressed piece) = 1
cause_order (BadLength piece) = 2
cause_order (Damaged piece) = 3
cause_order error = 4

-- of the piece with this number
abbrev pub of_piece : ℕ → FillError → FillError
of_piece number (OutOfRange piece) = OutOfRange number
of_piece number (Compressed piece) = Compressed number
of_piece number (BadLength piece) = BadLength number
of_piece number (Damaged piece) = Damaged number
of_piece number error = error

-- the later one only where its cause comes before
abbrev pub first_cause : Option FillError → Option FillError → Option FillError
first_cause None later = later
first_cause (Some error) None = Some error
first_cause (Some error) (Some other) = if nat_lt (cause_order other) (cause_order error) then Some other else Some error

-- Of pieces that are numbered from this number on: the first cause in the order of refusal, of the first piece that has it.
abbrev pub refusal_from : Opened → ℕ → List Piece → Option FillError
refusal_from opened number [] = None
refusal_from opened number (piece ∷ pieces) = first_cause (option_map (of_piece number) (piece_refusal opened piece)) (refusal_from opened (number + 1) pieces)

-- each piece says that it is one of this file
abbrev pub AreOfFile : List ℕ → List Piece → Type 0
AreOfFile id pieces = (k : ℕ) (d : Piece) → k < length pieces → pointwise nat_eq (slice_index_or pieces k d).id id ≡ true
