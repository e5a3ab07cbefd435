-- Which pieces a fill takes: those before the first one that is of another file or may not be stored. How they are grouped is no part of it.
use Rattle.std.specs.Prelude.{◌≡◌, ℕ, List, [], ◌∷◌, length, Option, Some, None, if◌then◌else◌, option_map, nat_eq, slice_index_or}
use Rattle.std.specs.Cmp.Lexicographic.{pointwise}
use Rattle.inc_bytes.specs.Tests.{first_failing}
use Rattle.inc_frame.specs.declared.piece.Piece.{Piece}
use Rattle.inc_layout.specs.declared.opened.Opened.{Opened}
use Rattle.inc_tree.specs.shape.Geometry.{data_blocks, hash_blocks}
use Rattle.inc_entry.specs.Stored.{is_compressed_class, is_damaged_class}
use Rattle.inc_entry.specs.declared.classes.Class.TheVariants.{Closed}
use Rattle.inc_model.specs.relation.State.{has}
use Rattle.inc_model.specs.declared.words.file_state.FileState.{FileState}
use Rattle.inc_cell.specs.events.Pieces.{piece_tests}
use Rattle.inc_filling.specs.declared.refusal.PieceRefusal.{PieceRefusal}
use Rattle.inc_filling.specs.declared.refusal.PieceRefusal.TheVariants.{Refused, UnknownFile}

-- the first cause by which a file doesn't take a piece
abbrev pub refusal_of : Opened → Piece → Option PieceRefusal
refusal_of opened piece =
    if pointwise nat_eq piece.id opened.header.id then option_map Refused (first_failing (piece_tests opened piece.hash piece.number piece.compression (length piece.bytes))) else Some UnknownFile

-- the pieces before the first that is refused
abbrev pub taken_pieces : Opened → List Piece → List Piece
taken_pieces opened [] = []
taken_pieces opened (piece ∷ pieces) = taken_or (refusal_of opened piece) (piece ∷ taken_pieces opened pieces)
  where
    taken_or : Option PieceRefusal → List Piece → List Piece
    taken_or None taken = taken
    taken_or (Some refused) taken = []

-- by which cause that one is refused
abbrev pub first_refusal : Opened → List Piece → Option PieceRefusal
first_refusal opened [] = None
first_refusal opened (piece ∷ pieces) = refused_or (refusal_of opened piece) (first_refusal opened pieces)
  where
    refused_or : Option PieceRefusal → Option PieceRefusal → Option PieceRefusal
    refused_or None later = later
    refused_or (Some refused) later = Some refused

-- ---- what a state has to do with the file that was opened

-- a state of this file: its blocks, and which of them may not be filled
pub record IsStateOfFile (opened : Opened) (s : FileState) : Type 0 where
  pub data_is : s.n ≡ data_blocks opened.areas.geometry
  pub hash_is : s.m ≡ hash_blocks opened.areas.geometry
  pub damaged_is : (i : ℕ) → has i s.damaged ≡ is_damaged_class (slice_index_or opened.classes i Closed)
  pub compressed_is : (i : ℕ) → has i s.compressed ≡ is_compressed_class (slice_index_or opened.classes i Closed)
