-- What a fill makes of a file's bytes, piece by piece: a definition on lists of bytes, apart from the cell, its groups and its disk.
--
-- A piece whose index is open leaves the bytes. Any other is stored: its block, filled up with zeros, at the end of the file or at its place
-- in the tree; then its place, the first six bytes of its entry in the map; then the gate, the high byte of the size in that entry.
use Rattle.std.specs.Prelude.{ℕ, ◌+◌, nat_lt, List, [], ◌∷◌, length, take, is_some, if◌then◌else◌}
use Rattle.inc_bytes.specs.Fields.{le_bytes}
use Rattle.inc_tree.specs.shape.Geometry.{block_len, data_blocks}
use Rattle.inc_tree.specs.read_block.Path.{padded}
use Rattle.inc_entry.specs.Entry.{area_places, entry_at, hash_place}
use Rattle.inc_entry.specs.Stored.{stored_digest}
use Rattle.inc_disk.specs.Disk.{overwritten}
use Rattle.inc_frame.specs.declared.piece.Piece.{Piece}
use Rattle.inc_layout.specs.declared.opened.Opened.{Opened}
use Rattle.inc_cell.specs.events.Pieces.{piece_index}
use Rattle.inc_filling.specs.Refusals.{taken_pieces}

abbrev pub index_of_piece : Opened → Piece → ℕ
index_of_piece opened piece = piece_index opened.areas.geometry piece.hash piece.number

-- how many bytes count of a piece, and these
abbrev pub len_of_piece : Opened → Piece → ℕ
len_of_piece opened piece = block_len opened.areas.geometry (index_of_piece opened piece)

abbrev pub content_of_piece : Opened → Piece → List ℕ
content_of_piece opened piece = take (len_of_piece opened piece) piece.bytes

-- filled up to a block
abbrev pub block_of_piece : Opened → Piece → List ℕ
block_of_piece opened piece = padded (content_of_piece opened piece)

-- the place where the block of an index is stored
abbrev pub place_in : Opened → List ℕ → ℕ → ℕ
place_in opened bytes index = if nat_lt index (data_blocks opened.areas.geometry) then length bytes else hash_place (area_places opened.areas) index

-- a block at its place, then that place in the index's entry, then the gate
abbrev pub stored_at : Opened → List ℕ → ℕ → List ℕ → ℕ → List ℕ
stored_at opened bytes index block place =
    let entry = entry_at (area_places opened.areas) index in
    overwritten (entry + 7) (16 ∷ []) (overwritten entry (le_bytes 6 place) (overwritten place block bytes))

-- the bytes with the numbers of pieces that were stored, and of those whose indices were open
pub record FilledFile : Type 0 where
  pub bytes : List ℕ
  pub written : ℕ
  pub present : ℕ

abbrev pub with_piece : Opened → FilledFile → Piece → FilledFile
with_piece opened file piece =
    let index = index_of_piece opened piece in
    if is_some (stored_digest (area_places opened.areas) file.bytes index)
    then record file { present = file.present + 1 }
    else record file { bytes = stored_at opened file.bytes index (block_of_piece opened piece) (place_in opened file.bytes index); written = file.written + 1 }

abbrev pub with_pieces : Opened → FilledFile → List Piece → FilledFile
with_pieces opened file [] = file
with_pieces opened file (piece ∷ pieces) = with_pieces opened (with_piece opened file piece) pieces

-- after a fill with these pieces, of a file that was mounted from these bytes
abbrev pub filled_file : Opened → List ℕ → List Piece → FilledFile
filled_file opened bytes pieces = with_pieces opened (record { bytes = bytes; written = 0; present = 0 }) (taken_pieces opened pieces)
