-- A loader's stream: a hello of eight bytes, frames, and an end of one byte.
--
-- The hello is the letters INCLDR, the version as two bytes, 1 or 2. The end is the byte 2. A frame:
--
--     at  bytes  field
--      0      1  1
--      1     16  id of the file
--     17      1  0 for a data block, 1 for a hash block
--     18      1  compression, 0 for none
--     19      4  the block's number, from 0 in its kind
--     23      2  length, 1 to 4096
--     25 length  the block's bytes
use Rattle.std.specs.Prelude.{◌≡◌, ℕ, ◌+◌, ◌*◌, ◌^◌, ◌<◌, ◌≤◌, ◌⊎◌, Bool, true, false, List, [], ◌∷◌, ◌++◌, length, take, drop, slice_index, All, ◌==◌, if◌then◌else◌}
use Rattle.std.specs.List.{flat_map}
use Rattle.inc_bytes.specs.Fields.{AreBytes, le_bytes, field}
use Rattle.inc_frame.specs.declared.stage.TheConstants.{HEAD_LEN, MOST_BYTES}
use Rattle.inc_frame.specs.declared.piece.Piece.{Piece}

-- ---- the spelling

unfoldable pub hello_bytes : ℕ → List ℕ
hello_bytes version = 0x49 ∷ 0x4e ∷ 0x43 ∷ 0x4c ∷ 0x44 ∷ 0x52 ∷ version ∷ 0 ∷ []

abbrev pub kind_byte : Bool → ℕ
kind_byte false = 0
kind_byte true = 1

unfoldable pub frame_head : Piece → List ℕ
frame_head p = 1 ∷ p.id ++ (kind_byte p.hash ∷ p.compression ∷ []) ++ le_bytes 4 p.number ++ le_bytes 2 (length p.bytes)

unfoldable pub frame_bytes : Piece → List ℕ
frame_bytes p = frame_head p ++ p.bytes

abbrev pub end_bytes : List ℕ
end_bytes = 2 ∷ []

unfoldable pub stream_bytes : ℕ → List Piece → List ℕ
stream_bytes version pieces = hello_bytes version ++ flat_map frame_bytes pieces ++ end_bytes

-- ---- what has a spelling

pub record IsPiece (p : Piece) : Type 0 where
  pub id_length : length p.id ≡ 16
  pub id_bytes : AreBytes p.id
  pub number : p.number < 2 ^ 32
  pub compression : p.compression < 256
  pub bytes : AreBytes p.bytes
  pub some : 1 ≤ length p.bytes
  pub most : length p.bytes ≤ MOST_BYTES

-- by how many bytes a stream of this version has to have its end
abbrev pub stream_limit : ℕ → ℕ
stream_limit version = if version == 2 then 2 ^ 36 else 2 ^ 33

pub record IsStream (version : ℕ) (pieces : List Piece) : Type 0 where
  pub known : (version ≡ 1) ⊎ (version ≡ 2)
  pub each : All IsPiece pieces
  pub within : length (stream_bytes version pieces) ≤ stream_limit version

-- the bytes begin with a stream of these pieces, which has so many bytes
pub record BeginsWithStream (bytes : List ℕ) (pieces : List Piece) (count : ℕ) : Type 0 where
  pub version : ℕ
  pub rest : List ℕ
  pub stream : IsStream version pieces
  pub spelled : bytes ≡ stream_bytes version pieces ++ rest
  pub counted : count ≡ length (stream_bytes version pieces)

-- ---- the fields of a frame's bytes

abbrev pub frame_length : List ℕ → ℕ
frame_length frame = slice_index frame 23 + 256 * slice_index frame 24

unfoldable pub piece_of : List ℕ → Piece
piece_of frame = record {
  id = take 16 (drop 1 frame);
  hash = slice_index frame 17 == 1;
  number = field 4 19 frame;
  compression = slice_index frame 18;
  bytes = drop HEAD_LEN frame;
}
