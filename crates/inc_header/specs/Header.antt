-- The file header of the backing format, version 1: 56 bytes at the file's start.
--
--     at  bytes  field
--      0      8  magic, 0x5346434e49: the letters INCFS and three zeros
--      8      8  version, 1
--     16      2  size of the header, 56
--     18      2  size of a data block, 4096
--     20      4  flags: 0, or 2 for a mapped file
--     24      8  place of the first record; of a mapped file the offset in its original
--     32      8  size of the file; of a mapped file the mapped size
--     40     16  id of the file; of a mapped file its original's
use Rattle.std.specs.Prelude.{◌≡◌, ℕ, ◌+◌, ◌%◌, ◌^◌, ◌<◌, Bool, true, ◌&&◌, ◌||◌, List, [], ◌∷◌, ◌++◌, length, take, drop, Result, ◌==◌, nat_le, nat_lt, if◌then◌else◌}
use Rattle.inc_bytes.specs.Fields.{AreBytes, le_bytes, field}
use Rattle.inc_bytes.specs.Tests.{first_failing, judge}
use Rattle.inc_header.specs.declared.header.Header.{Header}
use Rattle.inc_header.specs.declared.header.HeaderKind.{HeaderKind}
use Rattle.inc_header.specs.declared.header.HeaderKind.TheVariants.{Plain, Mapped}
use Rattle.inc_header.specs.declared.header.HeaderFault.{HeaderFault}
use Rattle.inc_header.specs.declared.header.HeaderFault.TheVariants.{Short, BadMagic, BadVersion, BadHeaderSize, BadBlockSize, BadFlags, BadMapping}

-- ---- the spelling of a header

abbrev pub flags_of : HeaderKind → ℕ
flags_of (Plain first) = 0
flags_of (Mapped offset) = 2

abbrev pub place_of : HeaderKind → ℕ
place_of (Plain first) = first
place_of (Mapped offset) = offset

unfoldable pub header_bytes : Header → List ℕ
header_bytes h =
    le_bytes 8 0x5346434e49
    ++ le_bytes 8 1
    ++ le_bytes 2 56
    ++ le_bytes 2 4096
    ++ le_bytes 4 (flags_of h.kind)
    ++ le_bytes 8 (place_of h.kind)
    ++ le_bytes 8 h.size
    ++ h.id

-- a mapped part begins at a block's start and ends below 2^64
abbrev pub MayMap : HeaderKind → ℕ → Type 0
MayMap (Plain first) size = Unit {0}
MayMap (Mapped offset) size = (offset % 4096 ≡ 0) × (offset + size < 2 ^ 64)

-- which headers have a spelling
pub record IsHeader (h : Header) : Type 0 where
  pub place : place_of h.kind < 2 ^ 64
  pub size : h.size < 2 ^ 64
  pub mapping : MayMap h.kind h.size
  pub id_length : length h.id ≡ 16
  pub id_bytes : AreBytes h.id

-- ---- the tests, in their order

abbrev pub is_mapping : ℕ → ℕ → Bool
is_mapping offset size = (offset % 4096 == 0) && nat_lt (offset + size) (2 ^ 64)

unfoldable pub header_tests : List ℕ → List (Bool × HeaderFault)
header_tests bytes =
    (nat_le 56 (length bytes), Short)
    ∷ (field 8 0 bytes == 0x5346434e49, BadMagic)
    ∷ (field 8 8 bytes == 1, BadVersion)
    ∷ (field 2 16 bytes == 56, BadHeaderSize)
    ∷ (field 2 18 bytes == 4096, BadBlockSize)
    ∷ ((field 4 20 bytes == 0) || (field 4 20 bytes == 2), BadFlags)
    ∷ (if field 4 20 bytes == 2 then is_mapping (field 8 24 bytes) (field 8 32 bytes) else true, BadMapping)
    ∷ []

-- what the fields say
unfoldable pub header_in : List ℕ → Header
header_in bytes = record {
  kind = (if field 4 20 bytes == 2 then Mapped (field 8 24 bytes) else Plain (field 8 24 bytes));
  size = field 8 32 bytes;
  id = take 16 (drop 40 bytes);
}

unfoldable pub header_of : List ℕ → Result Header HeaderFault
header_of bytes = judge (first_failing (header_tests bytes)) (header_in bytes)
