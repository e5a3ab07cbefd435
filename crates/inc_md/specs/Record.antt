-- One metadata record of a backing file. It begins with a head of 23 bytes:
--
--     at  bytes  field
--      0      1  type
--      1      2  size of the whole record
--      3      4  not looked at
--      7      8  place of the next record, 0 at the last one
--     15      8  not looked at
--
-- Fields follow by the type: a block map (1) has the map's place (8) and its number of entries (4); a signature (3) the size (4)
-- and place (8) of the blob and the size (4) and place (8) of the hash tree; a status (4) the numbers of written data blocks (4)
-- and hash blocks (4) and six spare words. Every other type is passed over.
use Rattle.std.specs.Prelude.{ℕ, ◌+◌, Bool, ◌&&◌, ◌||◌, not, ◌==◌, nat_lt, nat_le, if◌then◌else◌, List, [], ◌∷◌, slice_index}
use Rattle.inc_bytes.specs.Fields.{field}
use Rattle.inc_bytes.specs.declared.span.Span.{Span}
use Rattle.inc_md.specs.declared.fault.ChainFault.{ChainFault}
use Rattle.inc_md.specs.declared.fault.ChainFault.TheVariants.{TooMany, Outside, BadSize, TwoMaps, TwoSignatures, NotRising}
use Rattle.inc_md.specs.declared.head.Head.{Head}
use Rattle.inc_md.specs.declared.kinds.TheConstants.{HEAD_SIZE, MAP_KIND, MAP_RECORD_SIZE, SIGNATURE_KIND, SIGNATURE_RECORD_SIZE, STATUS_KIND, STATUS_RECORD_SIZE, MOST_RECORDS}
use Rattle.inc_md.specs.declared.records.MapRecord.{MapRecord}
use Rattle.inc_md.specs.declared.records.SigRecord.{SigRecord}
use Rattle.inc_md.specs.declared.records.StatusRecord.{StatusRecord}

-- what a record's first 15 bytes say
unfoldable pub head_of : List ℕ → ℕ → Head
head_of bytes at = record { kind = slice_index bytes at; size = field 2 (at + 1) bytes; next = field 8 (at + 7) bytes }

-- whether a record of this type may have this size
abbrev pub is_size : ℕ → ℕ → Bool
is_size kind size =
    if kind == MAP_KIND then size == MAP_RECORD_SIZE
    else (if kind == SIGNATURE_KIND then size == SIGNATURE_RECORD_SIZE
    else (if kind == STATUS_KIND then size == STATUS_RECORD_SIZE
    else nat_le HEAD_SIZE size))

-- the tests before a record's first byte is read, at a place with so many records before it
abbrev pub place_tests : ℕ → ℕ → ℕ → List (Bool × ChainFault)
place_tests before len at =
    (nat_lt before MOST_RECORDS, TooMany)
    ∷ (nat_le (at + HEAD_SIZE) len, Outside at)
    ∷ []

-- the tests of what its first bytes say, after records that have a map, or a signature, or not
unfoldable pub head_tests : Bool → Bool → ℕ → ℕ → Head → List (Bool × ChainFault)
head_tests mapped signed len at head =
    (is_size head.kind head.size, BadSize at)
    ∷ (nat_le (at + head.size) len, Outside at)
    ∷ (not (mapped && (head.kind == MAP_KIND)), TwoMaps at)
    ∷ (not (signed && (head.kind == SIGNATURE_KIND)), TwoSignatures at)
    ∷ (((head.next == 0) || nat_le (at + head.size) head.next), NotRising at head.next)
    ∷ []

-- the fields of a block map record, from the place behind its head
abbrev pub map_fields : List ℕ → ℕ → MapRecord
map_fields bytes at = record { base = field 8 at bytes; count = field 4 (at + 8) bytes }

abbrev pub sig_fields : List ℕ → ℕ → SigRecord
sig_fields bytes at = record { sig_size = field 4 at bytes; sig_at = field 8 (at + 4) bytes; tree_size = field 4 (at + 12) bytes; tree_at = field 8 (at + 16) bytes }

abbrev pub status_fields : List ℕ → ℕ → StatusRecord
status_fields bytes at = record { at = at; data_written = field 4 at bytes; hash_written = field 4 (at + 4) bytes }

-- the bytes that a record takes
abbrev pub span_of : List ℕ → ℕ → Span
span_of bytes at = record { at = at; len = (head_of bytes at).size }
