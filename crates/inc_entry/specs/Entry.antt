-- Entries of the block map, ten bytes each: offset (6), size (2), flags (2). The low three bits of the flags name the compression.
-- The data blocks' entries come first, then the hash blocks' entries.
use Rattle.std.specs.Prelude.{ℕ, ◌+◌, ◌-◌, ◌*◌, ◌%◌, Bool, ◌&&◌, ◌||◌, not, ◌==◌, nat_lt, nat_le, if◌then◌else◌, List, [], ◌∷◌, ◌++◌, slice_index}
use Rattle.inc_bytes.specs.Fields.{le_number}
use Rattle.inc_bytes.specs.declared.span.Span.{Span}
use Rattle.inc_tree.specs.shape.Geometry.{Shape, data_blocks, hash_blocks, block_len}
use Rattle.inc_entry.specs.declared.areas.Areas.{Areas}
use Rattle.inc_entry.specs.declared.classes.Class.{Class}
use Rattle.inc_entry.specs.declared.classes.Class.TheVariants.{Closed, OpenAt, Compressed, Damaged}
use Rattle.inc_entry.specs.declared.entry.Entry.{Entry}
use Rattle.inc_entry.specs.Spans.{is_clear}

-- where things lie in a backing file, and the shape of its content. The file's length is no part of it: what a crash may leave of one
-- file differs in length
pub record Places : Type 0 where
  pub shape : Shape
  pub spans : List Span
  pub map_at : ℕ
  pub hash_at : ℕ

abbrev pub area_places : Areas → Places
area_places areas = record { shape = areas.geometry; spans = areas.spans; map_at = areas.map_at; hash_at = areas.hash_at }

-- the bytes of an entry, and of a block
abbrev pub entry_bytes : ℕ
entry_bytes = 10

abbrev pub block_bytes : ℕ
block_bytes = 4096

-- the number of entries
abbrev pub entries : Places → ℕ
entries places = data_blocks places.shape + hash_blocks places.shape

abbrev pub map_span : Places → Span
map_span places = record { at = places.map_at; len = entry_bytes * entries places }

abbrev pub tree_span : Places → Span
tree_span places = record { at = places.hash_at; len = block_bytes * hash_blocks places.shape }

-- the areas that no data block may lie in: header, records and blob, then map and tree
abbrev pub areas_of : Places → List Span
areas_of places = places.spans ++ map_span places ∷ tree_span places ∷ []

-- the place of an entry
abbrev pub entry_at : Places → ℕ → ℕ
entry_at places i = places.map_at + entry_bytes * i

-- the place of a hash block: they stand in the tree, one after the other
abbrev pub hash_block_place : Places → ℕ → ℕ
hash_block_place places k = places.hash_at + block_bytes * k

-- the place of an index that is a hash block
abbrev pub hash_place : Places → ℕ → ℕ
hash_place places i = hash_block_place places (i - data_blocks places.shape)

-- ---- an entry's fields. The two bytes of its size stand apart: the high one is the gate, which is written last

-- the entry in the ten bytes from a place on
unfoldable pub entry_from : List ℕ → ℕ → Entry
entry_from bytes at = record {
  offset = le_number (slice_index bytes (at + 0) ∷ slice_index bytes (at + 1) ∷ slice_index bytes (at + 2) ∷ slice_index bytes (at + 3) ∷ slice_index bytes (at + 4) ∷ slice_index bytes (at + 5) ∷ []);
  low = slice_index bytes (at + 6);
  high = slice_index bytes (at + 7);
  flags = le_number (slice_index bytes (at + 8) ∷ slice_index bytes (at + 9) ∷ []);
}

abbrev pub entry_size : Entry → ℕ
entry_size e = e.low + 256 * e.high

-- the low three bits of the flags
abbrev pub compression : Entry → ℕ
compression e = e.flags % 8

-- ---- the tests of an entry of index `i` in a file of `len` bytes

-- a block of index `i` may lie in the `n` bytes from a place on
unfoldable pub fits : Places → ℕ → ℕ → ℕ → Bool
fits places i at n = if nat_lt i (data_blocks places.shape) then is_clear (areas_of places) at n else at == hash_place places i

-- the size is that of a whole block, or of this block
unfoldable pub has_size : Places → ℕ → ℕ → Bool
has_size places i size = (size == block_bytes) || (size == block_len places.shape i)

-- the entry names a block that isn't compressed
unfoldable pub asks : Places → ℕ → Entry → Bool
asks places i e = ((e.flags == 0) && has_size places i (entry_size e)) && not (e.offset == 0)

unfoldable pub is_open : Places → ℕ → ℕ → Entry → Bool
is_open places len i e = asks places i e && (nat_le (e.offset + entry_size e) len && fits places i e.offset (entry_size e))

-- it names a block that isn't inside the file
unfoldable pub past_end : Places → ℕ → ℕ → Entry → Bool
past_end places len i e = asks places i e && nat_lt len (e.offset + entry_size e)

unfoldable pub is_compressed : Entry → Bool
is_compressed e = not (compression e == 0) && (not (e.offset == 0) && not (entry_size e == 0))

unfoldable pub is_closed : Places → ℕ → Entry → Bool
is_closed places i e = ((e.flags == 0) && (e.low == 0)) && not (has_size places i (entry_size e))

unfoldable pub class_of : Places → ℕ → ℕ → Entry → Class
class_of places len i e =
    if is_open places len i e then OpenAt e.offset (entry_size e)
    else (if is_compressed e then Compressed else (if is_closed places i e then Closed else Damaged))
