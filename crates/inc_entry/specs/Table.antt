-- The classes of block map entries in words: one row each, and no entry is in two.
use Rattle.std.specs.Prelude.{◌≡◌, ◌≢◌, ℕ, ◌+◌, ◌<◌, ◌≤◌, ◌⊎◌}
use Rattle.inc_tree.specs.shape.Geometry.{data_blocks, block_len}
use Rattle.inc_entry.specs.declared.classes.Class.{Class}
use Rattle.inc_entry.specs.declared.classes.Class.TheVariants.{Closed, OpenAt, Compressed, Damaged}
use Rattle.inc_entry.specs.declared.entry.Entry.{Entry}
use Rattle.inc_entry.specs.Spans.{IsClear}
use Rattle.inc_entry.specs.Entry.{Places, areas_of, block_bytes, hash_place, entry_size, compression}

-- its bytes lie inside the file where a block of this index may lie
pub record IsOpenEntry (places : Places) (len i : ℕ) (e : Entry) : Type 0 where
  pub flags : e.flags ≡ 0
  pub sized : (entry_size e ≡ block_bytes) ⊎ (entry_size e ≡ block_len places.shape i)
  pub offset : 0 < e.offset
  pub inside : e.offset + entry_size e ≤ len
  pub of_content : i < data_blocks places.shape → IsClear (areas_of places) e.offset (entry_size e)
  pub of_tree : data_blocks places.shape ≤ i → e.offset ≡ hash_place places i

pub record IsCompressedEntry (e : Entry) : Type 0 where
  pub compressed : 0 < compression e
  pub offset : 0 < e.offset
  pub sized : 0 < entry_size e

-- its gate isn't open: the high byte of the size may hold anything that makes no valid size
pub record IsClosedEntry (places : Places) (i : ℕ) (e : Entry) : Type 0 where
  pub flags : e.flags ≡ 0
  pub low : e.low ≡ 0
  pub whole : entry_size e ≢ block_bytes
  pub own : entry_size e ≢ block_len places.shape i

-- in none of the other rows
pub record IsDamagedEntry (places : Places) (len i : ℕ) (e : Entry) : Type 0 where
  pub not_open : ¬ (IsOpenEntry places len i e)
  pub not_compressed : ¬ (IsCompressedEntry e)
  pub not_closed : ¬ (IsClosedEntry places i e)

abbrev pub IsClass : Places → ℕ → ℕ → Entry → Class → Type 0
IsClass places len i e (OpenAt place size) = IsOpenEntry places len i e × (place ≡ e.offset) × (size ≡ entry_size e)
IsClass places len i e Compressed = IsCompressedEntry e
IsClass places len i e Closed = IsClosedEntry places i e
IsClass places len i e Damaged = IsDamagedEntry places len i e
