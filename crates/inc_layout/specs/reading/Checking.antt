-- What a check of a block answers: whether a read would give the block, and else why not.
use Rattle.std.specs.Prelude.{◌≡◌, ℕ, ◌+◌, ◌<◌, All, List, length, None, Some, Result, Ok, Err, IsOk, slice_index_or}
use Rattle.sha2.specs.Sha256.{sha256}
use Rattle.inc_tree.specs.shape.Geometry.{Shape, data_blocks, depth, path_block}
use Rattle.inc_tree.specs.read_block.Path.{block_at, block_digest}
use Rattle.inc_entry.specs.Spans.{IsInside}
use Rattle.inc_entry.specs.Entry.{area_places, tree_span}
use Rattle.inc_entry.specs.declared.areas.Areas.{Areas}
use Rattle.inc_layout.specs.reading.StaticRead.{hash_block}
use Rattle.inc_layout.specs.declared.reading.checking.KeptBlock.{KeptBlock}
use Rattle.inc_layout.specs.declared.opened.Opened.{Opened}
use Rattle.inc_layout.specs.declared.reading.static_error.StaticError.{StaticError}
use Rattle.inc_layout.specs.declared.reading.static_error.StaticError.TheVariants.{ReadFault, OutOfMemory}

-- each kept block is what the file has at the place of the hash block with this number
abbrev pub AreKept : List ℕ → Areas → List KeptBlock → Type 0
AreKept bytes areas blocks = All (λ kept. kept.block ≡ hash_block bytes areas kept.number) blocks

-- a fault of the device and want of memory are free, and have clauses of their own
abbrev pub GivesCheck : Result (Unit {0}) StaticError → Result (List ℕ) StaticError → Type 0
GivesCheck (Ok good) wanted = IsOk wanted
GivesCheck (Err ReadFault) wanted = Unit {0}
GivesCheck (Err OutOfMemory) wanted = Unit {0}
GivesCheck (Err error) wanted = wanted ≡ Err error

-- ---- the steps of a check

-- a file with hash blocks has them all
abbrev pub HasTreeInside : List ℕ → Areas → Type 0
HasTreeInside bytes areas = IsInside (length bytes) (tree_span (area_places areas))

-- the hash block with this number is kept at this level
pub record IsKeptAt (blocks : List KeptBlock) (level number : ℕ) : Type 0 where
  pub there : level < length blocks
  pub numbered : (other : KeptBlock) → (slice_index_or blocks level other).number ≡ number

-- at each level below one the hash block of a data block's path is kept
abbrev pub IsKeptBelow : List KeptBlock → Shape → ℕ → ℕ → Type 0
IsKeptBelow blocks shape index count = (level : ℕ) → level < count → IsKeptAt blocks level (path_block shape index level)

-- the digests and the kept blocks are those of this content and this path
pub record KnowsPath (opened : Opened) (blocks : List KeptBlock) (index : ℕ) (content : List ℕ) (path : List (List ℕ)) : Type 0 where
  pub full : length path ≡ depth opened.areas.geometry
  pub content_digest : slice_index_or opened.digests index None ≡ Some (block_digest content)
  pub hash_digest : (level : ℕ) → level < depth opened.areas.geometry →
      slice_index_or opened.digests (data_blocks opened.areas.geometry + path_block opened.areas.geometry index level) None ≡ Some (sha256 (block_at path level))
  pub hash_block : (level : ℕ) → level < depth opened.areas.geometry → (other : KeptBlock) → (slice_index_or blocks level other).block ≡ block_at path level
