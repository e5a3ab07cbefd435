-- What a cache of hash blocks keeps: blocks on paths that the file's root vouches for.
use Rattle.std.specs.Prelude.{◌≡◌, ℕ, ◌<◌, false, List, Some, []}
use Rattle.inc_tree.specs.shape.Geometry.{Shape, data_blocks, depth, path_block}
use Rattle.inc_tree.specs.read_block.Path.{IsProof, block_at}
use Rattle.inc_cache.specs.Used.{kept_at}

-- the hash block with this number was verified up to the root: it stands at its place in a path that proves some data block
pub record WasVerified (root : List ℕ) (shape : Shape) (hash : ℕ) (block : List ℕ) : Type 0 where
  pub index : ℕ
  pub bytes : List ℕ
  pub path : List (List ℕ)
  pub level : ℕ
  pub here : index < data_blocks shape
  pub within : level < depth shape
  pub proof : IsProof root shape index bytes path
  pub number : path_block shape index level ≡ hash
  pub at_level : block_at path level ≡ block

-- a cache as contracts see it: the file's root and shape, how many blocks it may keep, and those that it keeps by their numbers, the most recently used first
pub record CachedHashes : Type 0 where
  pub root : List ℕ
  pub shape : Shape
  pub room : ℕ
  pub kept : List (ℕ × List ℕ)

abbrev pub empty_cache : List ℕ → Shape → ℕ → CachedHashes
empty_cache root shape room = record { root = root; shape = shape; room = room; kept = [] }

-- the same with other blocks
abbrev pub cache_with : CachedHashes → List (ℕ × List ℕ) → CachedHashes
cache_with cache kept = record { root = cache.root; shape = cache.shape; room = cache.room; kept = kept }

-- all that is kept under this root was verified
abbrev pub WereVerified : List ℕ → Shape → List (ℕ × List ℕ) → Type 0
WereVerified root shape kept = (hash : ℕ) (block : List ℕ) → kept_at hash kept ≡ Some block → WasVerified root shape hash block

-- what holds of every cache: its file has a tree
pub record KeepsHashes (root : List ℕ) (shape : Shape) (kept : List (ℕ × List ℕ)) : Type 0 where
  pub signed : shape.flat ≡ false
  pub vouched : WereVerified root shape kept
