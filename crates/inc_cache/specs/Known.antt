-- A path of which some blocks are known: they stand at their levels, and the blocks that were read anew stand at the others, in order.
use Rattle.std.specs.Prelude.{◌≡◌, ◌⊎◌, ℕ, zero, suc, ◌+◌, ◌<◌, ◌≤◌, false, List, [], ◌∷◌, length, map, filter, Option, Some, None, is_some}
use Rattle.std.specs.List.{range_with_len}
use Rattle.inc_tree.specs.shape.Geometry.{Shape, data_blocks, depth, path_block}
use Rattle.inc_tree.specs.read_block.Path.{block_at}
use Rattle.inc_cache.specs.Used.{kept_at}

-- how many levels have no known block
abbrev pub missing_levels : List (Option (List ℕ)) → ℕ
missing_levels [] = 0
missing_levels (Some block ∷ levels) = missing_levels levels
missing_levels (None ∷ levels) = 1 + missing_levels levels

-- the whole path, leaf level first
abbrev pub path_with : List (Option (List ℕ)) → List (List ℕ) → List (List ℕ)
path_with [] handed = []
path_with (Some block ∷ levels) handed = block ∷ path_with levels handed
path_with (None ∷ levels) [] = []
path_with (None ∷ levels) (block ∷ handed) = block ∷ path_with levels handed

-- the numbers of the hash blocks on a block's path, leaf level first
abbrev pub path_numbers : Shape → ℕ → List ℕ
path_numbers shape index = map (path_block shape index) (range_with_len 0 (depth shape))

-- those on so many levels from the leaf level on, the highest level first
abbrev pub numbers_down : Shape → ℕ → ℕ → List ℕ
numbers_down shape index zero = []
numbers_down shape index (suc level) = path_block shape index level ∷ numbers_down shape index level

-- the block that a path has under this number
pub record IsOnPath (shape : Shape) (index : ℕ) (path : List (List ℕ)) (hash : ℕ) (block : List ℕ) : Type 0 where
  pub level : ℕ
  pub within : level < depth shape
  pub number : path_block shape index level ≡ hash
  pub at_level : block_at path level ≡ block

-- what is kept now was kept before, or is of this path
abbrev pub AddsPath : Shape → ℕ → List (List ℕ) → List (ℕ × List ℕ) → List (ℕ × List ℕ) → Type 0
AddsPath shape index path before now = (hash : ℕ) (block : List ℕ) → kept_at hash now ≡ Some block → (kept_at hash before ≡ Some block) ⊎ IsOnPath shape index path hash block

-- the numbers of those that are kept
abbrev pub numbers_kept : Shape → ℕ → List (ℕ × List ℕ) → List ℕ
numbers_kept shape index kept = filter (λ number. is_some (kept_at number kept)) (path_numbers shape index)

-- what is kept of each level
abbrev pub kept_levels : Shape → ℕ → List (ℕ × List ℕ) → List (Option (List ℕ))
kept_levels shape index kept = map (λ level. kept_at (path_block shape index level) kept) (range_with_len 0 (depth shape))

-- a block's path as contracts see it
pub record KnownBlocks : Type 0 where
  pub root : List ℕ
  pub shape : Shape
  pub index : ℕ
  -- the numbers of the known blocks
  pub numbers : List ℕ
  -- the known block of each level
  pub levels : List (Option (List ℕ))

-- what is kept of a block's path
abbrev pub known_of : List ℕ → Shape → ℕ → List (ℕ × List ℕ) → KnownBlocks
known_of root shape index kept = record {
  root = root;
  shape = shape;
  index = index;
  numbers = numbers_kept shape index kept;
  levels = kept_levels shape index kept;
}

-- what holds of every such path, which has room for all of its blocks
pub record HoldsKnownPath (shape : Shape) (index : ℕ) (levels : List (Option (List ℕ))) (path : List (List ℕ)) (room : ℕ) : Type 0 where
  pub signed : shape.flat ≡ false
  pub here : index < data_blocks shape
  pub full : length levels ≡ depth shape
  pub empty : path ≡ []
  pub roomy : length levels ≤ room
