-- What a geometry keeps beside the file's shape, so that each reader is a look-up.
use Rattle.std.specs.Prelude.{◌≡◌, ℕ, ◌-◌, ◌≤◌, Bool, List, ◌++◌, replicate}
use Rattle.inc_tree.specs.shape.Geometry.{Shape, data_blocks, level_counts, depth}
use Rattle.inc_tree.specs.shape.Limits.{most_size, most_levels}

-- the counts of the levels, leaf level first, and zeros above them up to the most levels
unfoldable pub padded_counts : Shape → List ℕ
padded_counts shape = level_counts shape ++ replicate (most_levels - depth shape) 0

-- the shape of these two
abbrev pub shape_with : ℕ → Bool → Shape
shape_with n is_flat = record { size = n; flat = is_flat }

pub record Holds (size : ℕ) (flat : Bool) (blocks height : ℕ) (counts : List ℕ) : Type 0 where
  pub small : size ≤ most_size
  pub blocks_are : blocks ≡ data_blocks (shape_with size flat)
  pub height_is : height ≡ depth (shape_with size flat)
  pub low : depth (shape_with size flat) ≤ most_levels
  pub counts_are : counts ≡ padded_counts (shape_with size flat)
