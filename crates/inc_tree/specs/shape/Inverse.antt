-- A geometry is made of its shape again.
use Rattle.std.specs.Prelude.{◌≡◌, ℕ, Bool, List}
use Rattle.std.proofs.Common.{sym}
use Rattle.inc_tree.specs.declared.geometry.Geometry.TheInside.{Inside}
use Rattle.inc_tree.specs.shape.Geometry.{Shape, data_blocks, depth}
use Rattle.inc_tree.specs.shape.Cached.{Holds, padded_counts, shape_with}

-- what a geometry of this shape keeps
abbrev pub inside_of : Shape → Inside
inside_of s = record { size = s.size; flat = s.flat; blocks = data_blocks s; height = depth s; counts = padded_counts s }

same_inside : (n : ℕ) (f : Bool) (blocks blocks' height height' : ℕ) (counts counts' : List ℕ) → blocks ≡ blocks' → height ≡ height' → counts ≡ counts'
    → (let made : Inside = record { size = n; flat = f; blocks = blocks; height = height; counts = counts } in made)
    ≡ record { size = n; flat = f; blocks = blocks'; height = height'; counts = counts' }
same_inside n f b b' h h' c c' eb eh ec = cc

pub inside_of-shape : (tree : Inside) → Holds tree.size tree.flat tree.blocks tree.height tree.counts → inside_of (shape_with tree.size tree.flat) ≡ tree
inside_of-shape tree h =
    same_inside tree.size tree.flat _ tree.blocks _ tree.height _ tree.counts (sym h.blocks_are) (sym h.height_is) (sym h.counts_are)
