use Rattle.std.proofs.Common.{◌≡◌, ◌+◌, drop}
use Rattle.inc_tree.specs.shape.Cached.{shape_with}
use Rattle.inc_tree.specs.shape.Geometry.{level_counts, total}
use Rattle.inc_tree.proofs.geometry.Geometry.blocks_from.Given as goal

abbrev pub invariant-loop-above : goal.invariant-loop-above
invariant-loop-above l =
    l.blocks + total (drop l.above (level_counts (shape_with l.self-inside.size l.self-inside.flat))) ≡ total (drop l.level (level_counts (shape_with l.self-inside.size l.self-inside.flat)))
