use Rattle.std.proofs.Common.{length, ap, arith}
use Rattle.inc_tree.proofs.read_block.path.check_path.Goals as goal

pub level_digests-digests-requires-clause-low : goal.level_digests-digests-requires-clause-low
level_digests-digests-requires-clause-low c =
    omega (arith, ap length c.as_slice.ensures.value, c.requires.full, c.depth-depth.ensures.low, c.depth-depth.ensures.value)

pub compare_levels-requires-clause-count : goal.compare_levels-requires-clause-count
compare_levels-requires-clause-count c =
    omega (arith, ap length c.as_slice-2.ensures.value, c.requires.full, c.depth-depth.ensures.low, c.depth-depth.ensures.value)
