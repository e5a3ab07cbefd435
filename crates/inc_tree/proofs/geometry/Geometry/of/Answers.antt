use Rattle.std.proofs.Common.{◌≡◌, arith}
use Rattle.inc_tree.specs.shape.Geometry.{blocks_above}
use Rattle.inc_tree.proofs.LevelLemmas.{levels_step, levels_found}
use Rattle.inc_tree.proofs.geometry.Geometry.of.Goals as goal

pub loop-below-preserved : goal.loop-below-preserved
loop-below-preserved c =
    let next : blocks_above c.loop-below.below ≡ c.div_ceil-below.result = omega arith in
    rw (← next) (levels_step _ _ _ _ c.loop-below.invariant c.loop-below-test.true)

pub invariant_of-result : goal.invariant_of-result
invariant_of-result c =
    let blocks = c.in_ok-blocks.ensures.value in
    rw blocks (levels_found c.args.size _ _ _ (rw blocks at c.loop-below.invariant) c.loop-below-test.false c.in_ok-blocks.ensures.fits)
