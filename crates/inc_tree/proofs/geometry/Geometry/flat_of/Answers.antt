use Rattle.inc_tree.proofs.LevelLemmas.{flat_holds}
use Rattle.inc_tree.proofs.geometry.Geometry.flat_of.Goals as goal

pub invariant_of-result : goal.invariant_of-result
invariant_of-result c = rw c.in_ok-blocks.ensures.value (flat_holds c.args.size c.in_ok-blocks.ensures.fits)
