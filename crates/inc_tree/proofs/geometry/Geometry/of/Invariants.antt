use Rattle.inc_tree.proofs.LevelLemmas.{LevelsSoFar}
use Rattle.inc_tree.proofs.geometry.Geometry.of.Given as goal

abbrev pub invariant-loop-below : goal.invariant-loop-below
invariant-loop-below l = LevelsSoFar l.blocks l.below l.height l.counts

abbrev pub decreases-loop-below : goal.decreases-loop-below
decreases-loop-below l = l.below
