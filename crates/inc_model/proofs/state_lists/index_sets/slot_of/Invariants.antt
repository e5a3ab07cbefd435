-- the indices before the place are lower
use Rattle.inc_model.proofs.lists.KeySlots.{LowerBelow}
use Rattle.inc_model.proofs.state_lists.index_sets.slot_of.Given as goal

abbrev pub invariant-loop-i : goal.invariant-loop-i
invariant-loop-i l = LowerBelow l.indices l.i l.index
