-- the keys before the place are lower
use Rattle.inc_model.proofs.lists.KeySlots.{AllBelow}
use Rattle.inc_model.proofs.state_lists.keyed.place_of.Given as goal

abbrev pub invariant-loop-i : goal.invariant-loop-i
invariant-loop-i T l = AllBelow l.rows l.i l.key
