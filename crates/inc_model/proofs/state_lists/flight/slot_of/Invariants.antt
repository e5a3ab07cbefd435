-- the rows before the place aren't above
use Rattle.inc_model.proofs.lists.RowSlots.{NoneAbove}
use Rattle.inc_model.proofs.state_lists.flight.slot_of.Given as goal

abbrev pub invariant-loop-i : goal.invariant-loop-i
invariant-loop-i l = NoneAbove l.flight l.i l.row
