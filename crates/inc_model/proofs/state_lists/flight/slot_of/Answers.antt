use Rattle.std.proofs.Common.{arith}
use Rattle.inc_model.proofs.lists.RowSlots.{flight_slot, flight_last}
use Rattle.inc_model.proofs.state_lists.flight.slot_of.Goals as goal

pub returns-then-row-other : goal.returns-then-row-other
returns-then-row-other c = record { slot = flight_slot c.args.row c.args.flight.now c.loop-i.i _ c.loop-i-test.true c.loop-i.invariant c.if-row-other.true }

pub returns : goal.returns
returns c = record { slot = flight_last c.args.row c.args.flight.now c.loop-i.i (omega arith) c.loop-i.invariant }
