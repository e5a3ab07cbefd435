use Rattle.std.proofs.Common.{sym, arith}
use Rattle.inc_model.proofs.lists.KeySlots.{add_there, slot_here, slot_last}
use Rattle.inc_model.proofs.state_lists.index_sets.slot_of.Goals as goal

pub returns-then-index-other-clause-slot : goal.returns-then-index-other-clause-slot
returns-then-index-other-clause-slot c = slot_here c.args.index c.args.indices.now c.loop-i.i _ c.loop-i-test.true c.loop-i.invariant c.if-index-other.true

pub returns-then-index-other-2-clause-there : goal.returns-then-index-other-2-clause-there
returns-then-index-other-2-clause-there c = add_there c.args.index c.args.indices.now c.loop-i.i _ c.loop-i-test.true c.loop-i.invariant (sym c.if-index-other-2.true)

pub returns-clause-slot : goal.returns-clause-slot
returns-clause-slot c = slot_last c.args.index c.args.indices.now c.loop-i.i (omega arith) c.loop-i.invariant
