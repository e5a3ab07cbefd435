use Rattle.std.proofs.Common.{sym, arith}
use Rattle.inc_model.proofs.lists.SlotLists.{marked_in, marked_past}
use Rattle.inc_model.proofs.indices.slots.is_marked.Goals as goal

pub returns-then-at-slots : goal.returns-then-at-slots
returns-then-at-slots c = record { value = sym (marked_past c.args.slots.now c.args.index (omega arith)) }

pub returns : goal.returns
returns c = record { value = sym (marked_in c.args.slots.now c.args.index _ c.if-at-slots.false) }
