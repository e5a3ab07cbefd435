use Rattle.std.proofs.Common.{sym, arith, ◌∙◌}
use Rattle.inc_model.specs.executed.SlotRows.{open_digest}
use Rattle.inc_model.proofs.lists.SlotLists.{slot_value, slot_past}
use Rattle.inc_model.proofs.indices.slots.find_open.Goals as goal

pub returns-then-at-slots : goal.returns-then-at-slots
returns-then-at-slots c = record { value = sym (slot_past open_digest c.args.slots.now c.args.index (omega arith)) }

pub returns : goal.returns
returns c = record { value = c.open_digest.ensures.value ∙ sym (slot_value open_digest c.args.slots.now c.args.index _ c.if-at-slots.false) }
