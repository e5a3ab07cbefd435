use Rattle.std.proofs.Common.{sym, arith, ◌∙◌}
use Rattle.inc_model.specs.executed.SlotRows.{begun_digest_in}
use Rattle.inc_model.proofs.lists.SlotLists.{slot_value, slot_past}
use Rattle.inc_model.proofs.indices.slots.find_begun.Goals as goal

pub returns-then-at-slots : goal.returns-then-at-slots
returns-then-at-slots c = record { value = sym (slot_past begun_digest_in c.args.slots.now c.args.index (omega arith)) }

pub returns : goal.returns
returns c = record { value = c.begun_digest.ensures.value ∙ sym (slot_value begun_digest_in c.args.slots.now c.args.index _ c.if-at-slots.false) }
