use Rattle.std.proofs.Common.{ap, ◌∙◌}
use Rattle.inc_model.specs.executed.SlotRows.{open_digest, begun_digest_in, acknowledged_in_slots}
use Rattle.inc_model.proofs.lists.SlotLists.{slot_same, marked_set}
use Rattle.inc_model.specs.declared.indices.slots.Slot.{Slot}
use Rattle.std.proofs.Common.{set}
use Rattle.inc_model.proofs.indices.slots.set_acknowledged.Goals as goal

pub returns-clause-open_slots : goal.returns-clause-open_slots
returns-clause-open_slots c =
    slot_same open_digest c.args.slots.now.items c.args.index c.acknowledged_slot-slot.result c.index.result.now c.requires.within (ap open_digest c.acknowledged_slot-slot.ensures.value ∙ ap open_digest c.index.ensures)

pub returns-clause-begun : goal.returns-clause-begun
returns-clause-begun c =
    slot_same begun_digest_in c.args.slots.now.items c.args.index c.acknowledged_slot-slot.result c.index.result.now c.requires.within (ap begun_digest_in c.acknowledged_slot-slot.ensures.value ∙ ap begun_digest_in c.index.ensures)

pub returns-clause-acknowledged : goal.returns-clause-acknowledged
returns-clause-acknowledged c =
    ap (λ (slot : Slot). acknowledged_in_slots (set c.args.slots.now.items c.args.index slot)) c.acknowledged_slot-slot.ensures.value ∙ marked_set c.args.slots.now.items c.args.index c.index.result.now c.requires.within
