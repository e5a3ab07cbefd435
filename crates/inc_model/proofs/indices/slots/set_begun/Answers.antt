use Rattle.std.proofs.Common.{sym, ap, subst, ◌∙◌}
use Rattle.inc_model.specs.relation.State.{keys_of}
use Rattle.inc_model.specs.executed.IndexLists.{HasNoOther}
use Rattle.inc_model.specs.executed.SlotRows.{open_digest, begun_digest_in, acknowledged_mark}
use Rattle.inc_model.proofs.lists.SlotLists.{slot_value, slot_same, slot_insert, begun_open}
use Rattle.inc_model.proofs.indices.slots.set_begun.Goals as goal

pub returns-clause-open_slots : goal.returns-clause-open_slots
returns-clause-open_slots c =
    let slots = c.args.slots.now.items in
    let before = c.index.result.now in
    let found = slot_value open_digest slots c.args.index before c.requires.within ∙ ap open_digest (sym c.index.ensures) in
    let alone : HasNoOther c.args.digest (open_digest before) = subst (HasNoOther c.args.digest) found c.requires.alone in
    slot_same open_digest slots c.args.index c.begun_slot-slot.result before c.requires.within (ap open_digest c.begun_slot-slot.ensures.value ∙ begun_open c.args.digest before alone ∙ ap open_digest c.index.ensures)

pub returns-clause-begun : goal.returns-clause-begun
returns-clause-begun c = slot_insert begun_digest_in c.args.slots.now.items c.args.index c.begun_slot-slot.result c.args.digest c.requires.within (ap begun_digest_in c.begun_slot-slot.ensures.value)

pub returns-clause-acknowledged : goal.returns-clause-acknowledged
returns-clause-acknowledged c =
    ap keys_of (slot_same acknowledged_mark c.args.slots.now.items c.args.index c.begun_slot-slot.result c.index.result.now c.requires.within (ap acknowledged_mark c.begun_slot-slot.ensures.value ∙ ap acknowledged_mark c.index.ensures))
