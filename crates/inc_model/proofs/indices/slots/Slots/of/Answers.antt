use Rattle.std.proofs.Common.{◌≡◌, map, rules, refl}
use Rattle.inc_model.specs.executed.SlotRows.{slot_of_opened}
use Rattle.inc_model.proofs.lists.SlotLists.{opened_open, opened_begun, opened_acknowledged}
use Rattle.inc_model.proofs.indices.slots.Slots.of.Goals as goal

pub returns : goal.returns
returns c =
    let is : c.in_ok-slots.slots.items ≡ map slot_of_opened c.args.digests.now = search rules in
    record { value = rw (is, opened_open 0 c.args.digests.now, opened_begun 0 c.args.digests.now, opened_acknowledged 0 c.args.digests.now) refl }
