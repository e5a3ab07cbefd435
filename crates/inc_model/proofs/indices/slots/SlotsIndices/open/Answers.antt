use Rattle.std.proofs.Common.{◌<◌, length, ap, ◌∙◌, rules}
use Rattle.inc_model.specs.executed.IndexLists.{opened_in}
use Rattle.inc_model.proofs.lists.SlotLists.{lists_opened, holds_opened, counts_fit}
use Rattle.inc_model.proofs.indices.slots.SlotsIndices.open.Goals as goal

pub counts_after-data_count-requires : goal.counts_after-data_count-requires
counts_after-data_count-requires c =
    let slots = c.self.inside.slots.items in
    let within : c.args.index < length slots = search rules in
    record { few = counts_fit c.self.inside.n c.self.inside.m slots c.args.index c.args.digest c.set_open-before.result within c.set_open-before.ensures.before c.self.inside.data_count c.self.inside.hash_count c.self.invariant }

pub invariant_of-self : goal.invariant_of-self
invariant_of-self c =
    let slots = c.self.inside.slots.items in
    let within : c.args.index < length slots = search rules in
    let counts = c.counts_after-data_count in
    rw c.set_open-before.ensures.after
    (holds_opened c.self.inside.n c.self.inside.m slots c.args.index c.args.digest c.set_open-before.result within c.set_open-before.ensures.before c.self.inside.data_count c.self.inside.hash_count counts.result.0 counts.result.1 c.self.invariant counts.ensures.data_blocks counts.ensures.hash_blocks)

pub returns-clause-lists : goal.returns-clause-lists
returns-clause-lists c =
    let slots = c.self.inside.slots.items in
    let within : c.args.index < length slots = search rules in
    rw c.set_open-before.ensures.after (lists_opened c.self.inside.n c.self.inside.m slots c.args.index c.args.digest c.set_open-before.result within c.set_open-before.ensures.before ∙ ap (opened_in c.args.index c.args.digest) c.self.view_is)
