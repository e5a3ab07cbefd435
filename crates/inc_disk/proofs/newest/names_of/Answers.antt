use Rattle.std.proofs.Common.{◌∙◌, ap, sym, rules}
use Rattle.inc_disk.specs.Book.{with_name}
use Rattle.inc_disk.proofs.NamesLemmas.{names_step, no_keys}
use Rattle.inc_disk.proofs.newest.names_of.Goals as goal

pub loop-entry-init : goal.loop-entry-init
loop-entry-init c = c.new-names.ensures.items ∙ sym no_keys

pub loop-entry-preserved : goal.loop-entry-preserved
loop-entry-preserved c =
    c.in_ok-put_name.ensures.ok ∙ ap (with_name c.entry-item.result.name) c.loop-entry.invariant
    ∙ sym (names_step c.args.entries.now c.loop-entry.entry-index c.entry-item.result _ _ (search rules) c.entry-item.is c.state.ensures.value.1)
