use Rattle.inc_layout.specs.Backing.{layout_in}
use Rattle.inc_cmd.proofs.CheckLemmas.{checked_outcome}
use Rattle.inc_cmd.proofs.commands.check.check_digests.Goals as goal

pub returns-clause-answer : goal.returns-clause-answer
returns-clause-answer g c =
    checked_outcome _ (layout_in c.args.opened.now) c.args.part.now c.in_ok-found.found c.show_checked.result c.in_ok-found.ensures.answer c.show_checked.ensures.outcome
