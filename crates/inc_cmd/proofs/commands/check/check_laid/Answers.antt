use Rattle.std.proofs.Common.{ℕ, List}
use Rattle.inc_layout.specs.Backing.{layout_in}
use Rattle.inc_cmd.specs.Commands.Check.{check_laid, checked_in}
use Rattle.inc_cmd.proofs.CheckLemmas.{laid_outcome}
use Rattle.inc_cmd.proofs.GoodBlocks.{shows_checked}
use Rattle.inc_cmd.proofs.ReadLemmas.{passed_sig, unread_file}
use Rattle.inc_cmd.proofs.commands.check.check_laid.Goals as goal

pub returns-in-Ok-clause-answer : goal.returns-in-Ok-clause-answer
returns-in-Ok-clause-answer g c =
    passed_sig _ c.args.name.now _ (λ (bytes : List ℕ). checked_in bytes c.args.layout c.args.part.now) c.check_digests.result c.in_default.ensures.none
    (laid_outcome _ (layout_in c.in-Ok.opened) c.args.layout c.args.part.now c.check_digests.result c.in-Ok.ensures.same (rw c.in-Ok.ensures.kept at c.check_digests.ensures.answer))

pub returns-in-Ok-clause-shows : goal.returns-in-Ok-clause-shows
returns-in-Ok-clause-shows g c =
    shows_checked _ c.args.name.now c.args.root c.args.layout c.args.part.now c.check_digests.result c.requires.begins c.requires.stands (returns-in-Ok-clause-answer g c)

pub returns-in-Err-clause-answer : goal.returns-in-Err-clause-answer
returns-in-Err-clause-answer g c =
    unread_file _ c.args.name.now c.in-Err.fault (λ (bytes : List ℕ). check_laid c.args.name.now c.args.root bytes c.args.layout c.args.part.now) _
    c.in-Err.ensures.failed c.refuse_layout.ensures.outcome c.refuse_layout.ensures.refused
