use Rattle.std.proofs.Common.{None, ap}
use Rattle.inc_cmd.proofs.filling.ShelfFills.{same_leaves}
use Rattle.inc_cmd.proofs.filling.Verdicts.{judged_told, none_told}
use Rattle.inc_cmd.proofs.commands.fill.fill_name.Goals as goal

pub returns-in-None-clause-answer : goal.returns-in-None-clause-answer
returns-in-None-clause-answer g c =
    judged_told _ _ _ c.args.name.now None _ (rw c.in-None.is at c.in_ok-verdict.ensures.answer)
    (none_told _ _ _ c.args.name.now _ (ap g.S.ReadShelf.contents c.in_ok-verdict.ensures.kept) (rw c.missing.ensures.value at c.refuse.ensures.outcome))

pub returns-in_err-verdict-clause-moments : goal.returns-in_err-verdict-clause-moments
returns-in_err-verdict-clause-moments g c = same_leaves _ _ _ _ (ap g.S.Shelf.log c.in_err-verdict.ensures.kept)

pub returns-in-None-clause-moments : goal.returns-in-None-clause-moments
returns-in-None-clause-moments g c = same_leaves _ _ _ _ (ap g.S.Shelf.log c.in_ok-verdict.ensures.kept)
