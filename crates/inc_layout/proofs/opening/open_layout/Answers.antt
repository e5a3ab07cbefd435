use Rattle.std.proofs.lemmas.Result.{err_from_is_err_and}
use Rattle.inc_layout.proofs.opened_file.AcceptedLemmas.{told_accepted, told_least}
use Rattle.inc_layout.proofs.opened_file.OpeningSteps.{no_layout, none_past_given}
use Rattle.inc_layout.proofs.opening.open_layout.Goals as goal

pub returns-in_err-layout-clause-answer : goal.returns-in_err-layout-clause-answer
returns-in_err-layout-clause-answer g c =
    let p = err_from_is_err_and c.from_residual.result c.from_residual.ensures.1 in
    rw (p.1, p.2) (no_layout _ _ c.in_err-layout.ensures.answer)

pub returns-clause-answer : goal.returns-clause-answer
returns-clause-answer g c = rw (c.in_ok-layout.ensures.kept) at c.open_digests.ensures.answer

-- what follows from the answer, whatever it is

pub returns-in_err-layout-clause-accepted : goal.returns-in_err-layout-clause-accepted
returns-in_err-layout-clause-accepted g c = told_accepted _ _ (returns-in_err-layout-clause-answer g c)

pub returns-in_err-layout-clause-least : goal.returns-in_err-layout-clause-least
returns-in_err-layout-clause-least g c = told_least _ _ (returns-in_err-layout-clause-answer g c)

pub returns-clause-accepted : goal.returns-clause-accepted
returns-clause-accepted g c = told_accepted _ _ (returns-clause-answer g c)

pub returns-clause-least : goal.returns-clause-least
returns-clause-least g c = told_least _ _ (returns-clause-answer g c)

pub returns-clause-none_past : goal.returns-clause-none_past
returns-clause-none_past g c = none_past_given _ _ (returns-clause-answer g c)
