use Rattle.std.proofs.lemmas.Result.{err_from_is_err_and}
use Rattle.inc_layout.proofs.fixed_part.FixedSteps.{no_front, not_plain, plain_part}
use Rattle.inc_layout.proofs.fixed.open_fixed.Goals as goal

pub returns-in_err-front-clause-answer : goal.returns-in_err-front-clause-answer
returns-in_err-front-clause-answer g c =
    let p = err_from_is_err_and c.from_residual.result c.from_residual.ensures.1 in
    rw (p.1, p.2) (no_front _ _ c.in_err-front.ensures.answer)

pub returns-in_err-plain-clause-answer : goal.returns-in_err-plain-clause-answer
returns-in_err-plain-clause-answer g c =
    let p = err_from_is_err_and c.from_residual-in_err-plain.result c.from_residual-in_err-plain.ensures.1 in
    rw (p.1, p.2) (not_plain _ c.in_ok-front.front _ c.in_ok-front.ensures.answer c.in_err-plain.ensures.refused)

pub returns-clause-answer : goal.returns-clause-answer
returns-clause-answer g c =
    plain_part _ c.in_ok-front.front _ _ _ c.in_ok-front.ensures.answer c.in_ok-plain.ensures.answer c.in_ok-plain.ensures.len (rw c.in_ok-front.ensures.kept at c.open_chain.ensures.answer)
