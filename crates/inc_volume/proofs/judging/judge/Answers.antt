use Rattle.inc_volume.proofs.VerdictMeaning.{judged_means}
use Rattle.inc_volume.proofs.judging.judge.Goals as goal

pub returns-in_ok-verdict_by-in-Some-clause-meaning : goal.returns-in_ok-verdict_by-in-Some-clause-meaning
returns-in_ok-verdict_by-in-Some-clause-meaning g c =
    judged_means _ _ _ c.in-Some.standing _ c.in-Some.is c.in_ok-standing.ensures.answer (rw c.in_ok-standing.ensures.kept at c.in_ok-verdict_by-in-Some.ensures.answer)
