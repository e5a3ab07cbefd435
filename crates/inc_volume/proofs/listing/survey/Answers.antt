use Rattle.inc_volume.proofs.OwnFaults.{own_judged}
use Rattle.inc_volume.proofs.SurveyMeaning.{survey_answers, survey_means, survey_names}
use Rattle.inc_volume.proofs.listing.survey.Goals as goal

pub returns-clause-answer : goal.returns-clause-answer
returns-clause-answer g c =
    survey_answers _ _ _ _ c.in_ok-names.ensures.told (rw (c.in_ok-names.ensures.kept, c.as_slice.ensures.value) at c.in_ok-standings.ensures.answer)
    (rw c.as_slice-2.ensures.value at c.in_ok-judge_all.ensures.value)

pub returns-clause-names : goal.returns-clause-names
returns-clause-names g c = survey_names _ _ (returns-clause-answer g c)

pub returns-clause-meaning : goal.returns-clause-meaning
returns-clause-meaning g c = survey_means _ _ (returns-clause-answer g c)

pub returns-clause-own : goal.returns-clause-own
returns-clause-own g c = rw (c.in_ok-judge_all.ensures.value, c.as_slice-2.ensures.value) (own_judged _ _ c.in_ok-standings.ensures.own)
