use Rattle.inc_model.proofs.runs.Histories.{step_stays, step_more, legal_facts, legal_more}
use Rattle.inc_model.proofs.facts_kept.Step.{opening_facts, opening_more}
use Rattle.inc_model.proofs.laws.facts_stay.Goals as goal

pub returns-clause-opening : goal.returns-clause-opening
returns-clause-opening c = λ s o. (opening_facts s o, opening_more s o)

pub returns-clause-step : goal.returns-clause-step
returns-clause-step c = step_stays

pub returns-clause-more : goal.returns-clause-more
returns-clause-more c = step_more

pub returns-clause-legal : goal.returns-clause-legal
returns-clause-legal c = λ start told entries opening legal. (legal_facts start told entries opening legal, legal_more start told entries opening legal)
