use Rattle.inc_model.proofs.steps.Places.{claimed_room, claims_counted, claims_of_others}
use Rattle.inc_model.proofs.runs.Histories.{stays_within}
use Rattle.inc_model.proofs.laws.histories_stay_small.Goals as goal

pub returns-clause-limit : goal.returns-clause-limit
returns-clause-limit c = stays_within

pub returns-clause-room : goal.returns-clause-room
returns-clause-room c = claimed_room

pub returns-clause-counted : goal.returns-clause-counted
returns-clause-counted c = claims_counted

pub returns-clause-others : goal.returns-clause-others
returns-clause-others c = claims_of_others
