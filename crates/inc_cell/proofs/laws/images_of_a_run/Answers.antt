use Rattle.inc_cell.proofs.openings.RunLemmas.{runs_by_one, runs_from_now, runs_go_on, runs_join}
use Rattle.inc_cell.proofs.laws.images_of_a_run.Goals as goal

pub returns-clause-none : goal.returns-clause-none
returns-clause-none c = runs_from_now

pub returns-clause-one : goal.returns-clause-one
returns-clause-one c = runs_by_one

pub returns-clause-joined : goal.returns-clause-joined
returns-clause-joined c = runs_join

pub returns-clause-more : goal.returns-clause-more
returns-clause-more c = runs_go_on
