use Rattle.inc_model.proofs.steps.Breaks.{failed_is_first, first_is_failed, none_has_failed, poll_leaves_failed, faults_counted}
use Rattle.inc_model.proofs.laws.faults_are_told.Goals as goal

pub returns-clause-first : goal.returns-clause-first
returns-clause-first c = failed_is_first

pub returns-clause-named : goal.returns-clause-named
returns-clause-named c = first_is_failed

pub returns-clause-none : goal.returns-clause-none
returns-clause-none c = none_has_failed

pub returns-clause-polls : goal.returns-clause-polls
returns-clause-polls c = poll_leaves_failed

pub returns-clause-counted : goal.returns-clause-counted
returns-clause-counted c = faults_counted
