use Rattle.inc_model.proofs.runs.Histories.{windows_own, own_join, others_keep}
use Rattle.inc_model.proofs.laws.entries_are_owned.Goals as goal

pub returns-clause-windows : goal.returns-clause-windows
returns-clause-windows c = windows_own

pub returns-clause-joined : goal.returns-clause-joined
returns-clause-joined c = own_join

pub returns-clause-kept : goal.returns-clause-kept
returns-clause-kept c = others_keep
