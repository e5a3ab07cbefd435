use Rattle.inc_model.proofs.steps.Polls.{times_out_absent, gate_completes}
use Rattle.inc_model.proofs.steps.Paths.{hands_out_there, names_absent}
use Rattle.inc_model.proofs.runs.Worlds.{keeps_acknowledged, acknowledged_there}
use Rattle.inc_model.proofs.runs.Sources.{digests_come}
use Rattle.inc_model.proofs.laws.worlds_keep.Goals as goal

pub returns-clause-acknowledged : goal.returns-clause-acknowledged
returns-clause-acknowledged c = keeps_acknowledged

pub returns-clause-there : goal.returns-clause-there
returns-clause-there c = acknowledged_there

pub returns-clause-timed_out : goal.returns-clause-timed_out
returns-clause-timed_out c = times_out_absent

pub returns-clause-gate : goal.returns-clause-gate
returns-clause-gate c = gate_completes

pub returns-clause-digests : goal.returns-clause-digests
returns-clause-digests c = digests_come

pub returns-clause-handed : goal.returns-clause-handed
returns-clause-handed c = hands_out_there

pub returns-clause-path : goal.returns-clause-path
returns-clause-path c = names_absent
