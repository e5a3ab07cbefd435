use Rattle.inc_model.proofs.steps.Stages.{advances}
use Rattle.inc_model.proofs.steps.Syncs.{settles_all, map_stays}
use Rattle.inc_model.proofs.steps.Faults.{gate_begins, faults_seen, faults_stay}
use Rattle.inc_model.proofs.unchanged.Flight.{leaves_only}
use Rattle.inc_model.proofs.unchanged.Map.{acknowledges_synced, opens_by_gate, begins_by_gate, fails_for_good}
use Rattle.inc_model.proofs.laws.fills_go_by_stages.Goals as goal

pub returns-clause-stages : goal.returns-clause-stages
returns-clause-stages c = advances

pub returns-clause-leaves : goal.returns-clause-leaves
returns-clause-leaves c = leaves_only

pub returns-clause-acknowledged : goal.returns-clause-acknowledged
returns-clause-acknowledged c = λ old new told at who event reply index step. acknowledges_synced old new told at who event reply step index

pub returns-clause-opened : goal.returns-clause-opened
returns-clause-opened c = opens_by_gate

pub returns-clause-begun : goal.returns-clause-begun
returns-clause-begun c = begins_by_gate

pub returns-clause-failed : goal.returns-clause-failed
returns-clause-failed c = λ old new told at who event reply position step. fails_for_good old new told at who event reply step position

pub returns-clause-gate : goal.returns-clause-gate
returns-clause-gate c = gate_begins

pub returns-clause-faults : goal.returns-clause-faults
returns-clause-faults c = faults_seen

pub returns-clause-quiet : goal.returns-clause-quiet
returns-clause-quiet c = faults_stay

pub returns-clause-syncs : goal.returns-clause-syncs
returns-clause-syncs c = settles_all

pub returns-clause-map : goal.returns-clause-map
returns-clause-map c = map_stays
