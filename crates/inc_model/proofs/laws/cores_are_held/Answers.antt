use Rattle.std.proofs.Common.{subst, arith}
use Rattle.inc_model.specs.executed.CoreFacts.{IsHeld}
use Rattle.inc_model.specs.relation.Step.{state_after}
use Rattle.inc_model.proofs.executed.Start.{start_held}
use Rattle.inc_model.proofs.facts_kept.Core.{held_after, workable, serials_fit}
use Rattle.inc_model.proofs.runs.Cores.{opening_start, held_along, gates_alone, entries_take}
use Rattle.inc_model.proofs.laws.cores_are_held.Goals as goal

pub returns-clause-opening : goal.returns-clause-opening
returns-clause-opening c = opening_start

pub returns-clause-start : goal.returns-clause-start
returns-clause-start c = λ s start. start_held s start

pub returns-clause-step : goal.returns-clause-step
returns-clause-step c = held_after

pub returns-clause-legal : goal.returns-clause-legal
returns-clause-legal c = λ told s entries start legal. subst (λ k. IsHeld k (state_after 0 s entries)) (omega arith) (held_along told 0 s entries (start_held s start) legal)

pub returns-clause-workable : goal.returns-clause-workable
returns-clause-workable c = workable

pub returns-clause-serials : goal.returns-clause-serials
returns-clause-serials c = serials_fit

pub returns-clause-places : goal.returns-clause-places
returns-clause-places c = entries_take

pub returns-clause-alone : goal.returns-clause-alone
returns-clause-alone c = gates_alone
