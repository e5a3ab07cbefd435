use Rattle.inc_turn.proofs.TurnLemmas.{turn_adds, nothing_adds, adds_both, adds_keeps}
use Rattle.inc_turn.proofs.laws.turns_add_own.Goals as goal

pub returns-clause-turn : goal.returns-clause-turn
returns-clause-turn g c = turn_adds g.M.Machine.history g.M.Machine.footing g.M.Machine.steps

pub returns-clause-none : goal.returns-clause-none
returns-clause-none g c = nothing_adds

pub returns-clause-both : goal.returns-clause-both
returns-clause-both g c = adds_both

pub returns-clause-kept : goal.returns-clause-kept
returns-clause-kept g c = adds_keeps
