use Rattle.inc_handle.proofs.reads.TurnLemmas.{cell_turn}
use Rattle.inc_handle.proofs.cell_turn.take_turn.Goals as goal

pub returns-clause-turn : goal.returns-clause-turn
returns-clause-turn g c = cell_turn _ _ _ _ c.turn.ensures.turn (c.turns_add_own.ensures.turn _ _ _ _ c.turn.ensures.turn)
