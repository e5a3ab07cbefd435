use Rattle.inc_handle.proofs.reads.LeaveLemmas.{leave_told}
use Rattle.inc_handle.proofs.reads.SeenLemmas.{turn_legal}
use Rattle.inc_handle.proofs.reader.leave_at.Goals as goal

pub returns-clause-legal : goal.returns-clause-legal
returns-clause-legal g c = λ known is. turn_legal known _ _ _ _ c.take_turn.ensures.turn is

pub returns-clause-told : goal.returns-clause-told
returns-clause-told g c = rw c.left.ensures.value (leave_told _ _ _ c.take_turn.ensures.turn)
