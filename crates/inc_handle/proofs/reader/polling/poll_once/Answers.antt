use Rattle.inc_handle.proofs.reads.PollLemmas.{poll_told, polls_cell}
use Rattle.inc_handle.proofs.reads.SeenLemmas.{turn_legal}
use Rattle.inc_handle.proofs.reader.polling.poll_once.Goals as goal

pub told-requires-clause-poll : goal.told-requires-clause-poll
told-requires-clause-poll g c = polls_cell _ _ _ _ _ _ _ _ _ c.take_turn.ensures.turn c.requires.footing c.requires.waits

pub returns-clause-told : goal.returns-clause-told
returns-clause-told g c = rw c.told.ensures.value (poll_told _ _ _ _ _ _ _ _ _ c.take_turn.ensures.turn c.requires.footing c.requires.waits)

pub returns-clause-legal : goal.returns-clause-legal
returns-clause-legal g c = turn_legal _ _ _ _ _ c.take_turn.ensures.turn c.requires.footing
