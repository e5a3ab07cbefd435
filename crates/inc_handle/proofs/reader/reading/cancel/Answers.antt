use Rattle.inc_handle.proofs.reads.SeenLemmas.{turn_legal}
use Rattle.inc_handle.proofs.reader.reading.cancel.Goals as goal

pub returns-clause-legal : goal.returns-clause-legal
returns-clause-legal g c = turn_legal _ _ _ _ _ c.take_turn-answer.ensures.turn c.requires.footing
