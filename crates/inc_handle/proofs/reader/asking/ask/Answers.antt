use Rattle.inc_handle.proofs.reads.AskLemmas.{ask_taken, ask_told, asks_cell}
use Rattle.inc_handle.proofs.reads.SeenLemmas.{turn_legal}
use Rattle.inc_handle.proofs.reader.asking.ask.Goals as goal

pub take_turn-answer-requires-clause-takes : goal.take_turn-answer-requires-clause-takes
take_turn-answer-requires-clause-takes g c = rw c.ask_event.ensures.value (ask_taken _ _ _ _ _)

pub told-requires : goal.told-requires
told-requires g c = record { ask = asks_cell _ _ _ _ _ c.args.early _ (rw c.ask_event.ensures.value at c.take_turn-answer.ensures.turn) }

pub returns-clause-told : goal.returns-clause-told
returns-clause-told g c = rw c.told.ensures.value (ask_told _ _ _ _ _ _ c.args.early _ (rw c.ask_event.ensures.value at c.take_turn-answer.ensures.turn) c.requires.footing)

pub returns-clause-legal : goal.returns-clause-legal
returns-clause-legal g c = turn_legal _ _ _ _ _ c.take_turn-answer.ensures.turn c.requires.footing
