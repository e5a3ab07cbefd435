-- One turn of a seat at a cell: which entry it leaves, and where that stands in the file's one history.
use Rattle.std.specs.Prelude.{◌≡◌, ℕ, Bool, true, false, List, [], ◌++◌, Some}
use Rattle.inc_model.specs.executed.EntriesLeft.{entry_left}
use Rattle.inc_model.specs.laws.HistoryLaws.{are_others}
use Rattle.inc_model.specs.declared.words.event.Event.{Event}
use Rattle.inc_model.specs.declared.words.event.Event.TheVariants.{Ask}
use Rattle.inc_model.specs.declared.words.reply.Entry.{Entry}
use Rattle.inc_cell.specs.events.CellEvents.{CellMoves, event_of, footing_of}
use Rattle.inc_cell.specs.seen.Seen.{Seen}
use Rattle.inc_cell.specs.declared.machine.CellFooting.{CellFooting}
use Rattle.inc_cell.specs.declared.words.answer.Answer.{Answer}
use Rattle.inc_cell.specs.declared.words.answer.CellReply.{CellReply}
use Rattle.inc_cell.specs.declared.words.answer.CellReply.TheVariants.{Done, HistoryFull, OutOfMemory}
use Rattle.inc_cell.specs.declared.words.event.CellEvent.{CellEvent}
use Rattle.inc_cell.specs.declared.words.event.CellEvent.TheVariants.{AskEarly, Plain}
use Rattle.inc_turn.specs.Turns.{AddsOwn}
use Rattle.inc_turn.specs.Views.{heard}
use Rattle.inc_turn.specs.declared.view.View.{View}

-- the entry that an event leaves, if it leaves one
abbrev pub entries_by : ℕ → Event → CellReply → List Entry
entries_by who event (Done reply) = entry_left who event reply
entries_by who event (HistoryFull entries claimed) = []
entries_by who event OutOfMemory = []

-- The cell of the seat's file steps once, after entries of others. The seat has then seen the history that the cell had and what the
-- event left, and of its own it has just that more.
pub record CellTurn (v : View CellFooting) (event : CellEvent) (answer : Answer) (w : View CellFooting) : Type 0 where
  pub before : Seen
  pub after : Seen
  pub between : List Entry
  pub moves : CellMoves before v.number event answer after
  pub floor : Some (footing_of before) ≡ v.footing
  pub others : are_others v.number between ≡ true
  pub told : before.history ≡ heard v ++ between
  pub adds : AddsOwn v w (entries_by v.number (event_of before.opened event) answer.reply)
  pub heard_is : heard w ≡ before.history ++ entries_by v.number (event_of before.opened event) answer.reply

-- an ask, for the block's bytes too or without them
abbrev pub ask_event : Bool → ℕ → ℕ → ℕ → CellEvent
ask_event true index uid moment = AskEarly index uid moment
ask_event false index uid moment = Plain (Ask index uid moment)
