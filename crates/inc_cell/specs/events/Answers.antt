-- What a cell answers to an event, and what that says.
use Rattle.std.specs.Prelude.{◌≡◌, ℕ, ◌<◌, List, length, Bool, true, false, is_some}
use Rattle.inc_model.specs.relation.State.{all_places}
use Rattle.inc_model.specs.relation.Step.{HasRoom, needs}
use Rattle.inc_model.specs.relation.Table.{reply_of}
use Rattle.inc_model.specs.declared.words.event.Event.{Event}
use Rattle.inc_model.specs.declared.words.reply.Reply.TheVariants.{Handed, NotYet}
use Rattle.inc_cell.specs.seen.Seen.{Seen, state_now}
use Rattle.inc_cell.specs.events.Steps.{ReplyDoes}
use Rattle.inc_cell.specs.declared.words.answer.Answer.{Answer}
use Rattle.inc_cell.specs.declared.words.answer.CellReply.{CellReply}
use Rattle.inc_cell.specs.declared.words.answer.CellReply.TheVariants.{Done, HistoryFull, OutOfMemory}

-- the history has no room, and both numbers say so; nothing has changed
pub record IsFullCell (old : Seen) (event : Event) (entries claimed : ℕ) (new : Seen) : Type 0 where
  pub no_room : HasRoom (length old.history) (state_now old) event → ⊥
  pub entries_are : entries ≡ length old.history
  pub claimed_are : claimed ≡ all_places (state_now old).claimed
  pub same : new ≡ old

-- memory was wanted: nothing has changed, and the event uses no place that its window claimed, and is no poll that waits
pub record WantsRoom (old : Seen) (who : ℕ) (event : Event) (new : Seen) : Type 0 where
  pub same : new ≡ old
  pub unclaimed : 0 < needs (state_now old).claimed event
  pub answers : reply_of (state_now old) who event ≡ NotYet → ⊥

abbrev pub CellReplies : Seen → ℕ → Event → List ℕ → CellReply → Seen → Type 0
CellReplies old who event block (Done reply) new = ReplyDoes old who event block reply new
CellReplies old who event block (HistoryFull entries claimed) new = IsFullCell old event entries claimed new
CellReplies old who event block OutOfMemory new = WantsRoom old who event new

abbrev pub hands_out : CellReply → Bool
hands_out (Done (Handed digest)) = true
hands_out reply = false

-- `block` is what a put brings
pub record CellSteps (old : Seen) (who : ℕ) (event : Event) (block : List ℕ) (answer : Answer) (new : Seen) : Type 0 where
  pub at_is : answer.at ≡ length old.history
  pub reply_is : CellReplies old who event block answer.reply new
  pub handed_there : is_some answer.handed ≡ hands_out answer.reply
