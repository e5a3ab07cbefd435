-- What one step of a file without a device does.
use Rattle.std.specs.Prelude.{◌≡◌, ℕ, ◌<◌, true, ◌++◌, length, Result, Ok, Err}
use Rattle.inc_model.specs.declared.words.event.Event.{Event}
use Rattle.inc_history.specs.declared.pure_file.PureFault.{PureFault}
use Rattle.inc_history.specs.declared.pure_file.PureFault.TheVariants.{HistoryFull, OutOfMemory}
use Rattle.inc_model.specs.declared.words.reply.Reply.{Reply}
use Rattle.inc_model.specs.declared.words.reply.Reply.TheVariants.{NotYet}
use Rattle.inc_model.specs.executed.EntriesLeft.{IsWithoutDevice, entry_left}
use Rattle.inc_model.specs.relation.State.{all_places}
use Rattle.inc_model.specs.relation.Step.{Step, HasRoom, needs, IsKept}
use Rattle.inc_model.specs.relation.Table.{reply_of}
use Rattle.inc_history.specs.PureState.{Pure}

pub record Replies (old : Pure) (who : ℕ) (event : Event) (reply : Reply) (new : Pure) : Type 0 where
  pub step : Step (length old.history) true old.now who event reply new.now
  pub plain : IsWithoutDevice reply
  pub history : new.history ≡ old.history ++ entry_left who event reply
  pub first : new.first ≡ old.first
  -- an entry that takes a place beside those claimed, as each claim does, makes room for all of these, and no event takes it away
  pub ready : old.ready ≡ true → new.ready ≡ true
  pub made : IsKept reply → 0 < needs old.now.claimed event → new.ready ≡ true

-- there is no room, and both numbers say so
pub record IsFull (old : Pure) (event : Event) (entries claimed : ℕ) (new : Pure) : Type 0 where
  pub no_room : HasRoom (length old.history) old.now event → ⊥
  pub entries_are : entries ≡ length old.history
  pub claimed_are : claimed ≡ all_places old.now.claimed
  pub same : new ≡ old

-- memory was wanted: nothing has changed, and the event isn't a poll that waits, nor one that uses a claimed place
-- where there is room for these
pub record WantsMemory (old : Pure) (who : ℕ) (event : Event) (new : Pure) : Type 0 where
  pub same : new ≡ old
  pub answers : reply_of old.now who event ≡ NotYet → ⊥
  pub unclaimed : old.ready ≡ true → needs old.now.claimed event ≡ 0 → ⊥

abbrev pub PureSteps : Pure → ℕ → Event → Result Reply PureFault → Pure → Type 0
PureSteps old who event (Ok reply) new = Replies old who event reply new
PureSteps old who event (Err (HistoryFull entries claimed)) new = IsFull old event entries claimed new
PureSteps old who event (Err OutOfMemory) new = WantsMemory old who event new
