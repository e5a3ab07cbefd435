-- What one event does to a cell, by what it answers.
use Rattle.std.specs.Prelude.{◌≡◌, ℕ, ◌^◌, ◌<◌, ◌≤◌, List, [], ◌∷◌, ◌++◌, length}
use Rattle.inc_io.specs.Causes.{Rose}
use Rattle.inc_readlog.specs.Log.{LoggedReads, logged}
use Rattle.inc_readlog.specs.declared.entry.LogEntry.{LogEntry}
use Rattle.inc_model.specs.executed.EntriesLeft.{entry_left}
use Rattle.inc_model.specs.relation.Step.{Step}
use Rattle.inc_model.specs.declared.words.event.Event.{Event}
use Rattle.inc_model.specs.declared.words.reply.Reply.{Reply}
use Rattle.inc_model.specs.declared.words.reply.Reply.TheVariants.{Fault}
use Rattle.inc_cell.specs.device.Device.{DeviceDoes}
use Rattle.inc_cell.specs.events.Ended.{ended_by}
use Rattle.inc_cell.specs.device.Moves.{LeavesEither}
use Rattle.inc_cell.specs.seen.Seen.{Seen, spots_now, state_now, tells}

-- ---- a reply

-- the log after the reads that an event ended
abbrev pub log_then : LoggedReads → List LogEntry → LoggedReads
log_then log [] = log
log_then log (entry ∷ entries) = log_then (logged log entry) entries

-- A fault comes only where the disk's count rose, and tells it. At every other reply it stays.
abbrev pub HasCounted : ℕ → ℕ → Reply → Type 0
HasCounted before now (Fault count) = (count ≡ now) × (before ≤ now) × (count < 2 ^ 64) × Rose before now
HasCounted before now reply = now ≡ before

-- `block` is what a put brings
pub record ReplyDoes (old : Seen) (who : ℕ) (event : Event) (block : List ℕ) (reply : Reply) (new : Seen) : Type 0 where
  pub step : Step (length old.history) (tells old.states) (state_now old) who event reply (state_now new)
  pub history : new.history ≡ old.history ++ entry_left who event reply
  -- the one write or sync of the disk, with its place and bytes
  pub device : DeviceDoes old.opened (spots_now old) block event reply old.states new.states
  pub cause : HasCounted old.count new.count reply
  pub log : new.log ≡ log_then old.log (ended_by (state_now old) who event reply)
  -- a crash at any moment of the call keeps the state before it or the one after
  pub moments : LeavesEither old.states new.states (state_now old) (state_now new)
  pub opened : new.opened ≡ old.opened
  pub opening : new.opening ≡ old.opening
