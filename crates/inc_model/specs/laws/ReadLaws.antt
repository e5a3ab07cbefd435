-- Where a read that waits came from.
use Rattle.std.specs.Prelude.{◌≡◌, ◌⊎◌, ℕ, Bool, List, ◌∷◌, ◌++◌, if◌then◌else◌, All, Any}
use Rattle.inc_pending.specs.Polling.{later}
use Rattle.inc_pending.specs.Times.{times_of}
use Rattle.inc_pending.specs.declared.reads.ReadRow.{ReadRow}
use Rattle.inc_model.specs.declared.words.event.Event.{Event}
use Rattle.inc_model.specs.declared.words.event.Event.TheVariants.{Ask}
use Rattle.inc_model.specs.declared.words.file_state.FileState.{FileState}
use Rattle.inc_model.specs.declared.words.reply.Entry.{Entry}
use Rattle.inc_model.specs.declared.words.reply.Reply.{Reply}
use Rattle.inc_model.specs.declared.words.reply.Reply.TheVariants.{Asked}
use Rattle.inc_model.specs.relation.State.{is_in, IsOpening}
use Rattle.inc_model.specs.relation.Step.{IsLegal, Step, state_after}

-- the entry by which a read was asked
abbrev pub asking : ReadRow → Entry
asking row = record { who = row.who; event = Ask row.block row.uid row.asked; reply = Asked row.serial }

-- what the state in which a read was asked gave it: the next serial, and the floor and deadline of its user's times there
pub record IsAskedIn (s : FileState) (row : ReadRow) : Type 0 where
  pub serial : row.serial ≡ s.next
  pub floor : row.floor ≡ later row.asked (if is_in row.block s.map then (times_of row.uid s.times).least_read else (times_of row.uid s.times).least_pending)
  pub deadline : row.deadline ≡ later row.asked (times_of row.uid s.times).most_pending

-- ---- one step

-- the read stood there before, done or not
abbrev pub WasWaiting : FileState → ReadRow → Type 0
WasWaiting old row = Any (λ other. row ≡ record other { done = row.done }) old.reads

-- or it was asked by this event
pub record IsNewRead (old : FileState) (who : ℕ) (event : Event) (reply : Reply) (row : ReadRow) : Type 0 where
  pub asker : row.who ≡ who
  pub event_is : event ≡ Ask row.block row.uid row.asked
  pub reply_is : reply ≡ Asked row.serial
  pub asked_in : IsAskedIn old row

abbrev pub ReadsComeFrom : Type 0
ReadsComeFrom = (old new : FileState) (told : Bool) (at who : ℕ) (event : Event) (reply : Reply) → Step at told old who event reply new → All (λ row. WasWaiting old row ⊎ IsNewRead old who event reply row) new.reads

-- ---- histories

-- the read's entry stands in the history, and what it was given is that of the state before this entry
pub record WasAsked (start : FileState) (entries : List Entry) (row : ReadRow) : Type 0 where
  pub before : List Entry
  pub after : List Entry
  pub cut : entries ≡ before ++ asking row ∷ after
  pub asked_in : IsAskedIn (state_after 0 start before) row

abbrev pub ReadsWereAsked : Type 0
ReadsWereAsked = (start : FileState) (told : Bool) (entries : List Entry) → IsOpening start → IsLegal 0 told start entries → All (WasAsked start entries) (state_after 0 start entries).reads
