-- Calls of a file, one after another: what the table answers, and the state that they leave.
use Rattle.std.proofs.Common.{ℕ, ◌+◌, Bool, true, false, cond, List, [], ◌∷◌}
use Rattle.std.specs.Prelude.{filter, nat_lt}
use Rattle.inc_pending.specs.declared.reads.ReadRow.{ReadRow}
use Rattle.inc_pending.specs.declared.timeouts.Times.{Times}
use Rattle.inc_model.specs.declared.words.event.Event.{Event}
use Rattle.inc_model.specs.declared.words.event.Window.{Window}
use Rattle.inc_model.specs.declared.words.file_state.FileState.{FileState}
use Rattle.inc_model.specs.declared.words.reply.Reply.{Reply}
use Rattle.inc_model.specs.declared.words.reply.Reply.TheVariants.{NotYet, Fault}
use Rattle.inc_model.specs.relation.Table.{reply_of}
use Rattle.inc_model.specs.relation.Changes.{change}
use Rattle.inc_model.specs.relation.Step.{may_fail}

-- an event from a seat, and whether the device fails at it
pub record Call : Type 0 where
  pub who : ℕ
  pub event : Event
  pub broken : Bool

abbrev pub asks : ℕ → Event → Call
asks who event = record { who = who; event = event; broken = false }

abbrev pub fails : ℕ → Event → Call
fails who event = record { who = who; event = event; broken = true }

-- a fault stands only where the device has a call to make
abbrev answer : FileState → Bool → Reply → Reply
answer s broken wanted = cond broken (cond (may_fail wanted) (Fault (s.faults + 1)) wanted) wanted

abbrev answered : FileState → Call → Reply
answered s call = answer s call.broken (reply_of s call.who call.event)

-- a call that waits leaves no entry
abbrev position_after : ℕ → Reply → ℕ
position_after at NotYet = at
position_after at reply = at + 1

abbrev pub replies : ℕ → FileState → List Call → List Reply
replies at s [] = []
replies at s (call ∷ calls) = answered s call ∷ replies (position_after at (answered s call)) (change at s call.who call.event (answered s call)) calls

abbrev pub state_then : ℕ → FileState → List Call → FileState
state_then at s [] = s
state_then at s (call ∷ calls) = state_then (position_after at (answered s call)) (change at s call.who call.event (answered s call)) calls

-- a window without places left isn't listed
abbrev pub used_up : FileState → FileState
used_up s = record s { claimed = filter (λ row. nat_lt 0 row.1) s.claimed }

-- ---- short names for the tables

abbrev pub window : ℕ → ℕ → Window
window who count = record { who = who; count = count }

abbrev pub times : ℕ → ℕ → ℕ → Times
times least_read least_pending most_pending = record { least_read = least_read; least_pending = least_pending; most_pending = most_pending }

abbrev pub read : ℕ → ℕ → ℕ → ℕ → ℕ → ℕ → ℕ → Bool → ReadRow
read serial who block uid asked floor deadline done = record { serial = serial; who = who; block = block; uid = uid; asked = asked; floor = floor; deadline = deadline; done = done }
