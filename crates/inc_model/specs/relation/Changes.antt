-- What each event changes, by its reply. Everything that a case doesn't name stays.
use Rattle.std.specs.Prelude.{ℕ, ◌+◌, List, [], ◌∷◌, ◌++◌, map, Option, Some, None}
use Rattle.inc_pending.specs.Keyed.{insert}
use Rattle.inc_pending.specs.Times.{times_of}
use Rattle.inc_pending.specs.Polling.{asked_row, reads_but, marked}
use Rattle.inc_pending.specs.declared.timeouts.Times.{Times}
use Rattle.inc_model.specs.declared.words.event.Event.{Event}
use Rattle.inc_model.specs.declared.words.event.Event.TheVariants.{Ask, Poll, Cancel, Claim, PutData, PutPlace, Settle, Gate, Release, TakePending, SetTimes, Ranges, Count, Leave}
use Rattle.inc_model.specs.declared.words.event.Window.{Window}
use Rattle.inc_model.specs.declared.words.file_state.FileState.{FileState}
use Rattle.inc_model.specs.declared.words.file_state.FlightRow.{FlightRow}
use Rattle.inc_model.specs.declared.words.reply.Reply.{Reply}
use Rattle.inc_model.specs.declared.words.reply.Reply.TheVariants.{Asked, NoPath, Handed, TimedOut, Fault, Cancelled, Claimed, Put, Placed, Settled, Gated, TimesSet, Left}
use Rattle.inc_model.specs.relation.State.{Claims, is_in, flight_row, fly, land, claim, spend, unclaim}
use Rattle.inc_model.specs.relation.Stages.{written, placed, gated, synced_flight, acknowledge}

-- ---- a device call that failed

abbrev pub with_faults : ℕ → FileState → FileState
with_faults count s = record s { faults = count }

-- the first position counts
abbrev pub first_failure : Option ℕ → ℕ → Option ℕ
first_failure (Some earlier) at = Some earlier
first_failure None at = Some at

-- a write or sync that failed ends all fills
abbrev pub broken_off : ℕ → ℕ → FileState → FileState
broken_off at count s = record s { faults = count; failed = first_failure s.failed at }

-- ---- reads

abbrev pub with_read : FileState → ℕ → ℕ → ℕ → ℕ → FileState
with_read s who block uid at = record s {
  reads = s.reads ++ asked_row s.next who block (is_in block s.map) uid at (times_of uid s.times) ∷ [];
  next = s.next + 1;
}

abbrev pub without_read : ℕ → ℕ → FileState → FileState
without_read who serial s = record s { reads = reads_but who serial s.reads }

abbrev pub ask_change : FileState → ℕ → ℕ → ℕ → ℕ → Reply → FileState
ask_change s who block uid at (Asked serial) = with_read s who block uid at
ask_change s who block uid at reply = s

abbrev pub poll_change : FileState → ℕ → ℕ → Reply → FileState
poll_change s who serial (NoPath hash) = without_read who serial s
poll_change s who serial (Handed digest) = without_read who serial s
poll_change s who serial (TimedOut deadline) = without_read who serial s
poll_change s who serial (Fault count) = with_faults count s
poll_change s who serial reply = s

abbrev pub cancel_change : FileState → ℕ → ℕ → Reply → FileState
cancel_change s who serial Cancelled = without_read who serial s
cancel_change s who serial reply = s

-- ---- fills

abbrev pub put_data_change : ℕ → FileState → Window → ℕ → List ℕ → Reply → FileState
put_data_change at s window index digest (Put place same) = record s { flight = fly (written window index digest) s.flight }
put_data_change at s window index digest (Fault count) = broken_off at count s
put_data_change at s window index digest reply = s

abbrev pub put_place_change : ℕ → FileState → ℕ → Reply → FileState
put_place_change at s index Placed = record s { flight = placed index s.flight }
put_place_change at s index (Fault count) = broken_off at count s
put_place_change at s index reply = s

abbrev pub synced : FileState → FileState
synced s = record s { flight = synced_flight s.flight; acknowledged = acknowledge s.flight s.acknowledged }

abbrev pub settle_change : ℕ → FileState → Reply → FileState
settle_change at s Settled = synced s
settle_change at s (Fault count) = broken_off at count s
settle_change at s reply = s

-- the gate write of an index with this digest began
abbrev pub begins : ℕ → List ℕ → FileState → FileState
begins index digest s = record s { begun = insert index digest s.begun }

-- exactly the reads that wait for this block are done
abbrev pub opens : ℕ → List ℕ → FileState → FileState
opens index digest s = record (begins index digest s) {
  map = insert index digest s.map;
  reads = map (marked index) s.reads;
  flight = gated index s.flight;
}

abbrev pub gate_row_change : ℕ → FileState → ℕ → List ℕ → Reply → FileState
gate_row_change at s index digest (Gated waiting) = opens index digest s
gate_row_change at s index digest (Fault count) = broken_off at count (begins index digest s)
gate_row_change at s index digest reply = s

-- the digest is that of the index in flight
abbrev pub gate_change : ℕ → FileState → ℕ → Option FlightRow → Reply → FileState
gate_change at s index (Some row) reply = gate_row_change at s index row.digest reply
gate_change at s index None reply = s

abbrev pub release_change : FileState → Window → FileState
release_change s window = record s { flight = land window s.flight }

-- ---- the session

abbrev pub times_change : FileState → ℕ → Times → Reply → FileState
times_change s uid times TimesSet = record s { times = insert uid times s.times }
times_change s uid times reply = s

abbrev pub leave_change : FileState → Reply → FileState
leave_change s (Left readers) = record s { readers = readers }
leave_change s reply = s

-- ---- claimed places

abbrev pub window_of : Event → Option Window
window_of (Claim window places) = Some window
window_of (PutData window index digest) = Some window
window_of (PutPlace window index) = Some window
window_of (Settle window) = Some window
window_of (Gate window index) = Some window
window_of (Release window) = Some window
window_of event = None

abbrev pub claim_change : Claims → Window → ℕ → Reply → Claims
claim_change claimed window places Claimed = claim window places claimed
claim_change claimed window places reply = claimed

-- every other event of a window uses one of its places, if it has some left, whatever the reply is
abbrev pub claims_after : Claims → Event → Reply → Claims
claims_after claimed (Claim window places) reply = claim_change claimed window places reply
claims_after claimed (PutData window index digest) reply = spend window claimed
claims_after claimed (PutPlace window index) reply = spend window claimed
claims_after claimed (Settle window) reply = spend window claimed
claims_after claimed (Gate window index) reply = spend window claimed
claims_after claimed (Release window) reply = unclaim window claimed
claims_after claimed event reply = claimed

-- ---- all of it

abbrev pub rest_change : ℕ → FileState → ℕ → Event → Reply → FileState
rest_change at s who (Ask block uid moment) reply = ask_change s who block uid moment reply
rest_change at s who (Poll serial moment) reply = poll_change s who serial reply
rest_change at s who (Cancel serial) reply = cancel_change s who serial reply
rest_change at s who (Claim window places) reply = s
rest_change at s who (PutData window index digest) reply = put_data_change at s window index digest reply
rest_change at s who (PutPlace window index) reply = put_place_change at s index reply
rest_change at s who (Settle window) reply = settle_change at s reply
rest_change at s who (Gate window index) reply = gate_change at s index (flight_row index s.flight) reply
rest_change at s who (Release window) reply = release_change s window
rest_change at s who (TakePending after most) reply = s
rest_change at s who (SetTimes uid times) reply = times_change s uid times reply
rest_change at s who (Ranges start end room) reply = s
rest_change at s who Count reply = s
rest_change at s who Leave reply = leave_change s reply

-- the state after an event, where `at` entries stand before it in the history
abbrev pub change : ℕ → FileState → ℕ → Event → Reply → FileState
change at s who event reply = record (rest_change at s who event reply) { claimed = claims_after s.claimed event reply }
