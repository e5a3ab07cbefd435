-- A row in flight was there before an event, or it is the one that a put brings.
use Rattle.std.proofs.Common.{◌≡◌, ℕ, Bool, true, false, cond, Option, Some, None, sym, ◌∙◌}
use Rattle.inc_pending.specs.declared.timeouts.Times.{Times}
use Rattle.inc_model.specs.relation.Changes.{ask_change, cancel_change, change, gate_change, leave_change, poll_change, put_place_change, settle_change, times_change}
use Rattle.inc_model.specs.relation.Stages.{gated_row, placed_row, synced_row}
use Rattle.inc_model.specs.relation.State.{FlightRises, flight_row}
use Rattle.inc_model.specs.declared.words.event.Event.{Event}
use Rattle.inc_model.specs.declared.words.event.Event.TheVariants.{Ask, Poll, Cancel, Claim, PutData, PutPlace, Settle, Gate, Release, TakePending, SetTimes, Ranges, Count, Leave}
use Rattle.inc_model.specs.declared.words.file_state.FileState.{FileState}
use Rattle.inc_model.specs.declared.words.file_state.FlightRow.{FlightRow}
use Rattle.inc_model.specs.declared.words.reply.Reply.{Reply}
use Rattle.inc_model.specs.declared.words.reply.Reply.TheVariants.{Asked, NoPath, Handed, TimedOut, Fault, Cancelled, Placed, Settled, Gated, TimesSet, Left}
use Rattle.inc_cell.proofs.standing.FlightLemmas.{is_others, is_ungated, kept_row, row_gated, row_land, row_placed, row_synced}
use Rattle.inc_cell.proofs.standing.FollowLemmas.{mapped_some, no_row}

kept_some : (p : FlightRow → Bool) (was : Option FlightRow) (found : FlightRow) → kept_row p was ≡ Some found → was ≡ Some found
kept_some p None found e = e
kept_some p (Some row) found e = step (p row) e
  where
    step : (b : Bool) → cond b (Some row) None ≡ Some found → Some row ≡ Some found
    step true e = e
    step false e = no_row found e

module _ (s : FileState) (once : FlightRises s.flight) where
  -- the index was in flight
  abbrev pub Flew : ℕ → Type 0
  Flew i = (before : FlightRow) × (flight_row i s.flight ≡ Some before)

  abbrev FlewBefore : FileState → Type 0
  FlewBefore t = (i : ℕ) (found : FlightRow) → flight_row i t.flight ≡ Some found → Flew i

  same : FlewBefore s
  same i found e = (found, e)

  ask_flew : (who block uid moment : ℕ) (reply : Reply) → FlewBefore (ask_change s who block uid moment reply)
  ask_flew who block uid moment (Asked serial) = same
  ask_flew who block uid moment reply = same

  poll_flew : (who serial : ℕ) (reply : Reply) → FlewBefore (poll_change s who serial reply)
  poll_flew who serial (NoPath hash) = same
  poll_flew who serial (Handed digest) = same
  poll_flew who serial (TimedOut deadline) = same
  poll_flew who serial (Fault count) = same
  poll_flew who serial reply = same

  cancel_flew : (who serial : ℕ) (reply : Reply) → FlewBefore (cancel_change s who serial reply)
  cancel_flew who serial Cancelled = same
  cancel_flew who serial reply = same

  times_flew : (uid : ℕ) (times : Times) (reply : Reply) → FlewBefore (times_change s uid times reply)
  times_flew uid times TimesSet = same
  times_flew uid times reply = same

  leave_flew : (reply : Reply) → FlewBefore (leave_change s reply)
  leave_flew (Left readers) = same
  leave_flew reply = same

  place_flew : (at index : ℕ) (reply : Reply) → FlewBefore (put_place_change at s index reply)
  place_flew at index Placed i found e = let was = mapped_some (placed_row index) (flight_row i s.flight) found (sym (row_placed index i s.flight) ∙ e) in (was.0, was.1)
  place_flew at index (Fault count) i found e = same i found e
  place_flew at index reply i found e = same i found e

  settle_flew : (at : ℕ) (reply : Reply) → FlewBefore (settle_change at s reply)
  settle_flew at Settled i found e =
      let was = mapped_some synced_row (kept_row is_ungated (flight_row i s.flight)) found (sym (row_synced i s.flight once) ∙ e) in
      (was.0, kept_some is_ungated (flight_row i s.flight) was.0 was.1)
  settle_flew at (Fault count) i found e = same i found e
  settle_flew at reply i found e = same i found e

  gate_flew : (at index : ℕ) (row : Option FlightRow) (reply : Reply) → FlewBefore (gate_change at s index row reply)
  gate_flew at index None reply i found e = same i found e
  gate_flew at index (Some row) (Gated waiting) i found e = let was = mapped_some (gated_row index) (flight_row i s.flight) found (sym (row_gated index i s.flight) ∙ e) in (was.0, was.1)
  gate_flew at index (Some row) (Fault count) i found e = same i found e
  gate_flew at index (Some row) reply i found e = same i found e

  -- every event but a put
  abbrev pub IsNoPut : Event → Type 0
  IsNoPut (PutData window index digest) = ⊥
  IsNoPut event = Unit {0}

  pub flew : (at who : ℕ) (event : Event) (reply : Reply) → IsNoPut event → FlewBefore (change at s who event reply)
  flew at who (Ask block uid moment) reply unput i found e = ask_flew who block uid moment reply i found e
  flew at who (Poll serial moment) reply unput i found e = poll_flew who serial reply i found e
  flew at who (Cancel serial) reply unput i found e = cancel_flew who serial reply i found e
  flew at who (Claim window count) reply unput i found e = same i found e
  flew at who (PutData window index digest) reply unput i found e = absurd unput
  flew at who (PutPlace window index) reply unput i found e = place_flew at index reply i found e
  flew at who (Settle window) reply unput i found e = settle_flew at reply i found e
  flew at who (Gate window index) reply unput i found e = gate_flew at index (flight_row index s.flight) reply i found e
  flew at who (Release window) reply unput i found e = (found, kept_some (is_others window) (flight_row i s.flight) found (sym (row_land window i s.flight once) ∙ e))
  flew at who (TakePending after most) reply unput i found e = same i found e
  flew at who (SetTimes uid times) reply unput i found e = times_flew uid times reply i found e
  flew at who (Ranges start limit room) reply unput i found e = same i found e
  flew at who Count reply unput i found e = same i found e
  flew at who Leave reply unput i found e = leave_flew reply i found e
