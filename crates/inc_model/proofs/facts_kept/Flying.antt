-- Each index in flight is one of the file's, and the sets that no event changes rise, after each entry.
use Rattle.std.proofs.Common.{◌≡◌, ℕ, ◌+◌, ◌<◌, Bool, true, false, not, leb, List, get_or, Option, Some, None, refl, arith}
use Rattle.std.specs.Prelude.{All, filter}
use Rattle.std.proofs.lemmas.Bool.{leb-false}
use Rattle.std.proofs.lemmas.List.Elements.{All-filter, All-map}
use Rattle.inc_pending.specs.declared.timeouts.Times.{Times}
use Rattle.inc_model.specs.declared.words.event.Event.{Event}
use Rattle.inc_model.specs.declared.words.event.Event.TheVariants.{Ask, Poll, Cancel, Claim, PutData, PutPlace, Settle, Gate, Release, TakePending, SetTimes, Ranges, Count, Leave}
use Rattle.inc_model.specs.declared.words.event.Window.{Window}
use Rattle.inc_model.specs.declared.words.file_state.FileState.{FileState}
use Rattle.inc_model.specs.declared.words.file_state.FlightRow.{FlightRow}
use Rattle.inc_model.specs.declared.words.reply.Reply.{Reply}
use Rattle.inc_model.specs.declared.words.reply.Reply.TheVariants.{Asked, NoPath, Handed, TimedOut, Fault, Cancelled, Put, Placed, Settled, Gated, TimesSet, Left}
use Rattle.inc_model.specs.relation.State.{Rise, is_same, is_in, has, flight_row, fly, land}
use Rattle.inc_model.specs.relation.Stages.{is_gated, written, placed_row, placed, gated_row, gated, synced_row, synced_flight}
use Rattle.inc_model.specs.relation.Table.{unless_failed, flight_reply, put_reply, reply_of}
use Rattle.inc_model.specs.relation.Changes.{ask_change, poll_change, cancel_change, put_data_change, put_place_change, settle_change, gate_row_change, gate_change, times_change, leave_change, rest_change}
use Rattle.inc_model.specs.relation.Step.{Fits, IsPut}
use Rattle.inc_model.proofs.lists.Flight.{fly_all, index-placed, index-gated}

pub record Bounded (n m : ℕ) (damaged compressed : List ℕ) (flight : List FlightRow) : Type 0 where
  pub damaged_rises : Rise damaged
  pub compressed_rises : Rise compressed
  pub flying : All (λ row. row.index < n + m) flight

abbrev pub IsBounded : FileState → Type 0
IsBounded s = Bounded s.n s.m s.damaged s.compressed s.flight

with_flight : (s : FileState) (flight : List FlightRow) → IsBounded s → All (λ row. row.index < s.n + s.m) flight → Bounded s.n s.m s.damaged s.compressed flight
with_flight s flight h flying = record { damaged_rises = h.damaged_rises; compressed_rises = h.compressed_rises; flying = flying }

-- a block that is put is one of the file's
put_inside : (failed : Option ℕ) (past damaged compressed : Bool) (given : List ℕ) (reply : Reply) → IsPut given (unless_failed failed (put_reply past damaged compressed reply)) → past ≡ false
put_inside (Some at) past damaged compressed given reply h = absurd h
put_inside None true damaged compressed given reply h = absurd h
put_inside None false damaged compressed given reply h = refl

ask_flies : (s : FileState) (who block uid at : ℕ) (reply : Reply) → IsBounded s → IsBounded (ask_change s who block uid at reply)
ask_flies s who block uid at (Asked serial) h = h
ask_flies s who block uid at reply h = h

poll_flies : (s : FileState) (who serial : ℕ) (reply : Reply) → IsBounded s → IsBounded (poll_change s who serial reply)
poll_flies s who serial (NoPath hash) h = h
poll_flies s who serial (Handed digest) h = h
poll_flies s who serial (TimedOut deadline) h = h
poll_flies s who serial (Fault count) h = h
poll_flies s who serial reply h = h

cancel_flies : (s : FileState) (who serial : ℕ) (reply : Reply) → IsBounded s → IsBounded (cancel_change s who serial reply)
cancel_flies s who serial Cancelled h = h
cancel_flies s who serial reply h = h

put_data_flies : (told : Bool) (at : ℕ) (s : FileState) (who : ℕ) (window : Window) (index : ℕ) (digest : List ℕ) (reply : Reply) → Fits told s.faults (reply_of s who (PutData window index digest)) reply → IsBounded s → IsBounded (put_data_change at s window index digest reply)
put_data_flies told at s who window index digest (Put place given) fits h =
    let inside = leb-false (s.n + s.m) index (put_inside s.failed (leb (s.n + s.m) index) (has index s.damaged) (has index s.compressed) given (flight_reply (flight_row index s.flight) (is_in index s.map) digest) fits) in
    with_flight s (fly (written window index digest) s.flight) h (fly_all (λ (row : FlightRow). row.index < s.n + s.m) (written window index digest) s.flight inside h.flying)
put_data_flies told at s who window index digest (Fault count) fits h = h
put_data_flies told at s who window index digest reply fits h = h

put_place_flies : (at : ℕ) (s : FileState) (index : ℕ) (reply : Reply) → IsBounded s → IsBounded (put_place_change at s index reply)
put_place_flies at s index Placed h = with_flight s (placed index s.flight) h (All-map (λ (row : FlightRow). row.index < s.n + s.m) (placed_row index) s.flight (λ k d lt. let inside = h.flying k d lt in let same = index-placed index (get_or s.flight k d) in omega arith))
put_place_flies at s index (Fault count) h = h
put_place_flies at s index reply h = h

settle_flies : (at : ℕ) (s : FileState) (reply : Reply) → IsBounded s → IsBounded (settle_change at s reply)
settle_flies at s Settled h =
    let P : FlightRow → Type 0 = λ row. row.index < s.n + s.m in
    let stays : FlightRow → Bool = λ row. not (is_gated row.stage) in
    with_flight s (synced_flight s.flight) h (All-map P synced_row (filter stays s.flight) (All-filter stays P s.flight h.flying))
settle_flies at s (Fault count) h = h
settle_flies at s reply h = h

gate_row_flies : (at : ℕ) (s : FileState) (index : ℕ) (digest : List ℕ) (reply : Reply) → IsBounded s → IsBounded (gate_row_change at s index digest reply)
gate_row_flies at s index digest (Gated count) h = with_flight s (gated index s.flight) h (All-map (λ (row : FlightRow). row.index < s.n + s.m) (gated_row index) s.flight (λ k d lt. let inside = h.flying k d lt in let same = index-gated index (get_or s.flight k d) in omega arith))
gate_row_flies at s index digest (Fault count) h = h
gate_row_flies at s index digest reply h = h

gate_flies : (at : ℕ) (s : FileState) (index : ℕ) (found : Option FlightRow) (reply : Reply) → IsBounded s → IsBounded (gate_change at s index found reply)
gate_flies at s index (Some row) reply h = gate_row_flies at s index row.digest reply h
gate_flies at s index None reply h = h

times_flies : (s : FileState) (uid : ℕ) (times : Times) (reply : Reply) → IsBounded s → IsBounded (times_change s uid times reply)
times_flies s uid times TimesSet h = h
times_flies s uid times reply h = h

leave_flies : (s : FileState) (reply : Reply) → IsBounded s → IsBounded (leave_change s reply)
leave_flies s (Left readers) h = h
leave_flies s reply h = h

pub rest_flies : (told : Bool) (at : ℕ) (s : FileState) (who : ℕ) (event : Event) (reply : Reply) → Fits told s.faults (reply_of s who event) reply → IsBounded s → IsBounded (rest_change at s who event reply)
rest_flies told at s who (Ask block uid moment) reply fits h = ask_flies s who block uid moment reply h
rest_flies told at s who (Poll serial moment) reply fits h = poll_flies s who serial reply h
rest_flies told at s who (Cancel serial) reply fits h = cancel_flies s who serial reply h
rest_flies told at s who (Claim window places) reply fits h = h
rest_flies told at s who (PutData window index digest) reply fits h = put_data_flies told at s who window index digest reply fits h
rest_flies told at s who (PutPlace window index) reply fits h = put_place_flies at s index reply h
rest_flies told at s who (Settle window) reply fits h = settle_flies at s reply h
rest_flies told at s who (Gate window index) reply fits h = gate_flies at s index (flight_row index s.flight) reply h
rest_flies told at s who (Release window) reply fits h = with_flight s (land window s.flight) h (All-filter (λ row. not (is_same window row.window)) (λ (row : FlightRow). row.index < s.n + s.m) s.flight h.flying)
rest_flies told at s who (TakePending after most) reply fits h = h
rest_flies told at s who (SetTimes uid times) reply fits h = times_flies s uid times reply h
rest_flies told at s who (Ranges start end room) reply fits h = h
rest_flies told at s who Count reply fits h = h
rest_flies told at s who Leave reply fits h = leave_flies s reply h
