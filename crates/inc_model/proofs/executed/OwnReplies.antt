-- No reply of the table gives a fault or a place but 0, so each fits itself.
use Rattle.std.proofs.Common.{◌≡◌, ℕ, ◌+◌, Bool, true, false, ◌||◌, cond, ltb, List, Option, Some, None, refl, sym, subst}
use Rattle.std.specs.Prelude.{count_by}
use Rattle.inc_pending.specs.Polling.{read_of, decision_of, waits_on}
use Rattle.inc_pending.specs.Keyed.{lookup}
use Rattle.inc_pending.specs.declared.reads.ReadRow.{ReadRow}
use Rattle.inc_pending.specs.declared.reads.Decision.{Decision}
use Rattle.inc_pending.specs.declared.reads.Decision.TheVariants.{Stranger as no_read, Hand, TimedOut as late, NotYet as waits}
use Rattle.inc_model.specs.declared.words.event.Event.{Event}
use Rattle.inc_model.specs.declared.words.event.Event.TheVariants.{Ask, Poll, Cancel, Claim, PutData, PutPlace, Settle, Gate, Release, TakePending, SetTimes, Ranges, Count, Leave}
use Rattle.inc_model.specs.declared.words.file_state.FileState.{FileState}
use Rattle.inc_model.specs.declared.words.file_state.FlightRow.{FlightRow}
use Rattle.inc_model.specs.declared.words.reply.Reply.{Reply}
use Rattle.inc_model.specs.declared.words.reply.Reply.TheVariants.{Handed, Fault, Put, BadRange}
use Rattle.inc_model.specs.relation.State.{is_in, has, flight_row}
use Rattle.inc_model.specs.relation.Polling.{absent_hash, hand_reply, decided_reply}
use Rattle.inc_model.specs.relation.Stages.{is_at, is_written, is_settled}
use Rattle.inc_model.specs.relation.Table.{ask_reply, cancel_reply, unless_failed, flight_reply, put_reply, place_reply, gate_reply, times_reply, presence, filled_reply, ranges_reply, reply_of}
use Rattle.inc_model.specs.relation.Changes.{window_of}
use Rattle.inc_model.specs.relation.Step.{Fits, IsOwn, HasRoom, IsAllowed}
use Rattle.inc_model.specs.executed.EntriesLeft.{IsWithoutDevice}

-- ---- no row of the table gives a fault, or a place but 0

ask_plain : (past damaged compressed : Bool) (next : ℕ) → IsWithoutDevice (ask_reply past damaged compressed next)
ask_plain true damaged compressed next = tt
ask_plain false true compressed next = tt
ask_plain false false true next = tt
ask_plain false false false next = tt

hand_plain : (hash : Option ℕ) (digest : Option (List ℕ)) → IsWithoutDevice (hand_reply hash digest)
hand_plain (Some hash) digest = tt
hand_plain None (Some digest) = tt
hand_plain None None = tt

decided_plain : (s : FileState) (d : Decision) → IsWithoutDevice (decided_reply s d)
decided_plain s no_read = tt
decided_plain s (Hand block) = hand_plain (absent_hash s.n s.m s.map block) (lookup block s.map)
decided_plain s (late deadline) = tt
decided_plain s waits = tt

cancel_plain : (found : Option ReadRow) → IsWithoutDevice (cancel_reply found)
cancel_plain None = tt
cancel_plain (Some row) = tt

failed_plain : (failed : Option ℕ) (reply : Reply) → IsWithoutDevice reply → IsWithoutDevice (unless_failed failed reply)
failed_plain (Some at) reply h = tt
failed_plain None reply h = h

flight_plain : (found : Option FlightRow) (present : Bool) (digest : List ℕ) → IsWithoutDevice (flight_reply found present digest)
flight_plain (Some row) present digest = tt
flight_plain None true digest = tt
flight_plain None false digest = refl

put_plain : (past damaged compressed : Bool) (reply : Reply) → IsWithoutDevice reply → IsWithoutDevice (put_reply past damaged compressed reply)
put_plain true damaged compressed reply h = tt
put_plain false true compressed reply h = tt
put_plain false false true reply h = tt
put_plain false false false reply h = h

place_plain : (mine : Bool) → IsWithoutDevice (place_reply mine)
place_plain true = tt
place_plain false = tt

gate_plain : (mine : Bool) (count : ℕ) → IsWithoutDevice (gate_reply mine count)
gate_plain true count = tt
gate_plain false count = tt

times_plain : (full known : Bool) → IsWithoutDevice (times_reply full known)
times_plain true true = tt
times_plain true false = tt
times_plain false known = tt

bounds_plain : (bad : Bool) (reply : Reply) → IsWithoutDevice reply → IsWithoutDevice (cond bad BadRange reply)
bounds_plain true reply h = tt
bounds_plain false reply h = h

ranges_plain : (s : FileState) (start end room : ℕ) → IsWithoutDevice (ranges_reply s.map (s.n + s.m) start end room)
ranges_plain s start end room = bounds_plain (ltb end start || ltb (s.n + s.m) end) (filled_reply (presence s.map (s.n + s.m)) start end room) tt

pub plain_own : (s : FileState) (who : ℕ) (event : Event) → IsWithoutDevice (reply_of s who event)
plain_own s who (Ask block uid at) = ask_plain _ (has block s.damaged) (has block s.compressed) s.next
plain_own s who (Poll serial at) = decided_plain s (decision_of (read_of who serial s.reads) at)
plain_own s who (Cancel serial) = cancel_plain (read_of who serial s.reads)
plain_own s who (Claim window places) = failed_plain s.failed _ tt
plain_own s who (PutData window index digest) =
    failed_plain s.failed _ (put_plain _ (has index s.damaged) (has index s.compressed) (flight_reply (flight_row index s.flight) (is_in index s.map) digest) (flight_plain (flight_row index s.flight) (is_in index s.map) digest))
plain_own s who (PutPlace window index) = failed_plain s.failed _ (place_plain (is_at is_written window (flight_row index s.flight)))
plain_own s who (Settle window) = failed_plain s.failed _ tt
plain_own s who (Gate window index) = failed_plain s.failed _ (gate_plain (is_at is_settled window (flight_row index s.flight)) (count_by (waits_on index) s.reads))
plain_own s who (Release window) = tt
plain_own s who (TakePending after most) = tt
plain_own s who (SetTimes uid times) = times_plain _ (is_in uid s.times)
plain_own s who (Ranges start end room) = ranges_plain s start end room
plain_own s who Count = tt
plain_own s who Leave = tt

-- such a reply fits itself
fits_itself : (faults : ℕ) (reply : Reply) → IsWithoutDevice reply → Fits true faults reply reply
fits_itself faults (Fault count) h = absurd h
fits_itself faults (Put place digest) h = refl
fits_itself faults (Handed digest) h = λ told. refl
fits_itself faults reply h = refl

pub own_allowed : (at : ℕ) (s : FileState) (who : ℕ) (event : Event) (reply : Reply) → IsOwn who (window_of event) → HasRoom at s event → reply ≡ reply_of s who event → IsAllowed at true s who event reply
own_allowed at s who event reply own room is = record {
  own = own;
  room = room;
  fits = subst (λ (r : Reply). Fits true s.faults (reply_of s who event) r) (sym is) (fits_itself s.faults (reply_of s who event) (plain_own s who event));
}
