-- Which events take no memory, and what a core lacks where its room is short.
use Rattle.std.proofs.Common.{◌≡◌, ℕ, ◌+◌, ◌-◌, ◌<◌, Bool, true, false, eqb, List, [], ◌∷◌, length, Option, Some, None, refl, arith}
use Rattle.std.specs.Prelude.{min, Result, Ok, Err, OnErr}
use Rattle.std.proofs.lemmas.Bool.{true≢false, eqb-true}
use Rattle.inc_pending.specs.Keyed.{lookup}
use Rattle.inc_pending.specs.Polling.{read_of, decision_of}
use Rattle.inc_pending.specs.declared.reads.ReadRow.{ReadRow}
use Rattle.inc_pending.specs.declared.reads.Decision.{Decision}
use Rattle.inc_pending.specs.declared.reads.Decision.TheVariants.{Stranger as no_read, Hand, TimedOut as late, NotYet as waits}
use Rattle.inc_model.specs.declared.words.event.Event.{Event}
use Rattle.inc_model.specs.declared.words.event.Event.TheVariants.{Ask, Poll, Cancel, Claim, PutData, PutPlace, Settle, Gate, Release, TakePending, SetTimes, Ranges, Count, Leave}
use Rattle.inc_model.specs.declared.words.file_state.FileState.{FileState}
use Rattle.inc_model.specs.declared.words.file_state.FlightRow.{FlightRow}
use Rattle.inc_model.specs.declared.words.reply.Reply.{Reply}
use Rattle.inc_model.specs.declared.words.reply.Reply.TheVariants.{Claimed}
use Rattle.inc_model.specs.relation.State.{Claims, is_in, has, flight_row, all_places}
use Rattle.inc_model.specs.relation.Stages.{is_at, is_written, is_settled}
use Rattle.inc_model.specs.relation.Polling.{absent_hash, hand_reply, decided_reply}
use Rattle.inc_model.specs.relation.Table.{ask_reply, cancel_reply, unless_failed, flight_reply, put_reply, place_reply, gate_reply, times_reply, has_list, lists_rows, reply_of}
use Rattle.inc_model.specs.relation.Step.{needs}
use Rattle.inc_model.specs.executed.CoreState.{MayWantMemory}
use Rattle.inc_model.proofs.facts_kept.Step.{places_after}

pub on_err : {T E P : Type 0} (r : Result T E) → P → OnErr r P
on_err (Ok value) p = tt
on_err (Err fault) p = p

-- what a core lacks where the indices have no room for the rows in flight and so many more
pub room_short : (capacity rows other places : ℕ) → 0 < places → other < rows + places → min (capacity - rows) (other - rows) < places
room_short capacity rows other places some lt = omega arith

-- ---- only two replies own a list

abbrev Plain : Reply → Type 0
Plain reply = lists_rows reply ≡ false

ask_rows : (past damaged compressed : Bool) (next : ℕ) → Plain (ask_reply past damaged compressed next)
ask_rows true damaged compressed next = refl
ask_rows false true compressed next = refl
ask_rows false false true next = refl
ask_rows false false false next = refl

hand_rows : (hash : Option ℕ) (digest : Option (List ℕ)) → Plain (hand_reply hash digest)
hand_rows (Some hash) digest = refl
hand_rows None (Some digest) = refl
hand_rows None None = refl

decided_rows : (s : FileState) (d : Decision) → Plain (decided_reply s d)
decided_rows s no_read = refl
decided_rows s (Hand block) = hand_rows (absent_hash s.n s.m s.map block) (lookup block s.map)
decided_rows s (late deadline) = refl
decided_rows s waits = refl

cancel_rows : (found : Option ReadRow) → Plain (cancel_reply found)
cancel_rows None = refl
cancel_rows (Some row) = refl

failed_rows : (failed : Option ℕ) (reply : Reply) → Plain reply → Plain (unless_failed failed reply)
failed_rows (Some at) reply h = refl
failed_rows None reply h = h

flight_rows : (found : Option FlightRow) (present : Bool) (digest : List ℕ) → Plain (flight_reply found present digest)
flight_rows (Some row) present digest = refl
flight_rows None true digest = refl
flight_rows None false digest = refl

put_rows : (past damaged compressed : Bool) (reply : Reply) → Plain reply → Plain (put_reply past damaged compressed reply)
put_rows true damaged compressed reply h = refl
put_rows false true compressed reply h = refl
put_rows false false true reply h = refl
put_rows false false false reply h = h

place_rows : (mine : Bool) → Plain (place_reply mine)
place_rows true = refl
place_rows false = refl

gate_rows : (mine : Bool) (count : ℕ) → Plain (gate_reply mine count)
gate_rows true count = refl
gate_rows false count = refl

times_rows : (full known : Bool) → Plain (times_reply full known)
times_rows true true = refl
times_rows true false = refl
times_rows false known = refl

plain_rows : (s : FileState) (who : ℕ) (event : Event) → has_list event ≡ false → Plain (reply_of s who event)
plain_rows s who (Ask block uid at) h = ask_rows _ (has block s.damaged) (has block s.compressed) s.next
plain_rows s who (Poll serial at) h = decided_rows s (decision_of (read_of who serial s.reads) at)
plain_rows s who (Cancel serial) h = cancel_rows (read_of who serial s.reads)
plain_rows s who (Claim window places) h = failed_rows s.failed _ refl
plain_rows s who (PutData window index digest) h =
    failed_rows s.failed _ (put_rows _ (has index s.damaged) (has index s.compressed) (flight_reply (flight_row index s.flight) (is_in index s.map) digest) (flight_rows (flight_row index s.flight) (is_in index s.map) digest))
plain_rows s who (PutPlace window index) h = failed_rows s.failed _ (place_rows (is_at is_written window (flight_row index s.flight)))
plain_rows s who (Settle window) h = failed_rows s.failed _ refl
plain_rows s who (Gate window index) h = failed_rows s.failed _ (gate_rows (is_at is_settled window (flight_row index s.flight)) _)
plain_rows s who (Release window) h = refl
plain_rows s who (TakePending after most) h = absurd (true≢false h)
plain_rows s who (SetTimes uid times) h = times_rows _ (is_in uid s.times)
plain_rows s who (Ranges start end room) h = absurd (true≢false h)
plain_rows s who Count h = refl
plain_rows s who Leave h = refl

-- ---- an event that needs no place beside those claimed

pub none_claimed : (claimed : Claims) → eqb (length claimed) 0 ≡ true → all_places claimed ≡ 0
none_claimed [] e = refl
none_claimed (row ∷ rows) e = let zero = eqb-true (length (row ∷ rows)) 0 e in absurd (omega arith)

pub some_claimed : (claimed : Claims) (event : Event) → needs claimed event ≡ 0 → 0 < all_places claimed
some_claimed claimed event e = let le = places_after claimed event Claimed in omega arith

pub no_list : (claimed : Claims) (event : Event) → needs claimed event ≡ 0 → has_list event ≡ false
no_list claimed (Ask block uid at) e = refl
no_list claimed (Poll serial at) e = refl
no_list claimed (Cancel serial) e = refl
no_list claimed (Claim window places) e = refl
no_list claimed (PutData window index digest) e = refl
no_list claimed (PutPlace window index) e = refl
no_list claimed (Settle window) e = refl
no_list claimed (Gate window index) e = refl
no_list claimed (Release window) e = refl
no_list claimed (TakePending after most) e = absurd (omega arith)
no_list claimed (SetTimes uid times) e = refl
no_list claimed (Ranges start end room) e = absurd (omega arith)
no_list claimed Count e = refl
no_list claimed Leave e = refl

pub no_rows : (s : FileState) (who : ℕ) (event : Event) → needs s.claimed event ≡ 0 → lists_rows (reply_of s who event) ≡ false
no_rows s who event e = plain_rows s who event (no_list s.claimed event e)

pub wants_none : (claimed : Claims) (event : Event) (room : ℕ) → needs claimed event ≡ 0 → 0 < room → MayWantMemory event room → ⊥
wants_none claimed (Ask block uid at) room e some h = absurd (omega arith)
wants_none claimed (Poll serial at) room e some h = h
wants_none claimed (Cancel serial) room e some h = h
wants_none claimed (Claim window places) room e some h = absurd (omega arith)
wants_none claimed (PutData window index digest) room e some h = omega arith
wants_none claimed (PutPlace window index) room e some h = h
wants_none claimed (Settle window) room e some h = omega arith
wants_none claimed (Gate window index) room e some h = omega arith
wants_none claimed (Release window) room e some h = h
wants_none claimed (TakePending after most) room e some h = h
wants_none claimed (SetTimes uid times) room e some h = absurd (omega arith)
wants_none claimed (Ranges start end most) room e some h = h
wants_none claimed Count room e some h = h
wants_none claimed Leave room e some h = h
