-- Faults are seen and counted, and a gate write that began is in `begun`.
use Rattle.std.proofs.Common.{◌≡◌, ℕ, ◌+◌, Bool, true, false, ◌||◌, cond, eqb, ltb, leb, List, length, Option, Some, None, refl, ap, ◌∙◌, inl, inr}
use Rattle.std.specs.Prelude.{is_some, count_by}
use Rattle.std.proofs.lemmas.Bool.{false≢true}
use Rattle.inc_pending.specs.Keyed.{lookup}
use Rattle.inc_pending.specs.Polling.{waits_on, read_of}
use Rattle.inc_pending.specs.declared.reads.ReadRow.{ReadRow}
use Rattle.inc_pending.specs.declared.timeouts.Times.{Times}
use Rattle.inc_model.specs.declared.words.event.Event.{Event}
use Rattle.inc_model.specs.declared.words.event.Event.TheVariants.{Ask, Poll, Cancel, Claim, PutData, PutPlace, Settle, Gate, Release, TakePending, SetTimes, Ranges, Count, Leave}
use Rattle.inc_model.specs.declared.words.event.Window.{Window}
use Rattle.inc_model.specs.declared.words.file_state.FileState.{FileState}
use Rattle.inc_model.specs.declared.words.file_state.FlightRow.{FlightRow}
use Rattle.inc_model.specs.declared.words.reply.Reply.{Reply}
use Rattle.inc_model.specs.declared.words.reply.Reply.TheVariants.{Asked, NoPath, Handed, TimedOut, Fault, Cancelled, Claimed, BadRange, Put, Placed, Settled, Gated, TimesSet, Left}
use Rattle.inc_model.specs.relation.State.{is_in, has, flight_row}
use Rattle.inc_model.specs.relation.Stages.{is_settled, is_at}
use Rattle.inc_model.specs.relation.Table.{reply_of, ask_reply, cancel_reply, unless_failed, times_reply, filled_reply, presence, gate_reply}
use Rattle.inc_model.specs.relation.Changes.{ask_change, poll_change, cancel_change, put_data_change, put_place_change, settle_change, gate_change, times_change, leave_change, rest_change}
use Rattle.inc_model.specs.relation.Step.{Fits, may_fail, Step}
use Rattle.inc_model.specs.laws.WorldLaws.{Began}
use Rattle.inc_model.specs.laws.StageLaws.{IsFault, SeesFault, HasBegun}
use Rattle.inc_model.proofs.facts_kept.Fill.{at_stage, failed_now, gated_by, may_gate}
use Rattle.inc_model.proofs.lists.Sets.{lookup_new}

-- ---- replies for which no device is called

ask_works : (past damaged compressed : Bool) (next : ℕ) → may_fail (ask_reply past damaged compressed next) ≡ true → ⊥
ask_works true damaged compressed next e = absurd (cc)
ask_works false true compressed next e = absurd (cc)
ask_works false false true next e = absurd (cc)
ask_works false false false next e = absurd (cc)

cancel_works : (row : Option ReadRow) → may_fail (cancel_reply row) ≡ true → ⊥
cancel_works None e = absurd (cc)
cancel_works (Some row) e = absurd (cc)

claim_works : (failed : Option ℕ) → may_fail (unless_failed failed Claimed) ≡ true → ⊥
claim_works None e = absurd (cc)
claim_works (Some at) e = absurd (cc)

times_works : (full known : Bool) → may_fail (times_reply full known) ≡ true → ⊥
times_works true true e = absurd (cc)
times_works true false e = absurd (cc)
times_works false known e = absurd (cc)

ranges_work : (bad : Bool) (present : List Bool) (start end room : ℕ) → may_fail (cond bad BadRange (filled_reply present start end room)) ≡ true → ⊥
ranges_work true present start end room e = absurd (cc)
ranges_work false present start end room e = absurd (cc)

-- ---- a fault

module _ (s : FileState) (at who count : ℕ) where
  gate_fault : (index : ℕ) (found : Option FlightRow) → is_some found ≡ true → ((gate_change at s index found (Fault count)).faults ≡ count) × (is_some (gate_change at s index found (Fault count)).failed ≡ true)
  gate_fault index None e = absurd (cc)
  gate_fault index (Some row) e = (refl, failed_now s.failed at)

  sees : (told : Bool) (event : Event) → Fits told s.faults (reply_of s who event) (Fault count) → SeesFault s (rest_change at s who event (Fault count)) event count
  sees told (Ask block uid moment) h = absurd (ask_works (leb s.n block) (has block s.damaged) (has block s.compressed) s.next h.0)
  sees told (Poll serial moment) h = record { counted = refl; rose = h.1; ended = inl tt }
  sees told (Cancel serial) h = absurd (cancel_works (read_of who serial s.reads) h.0)
  sees told (Claim window places) h = absurd (claim_works s.failed h.0)
  sees told (PutData window index digest) h = record { counted = refl; rose = h.1; ended = inr (failed_now s.failed at) }
  sees told (PutPlace window index) h = record { counted = refl; rose = h.1; ended = inr (failed_now s.failed at) }
  sees told (Settle window) h = record { counted = refl; rose = h.1; ended = inr (failed_now s.failed at) }
  sees told (Gate window index) h =
      let mine = at_stage is_settled window (flight_row index s.flight) (may_gate s.failed (is_at is_settled window (flight_row index s.flight)) (count_by (waits_on index) s.reads) h.0) in
      let there : is_some (flight_row index s.flight) ≡ true = ap (λ (o : Option FlightRow). is_some o) mine.is in
      let parts = gate_fault index (flight_row index s.flight) there in
      record { counted = parts.0; rose = h.1; ended = inr parts.1 }
  sees told (Release window) h = absurd (false≢true h.0)
  sees told (TakePending after most) h = absurd (false≢true h.0)
  sees told (SetTimes uid times) h = absurd (times_works (eqb (length s.times) 256) (is_in uid s.times) h.0)
  sees told (Ranges start end room) h = absurd (ranges_work (ltb end start || ltb (s.n + s.m) end) (presence s.map (s.n + s.m)) start end room h.0)
  sees told Count h = absurd (false≢true h.0)
  sees told Leave h = absurd (false≢true h.0)

-- the claimed places don't matter
sees_too : (old new other : FileState) (event : Event) (count : ℕ) → other.faults ≡ new.faults → other.failed ≡ new.failed → SeesFault old new event count → SeesFault old other event count
sees_too old new other event count faults failed h = record {
  counted = faults ∙ h.counted;
  rose = h.rose;
  ended = elim h.ended [ inl poll ↦ inl poll | inr over ↦ inr (ap (λ (o : Option ℕ). is_some o) failed ∙ over) ];
}

pub faults_seen : (old new : FileState) (told : Bool) (at who : ℕ) (event : Event) (count : ℕ) → Step at told old who event (Fault count) new → SeesFault old new event count
faults_seen old new told at who event count step =
    sees_too old (rest_change at old who event (Fault count)) new event count (ap (λ (s : FileState). s.faults) step.after) (ap (λ (s : FileState). s.failed) step.after) (sees old at who count told event step.allowed.fits)

-- ---- no fault

abbrev Quiet : FileState → FileState → Type 0
Quiet s t = (t.faults ≡ s.faults) × (t.failed ≡ s.failed)

module _ (s : FileState) where
  calm : Quiet s s
  calm = (refl, refl)

  ask_quiet : (who block uid at : ℕ) (reply : Reply) → Quiet s (ask_change s who block uid at reply)
  ask_quiet who block uid at (Asked serial) = calm
  ask_quiet who block uid at reply = calm

  poll_quiet : (who serial : ℕ) (reply : Reply) → (IsFault reply → ⊥) → Quiet s (poll_change s who serial reply)
  poll_quiet who serial (NoPath hash) works = calm
  poll_quiet who serial (Handed digest) works = calm
  poll_quiet who serial (TimedOut deadline) works = calm
  poll_quiet who serial (Fault count) works = absurd (works tt)
  poll_quiet who serial reply works = calm

  cancel_quiet : (who serial : ℕ) (reply : Reply) → Quiet s (cancel_change s who serial reply)
  cancel_quiet who serial Cancelled = calm
  cancel_quiet who serial reply = calm

  put_data_quiet : (at : ℕ) (window : Window) (index : ℕ) (digest : List ℕ) (reply : Reply) → (IsFault reply → ⊥) → Quiet s (put_data_change at s window index digest reply)
  put_data_quiet at window index digest (Put place given) works = calm
  put_data_quiet at window index digest (Fault count) works = absurd (works tt)
  put_data_quiet at window index digest reply works = calm

  put_place_quiet : (at index : ℕ) (reply : Reply) → (IsFault reply → ⊥) → Quiet s (put_place_change at s index reply)
  put_place_quiet at index Placed works = calm
  put_place_quiet at index (Fault count) works = absurd (works tt)
  put_place_quiet at index reply works = calm

  settle_quiet : (at : ℕ) (reply : Reply) → (IsFault reply → ⊥) → Quiet s (settle_change at s reply)
  settle_quiet at Settled works = calm
  settle_quiet at (Fault count) works = absurd (works tt)
  settle_quiet at reply works = calm

  gate_quiet : (at index : ℕ) (found : Option FlightRow) (reply : Reply) → (IsFault reply → ⊥) → Quiet s (gate_change at s index found reply)
  gate_quiet at index None reply works = calm
  gate_quiet at index (Some row) (Gated count) works = calm
  gate_quiet at index (Some row) (Fault count) works = absurd (works tt)
  gate_quiet at index (Some row) reply works = calm

  times_quiet : (uid : ℕ) (times : Times) (reply : Reply) → Quiet s (times_change s uid times reply)
  times_quiet uid times TimesSet = calm
  times_quiet uid times reply = calm

  leave_quiet : (reply : Reply) → Quiet s (leave_change s reply)
  leave_quiet (Left readers) = calm
  leave_quiet reply = calm

  rest_quiet : (at who : ℕ) (event : Event) (reply : Reply) → (IsFault reply → ⊥) → Quiet s (rest_change at s who event reply)
  rest_quiet at who (Ask block uid moment) reply works = ask_quiet who block uid moment reply
  rest_quiet at who (Poll serial moment) reply works = poll_quiet who serial reply works
  rest_quiet at who (Cancel serial) reply works = cancel_quiet who serial reply
  rest_quiet at who (Claim window places) reply works = calm
  rest_quiet at who (PutData window index digest) reply works = put_data_quiet at window index digest reply works
  rest_quiet at who (PutPlace window index) reply works = put_place_quiet at index reply works
  rest_quiet at who (Settle window) reply works = settle_quiet at reply works
  rest_quiet at who (Gate window index) reply works = gate_quiet at index (flight_row index s.flight) reply works
  rest_quiet at who (Release window) reply works = calm
  rest_quiet at who (TakePending after most) reply works = calm
  rest_quiet at who (SetTimes uid times) reply works = times_quiet uid times reply
  rest_quiet at who (Ranges start end room) reply works = calm
  rest_quiet at who Count reply works = calm
  rest_quiet at who Leave reply works = leave_quiet reply

pub faults_stay : (old new : FileState) (told : Bool) (at who : ℕ) (event : Event) (reply : Reply) → Step at told old who event reply new → (IsFault reply → ⊥) → Quiet old new
faults_stay old new told at who event reply step works =
    let h = rest_quiet old at who event reply works in
    (ap (λ (s : FileState). s.faults) step.after ∙ h.0, ap (λ (s : FileState). s.failed) step.after ∙ h.1)

-- ---- a gate that began

begun_at : (s : FileState) (at index : ℕ) (row : FlightRow) (reply : Reply) → Began reply → lookup index (gate_change at s index (Some row) reply).begun ≡ Some row.digest
begun_at s at index row (Gated count) b = lookup_new index row.digest s.begun
begun_at s at index row (Fault count) b = lookup_new index row.digest s.begun
begun_at s at index row reply b = absurd b

gate_mine : (s : FileState) (told : Bool) (window : Window) (index waiting : ℕ) (reply : Reply) → Began reply → Fits told s.faults (unless_failed s.failed (gate_reply (is_at is_settled window (flight_row index s.flight)) waiting)) reply → is_at is_settled window (flight_row index s.flight) ≡ true
gate_mine s told window index waiting (Gated count) b h = (gated_by s.failed (is_at is_settled window (flight_row index s.flight)) waiting count h).0
gate_mine s told window index waiting (Fault count) b h = may_gate s.failed (is_at is_settled window (flight_row index s.flight)) waiting h.0
gate_mine s told window index waiting reply b h = absurd b

pub gate_begins : (old new : FileState) (told : Bool) (at who : ℕ) (window : Window) (index : ℕ) (reply : Reply) → Step at told old who (Gate window index) reply new → Began reply → HasBegun old new window index
gate_begins old new told at who window index reply step b =
    let mine = at_stage is_settled window (flight_row index old.flight) (gate_mine old told window index (count_by (waits_on index) old.reads) reply b step.allowed.fits) in
    let is : gate_change at old index (flight_row index old.flight) reply ≡ gate_change at old index (Some mine.row) reply = ap (λ (o : Option FlightRow). gate_change at old index o reply) mine.is in
    record {
      row = mine.row;
      flying = mine.is;
      own = mine.own;
      settled = mine.stage_is;
      begun = ap (λ (s : FileState). lookup index s.begun) step.after ∙ ap (λ (s : FileState). lookup index s.begun) is ∙ begun_at old at index mine.row reply b;
    }
