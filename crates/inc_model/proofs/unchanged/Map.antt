-- What one step leaves as it is: the map, what is begun and acknowledged, and the reads.
use Rattle.std.proofs.Common.{◌≡◌, ℕ, suc, ◌⊎◌, Bool, true, false, not, ◌||◌, cond, eqb, List, [], ◌∷◌, ◌++◌, get_or, Option, Some, None, refl, sym, ap, subst, ◌∙◌, arith, inl, inr}
use Rattle.std.specs.Prelude.{All, Any, Contains, filter, map, count_by}
use Rattle.std.proofs.lemmas.Bool.{eqb-true, true≢false, true_from_ne_false}
use Rattle.std.proofs.lemmas.List.Elements.{All-contains_itself, Contains-append_left}
use Rattle.inc_pending.specs.Times.{times_of}
use Rattle.inc_pending.specs.Polling.{waits_on, marked, is_asked, asked_row}
use Rattle.inc_pending.specs.declared.reads.ReadRow.{ReadRow}
use Rattle.inc_pending.specs.declared.timeouts.Times.{Times}
use Rattle.inc_model.specs.declared.words.event.Event.{Event}
use Rattle.inc_model.specs.declared.words.event.Event.TheVariants.{Ask, Poll, Cancel, Claim, PutData, PutPlace, Settle, Gate, Release, TakePending, SetTimes, Ranges, Count, Leave}
use Rattle.inc_model.specs.declared.words.event.Window.{Window}
use Rattle.inc_model.specs.declared.words.file_state.FileState.{FileState}
use Rattle.inc_model.specs.declared.words.file_state.FlightRow.{FlightRow}
use Rattle.inc_model.specs.declared.words.reply.Reply.{Reply}
use Rattle.inc_model.specs.declared.words.reply.Reply.TheVariants.{Asked, NoPath, Handed, TimedOut, Fault, Cancelled, Put, Placed, Settled, Gated, TimesSet, Left}
use Rattle.inc_model.specs.relation.State.{has, is_in, flight_row, with_index}
use Rattle.inc_model.specs.relation.Stages.{is_gated, is_settled, is_at, acknowledge}
use Rattle.inc_model.specs.relation.Table.{reply_of, unless_failed, gate_reply}
use Rattle.inc_model.specs.relation.Changes.{first_failure, ask_change, poll_change, cancel_change, put_data_change, put_place_change, settle_change, gate_change, times_change, leave_change, rest_change}
use Rattle.inc_model.specs.relation.Step.{Fits, may_fail, Step}
use Rattle.inc_model.specs.laws.WorldLaws.{Began}
use Rattle.inc_model.specs.laws.StageLaws.{HasSynced, WasGated, IsGate, IsOver, names_read, IsStillWaiting}
use Rattle.inc_model.proofs.lists.Members.{any_of, filter_has, map_has}
use Rattle.inc_model.proofs.lists.Sets.{has_add}
use Rattle.inc_model.proofs.facts_kept.Settle.{acknowledge_more}

-- ---- acknowledgements

abbrev GatedRow : ℕ → FlightRow → Type 0
GatedRow q row = (row.index ≡ q) × (is_gated row.stage ≡ true)

later_row : (q : ℕ) (row : FlightRow) (rows : List FlightRow) → Any (GatedRow q) rows → Any (GatedRow q) (row ∷ rows)
later_row q row rows a = (suc a.0, a.1, (let lt = a.2 in omega arith), a.3, a.4)

acknowledged_by : (q : ℕ) (flight : List FlightRow) (indices : List ℕ) → has q (acknowledge flight indices) ≡ true → (has q indices ≡ true) ⊎ Any (GatedRow q) flight
acknowledged_by q [] indices h = inl h
acknowledged_by q (row ∷ rows) indices h = elim (acknowledged_by q rows (cond (is_gated row.stage) (with_index row.index indices) indices) h) [
  | inl now ↦ step (is_gated row.stage) refl now
  | inr later ↦ inr (later_row q row rows later)
]
  where
    added : is_gated row.stage ≡ true → (b : Bool) → eqb q row.index ≡ b → (b || has q indices) ≡ true → (has q indices ≡ true) ⊎ Any (GatedRow q) (row ∷ rows)
    added g true t h = inr (0, row, omega arith, refl, (sym (eqb-true q row.index t), g))
    added g false t h = inl h

    step : (b : Bool) → is_gated row.stage ≡ b → has q (cond b (with_index row.index indices) indices) ≡ true → (has q indices ≡ true) ⊎ Any (GatedRow q) (row ∷ rows)
    step true g now = added g (eqb q row.index) refl (sym (has_add q row.index indices) ∙ now)
    step false g now = inl now

-- ---- what a change leaves

abbrev Store : FileState → FileState → Type 0
Store s t = (t.map ≡ s.map) × (t.begun ≡ s.begun) × (t.acknowledged ≡ s.acknowledged) × (t.failed ≡ s.failed)

module _ (s : FileState) where
  same : Store s s
  same = (refl, refl, refl, refl)

  ask_store : (who block uid at : ℕ) (reply : Reply) → Store s (ask_change s who block uid at reply)
  ask_store who block uid at (Asked serial) = same
  ask_store who block uid at reply = same

  poll_store : (who serial : ℕ) (reply : Reply) → Store s (poll_change s who serial reply)
  poll_store who serial (NoPath hash) = same
  poll_store who serial (Handed digest) = same
  poll_store who serial (TimedOut deadline) = same
  poll_store who serial (Fault count) = same
  poll_store who serial reply = same

  cancel_store : (who serial : ℕ) (reply : Reply) → Store s (cancel_change s who serial reply)
  cancel_store who serial Cancelled = same
  cancel_store who serial reply = same

  times_store : (uid : ℕ) (times : Times) (reply : Reply) → Store s (times_change s uid times reply)
  times_store uid times TimesSet = same
  times_store uid times reply = same

  leave_store : (reply : Reply) → Store s (leave_change s reply)
  leave_store (Left readers) = same
  leave_store reply = same

  -- all but the position of a failure
  abbrev Kept : FileState → Type 0
  Kept t = (t.map ≡ s.map) × (t.begun ≡ s.begun) × (t.acknowledged ≡ s.acknowledged)

  put_data_store : (at : ℕ) (window : Window) (index : ℕ) (digest : List ℕ) (reply : Reply) → Kept (put_data_change at s window index digest reply)
  put_data_store at window index digest (Put place given) = (refl, refl, refl)
  put_data_store at window index digest (Fault count) = (refl, refl, refl)
  put_data_store at window index digest reply = (refl, refl, refl)

  put_place_store : (at index : ℕ) (reply : Reply) → Kept (put_place_change at s index reply)
  put_place_store at index Placed = (refl, refl, refl)
  put_place_store at index (Fault count) = (refl, refl, refl)
  put_place_store at index reply = (refl, refl, refl)

  settle_map : (at : ℕ) (reply : Reply) → ((settle_change at s reply).map ≡ s.map) × ((settle_change at s reply).begun ≡ s.begun)
  settle_map at Settled = (refl, refl)
  settle_map at (Fault count) = (refl, refl)
  settle_map at reply = (refl, refl)

  settle_acknowledged : (at : ℕ) (window : Window) (reply : Reply) (q : ℕ) → has q (settle_change at s reply).acknowledged ≡ true → (has q s.acknowledged ≡ true) ⊎ (HasSynced (Settle window) reply × Any (GatedRow q) s.flight)
  settle_acknowledged at window Settled q h = elim (acknowledged_by q s.flight s.acknowledged h) [ inl was ↦ inl was | inr row ↦ inr (record { event_is = tt; reply_is = refl }, row) ]
  settle_acknowledged at window (Fault count) q h = inl h
  settle_acknowledged at window reply q h = inl h

  gate_acknowledged : (at index : ℕ) (found : Option FlightRow) (reply : Reply) → (gate_change at s index found reply).acknowledged ≡ s.acknowledged
  gate_acknowledged at index None reply = refl
  gate_acknowledged at index (Some row) (Gated count) = refl
  gate_acknowledged at index (Some row) (Fault count) = refl
  gate_acknowledged at index (Some row) reply = refl

  gate_map : (at index : ℕ) (found : Option FlightRow) (reply : Reply) → (WasGated reply → ⊥) → (gate_change at s index found reply).map ≡ s.map
  gate_map at index None reply never = refl
  gate_map at index (Some row) (Gated count) never = absurd (never tt)
  gate_map at index (Some row) (Fault count) never = refl
  gate_map at index (Some row) reply never = refl

  gate_begun : (at index : ℕ) (found : Option FlightRow) (reply : Reply) → (Began reply → ⊥) → (gate_change at s index found reply).begun ≡ s.begun
  gate_begun at index None reply never = refl
  gate_begun at index (Some row) (Gated count) never = absurd (never tt)
  gate_begun at index (Some row) (Fault count) never = absurd (never tt)
  gate_begun at index (Some row) reply never = refl

  -- ---- each event

  rest_acknowledged : (at who : ℕ) (event : Event) (reply : Reply) (q : ℕ) → has q (rest_change at s who event reply).acknowledged ≡ true → (has q s.acknowledged ≡ true) ⊎ (HasSynced event reply × Any (GatedRow q) s.flight)
  rest_acknowledged at who (Ask block uid moment) reply q h = inl (subst (λ (l : List ℕ). has q l ≡ true) (ask_store who block uid moment reply).2 h)
  rest_acknowledged at who (Poll serial moment) reply q h = inl (subst (λ (l : List ℕ). has q l ≡ true) (poll_store who serial reply).2 h)
  rest_acknowledged at who (Cancel serial) reply q h = inl (subst (λ (l : List ℕ). has q l ≡ true) (cancel_store who serial reply).2 h)
  rest_acknowledged at who (Claim window places) reply q h = inl h
  rest_acknowledged at who (PutData window index digest) reply q h = inl (subst (λ (l : List ℕ). has q l ≡ true) (put_data_store at window index digest reply).2 h)
  rest_acknowledged at who (PutPlace window index) reply q h = inl (subst (λ (l : List ℕ). has q l ≡ true) (put_place_store at index reply).2 h)
  rest_acknowledged at who (Settle window) reply q h = settle_acknowledged at window reply q h
  rest_acknowledged at who (Gate window index) reply q h = inl (subst (λ (l : List ℕ). has q l ≡ true) (gate_acknowledged at index (flight_row index s.flight) reply) h)
  rest_acknowledged at who (Release window) reply q h = inl h
  rest_acknowledged at who (TakePending after most) reply q h = inl h
  rest_acknowledged at who (SetTimes uid times) reply q h = inl (subst (λ (l : List ℕ). has q l ≡ true) (times_store uid times reply).2 h)
  rest_acknowledged at who (Ranges start end room) reply q h = inl h
  rest_acknowledged at who Count reply q h = inl h
  rest_acknowledged at who Leave reply q h = inl (subst (λ (l : List ℕ). has q l ≡ true) (leave_store reply).2 h)

  settle_stays_acknowledged : (at : ℕ) (reply : Reply) (q : ℕ) → has q s.acknowledged ≡ true → has q (settle_change at s reply).acknowledged ≡ true
  settle_stays_acknowledged at Settled q h = acknowledge_more q s.flight s.acknowledged h
  settle_stays_acknowledged at (Fault count) q h = h
  settle_stays_acknowledged at reply q h = h

  -- what is acknowledged stays so
  pub rest_stays_acknowledged : (at who : ℕ) (event : Event) (reply : Reply) (q : ℕ) → has q s.acknowledged ≡ true → has q (rest_change at s who event reply).acknowledged ≡ true
  rest_stays_acknowledged at who (Ask block uid moment) reply q h = ap (λ (l : List ℕ). has q l) (ask_store who block uid moment reply).2 ∙ h
  rest_stays_acknowledged at who (Poll serial moment) reply q h = ap (λ (l : List ℕ). has q l) (poll_store who serial reply).2 ∙ h
  rest_stays_acknowledged at who (Cancel serial) reply q h = ap (λ (l : List ℕ). has q l) (cancel_store who serial reply).2 ∙ h
  rest_stays_acknowledged at who (Claim window places) reply q h = h
  rest_stays_acknowledged at who (PutData window index digest) reply q h = ap (λ (l : List ℕ). has q l) (put_data_store at window index digest reply).2 ∙ h
  rest_stays_acknowledged at who (PutPlace window index) reply q h = ap (λ (l : List ℕ). has q l) (put_place_store at index reply).2 ∙ h
  rest_stays_acknowledged at who (Settle window) reply q h = settle_stays_acknowledged at reply q h
  rest_stays_acknowledged at who (Gate window index) reply q h = ap (λ (l : List ℕ). has q l) (gate_acknowledged at index (flight_row index s.flight) reply) ∙ h
  rest_stays_acknowledged at who (Release window) reply q h = h
  rest_stays_acknowledged at who (TakePending after most) reply q h = h
  rest_stays_acknowledged at who (SetTimes uid times) reply q h = ap (λ (l : List ℕ). has q l) (times_store uid times reply).2 ∙ h
  rest_stays_acknowledged at who (Ranges start end room) reply q h = h
  rest_stays_acknowledged at who Count reply q h = h
  rest_stays_acknowledged at who Leave reply q h = ap (λ (l : List ℕ). has q l) (leave_store reply).2 ∙ h

  rest_map : (at who : ℕ) (event : Event) (reply : Reply) → (WasGated reply → ⊥) → (rest_change at s who event reply).map ≡ s.map
  rest_map at who (Ask block uid moment) reply never = (ask_store who block uid moment reply).0
  rest_map at who (Poll serial moment) reply never = (poll_store who serial reply).0
  rest_map at who (Cancel serial) reply never = (cancel_store who serial reply).0
  rest_map at who (Claim window places) reply never = refl
  rest_map at who (PutData window index digest) reply never = (put_data_store at window index digest reply).0
  rest_map at who (PutPlace window index) reply never = (put_place_store at index reply).0
  rest_map at who (Settle window) reply never = (settle_map at reply).0
  rest_map at who (Gate window index) reply never = gate_map at index (flight_row index s.flight) reply never
  rest_map at who (Release window) reply never = refl
  rest_map at who (TakePending after most) reply never = refl
  rest_map at who (SetTimes uid times) reply never = (times_store uid times reply).0
  rest_map at who (Ranges start end room) reply never = refl
  rest_map at who Count reply never = refl
  rest_map at who Leave reply never = (leave_store reply).0

  rest_begun : (at who : ℕ) (event : Event) (reply : Reply) → (IsGate event → ⊥) ⊎ (Began reply → ⊥) → (rest_change at s who event reply).begun ≡ s.begun
  rest_begun at who (Ask block uid moment) reply never = (ask_store who block uid moment reply).1
  rest_begun at who (Poll serial moment) reply never = (poll_store who serial reply).1
  rest_begun at who (Cancel serial) reply never = (cancel_store who serial reply).1
  rest_begun at who (Claim window places) reply never = refl
  rest_begun at who (PutData window index digest) reply never = (put_data_store at window index digest reply).1
  rest_begun at who (PutPlace window index) reply never = (put_place_store at index reply).1
  rest_begun at who (Settle window) reply never = (settle_map at reply).1
  rest_begun at who (Gate window index) reply (inl never) = absurd (never tt)
  rest_begun at who (Gate window index) reply (inr never) = gate_begun at index (flight_row index s.flight) reply never
  rest_begun at who (Release window) reply never = refl
  rest_begun at who (TakePending after most) reply never = refl
  rest_begun at who (SetTimes uid times) reply never = (times_store uid times reply).1
  rest_begun at who (Ranges start end room) reply never = refl
  rest_begun at who Count reply never = refl
  rest_begun at who Leave reply never = (leave_store reply).1

  -- ---- after a failure

  over : (t : FileState) → Store s t → IsOver s t
  over t h = record { failed = h.3; map = h.0; begun = h.1; acknowledged = h.2 }

  module _ (position : ℕ) (failed : s.failed ≡ Some position) where
    still_failed : (at : ℕ) → first_failure s.failed at ≡ s.failed
    still_failed at = ap (λ (o : Option ℕ). first_failure o at) failed ∙ sym failed

    put_data_over : (at : ℕ) (window : Window) (index : ℕ) (digest : List ℕ) (reply : Reply) → IsOver s (put_data_change at s window index digest reply)
    put_data_over at window index digest (Put place given) = over (put_data_change at s window index digest (Put place given)) same
    put_data_over at window index digest (Fault count) = over (put_data_change at s window index digest (Fault count)) (refl, refl, refl, still_failed at)
    put_data_over at window index digest reply = over s same

    put_place_over : (at index : ℕ) (reply : Reply) → IsOver s (put_place_change at s index reply)
    put_place_over at index Placed = over (put_place_change at s index Placed) same
    put_place_over at index (Fault count) = over (put_place_change at s index (Fault count)) (refl, refl, refl, still_failed at)
    put_place_over at index reply = over s same

    no_sync : unless_failed s.failed Settled ≡ Settled → ⊥
    no_sync e = go (sym (ap (λ (o : Option ℕ). unless_failed o Settled) failed) ∙ e)
      where
        go : unless_failed (Some position) Settled ≡ Settled → ⊥
        go same = absurd (cc)

    settle_over : (told : Bool) (at : ℕ) (reply : Reply) → Fits told s.faults (unless_failed s.failed Settled) reply → IsOver s (settle_change at s reply)
    settle_over told at Settled h = absurd (no_sync h)
    settle_over told at (Fault count) h = over (settle_change at s (Fault count)) (refl, refl, refl, still_failed at)
    settle_over told at reply h = over s same

    no_gate : (wanted : Reply) (count : ℕ) → unless_failed s.failed wanted ≡ Gated count → ⊥
    no_gate wanted count e = go (sym (ap (λ (o : Option ℕ). unless_failed o wanted) failed) ∙ e)
      where
        go : unless_failed (Some position) wanted ≡ Gated count → ⊥
        go same = absurd (cc)

    no_fault : (wanted : Reply) → may_fail (unless_failed s.failed wanted) ≡ true → ⊥
    no_fault wanted e = go (sym (ap (λ (o : Option ℕ). may_fail (unless_failed o wanted)) failed) ∙ e)
      where
        go : may_fail (unless_failed (Some position) wanted) ≡ true → ⊥
        go same = absurd (cc)

    gate_over : (told : Bool) (at index : ℕ) (found : Option FlightRow) (wanted reply : Reply) → Fits told s.faults (unless_failed s.failed wanted) reply → IsOver s (gate_change at s index found reply)
    gate_over told at index None wanted reply h = over s same
    gate_over told at index (Some row) wanted (Gated count) h = absurd (no_gate wanted count h)
    gate_over told at index (Some row) wanted (Fault count) h = absurd (no_fault wanted h.0)
    gate_over told at index (Some row) wanted reply h = over s same

    rest_over : (told : Bool) (at who : ℕ) (event : Event) (reply : Reply) → Fits told s.faults (reply_of s who event) reply → IsOver s (rest_change at s who event reply)
    rest_over told at who (Ask block uid moment) reply h = over (ask_change s who block uid moment reply) (ask_store who block uid moment reply)
    rest_over told at who (Poll serial moment) reply h = over (poll_change s who serial reply) (poll_store who serial reply)
    rest_over told at who (Cancel serial) reply h = over (cancel_change s who serial reply) (cancel_store who serial reply)
    rest_over told at who (Claim window places) reply h = over s same
    rest_over told at who (PutData window index digest) reply h = put_data_over at window index digest reply
    rest_over told at who (PutPlace window index) reply h = put_place_over at index reply
    rest_over told at who (Settle window) reply h = settle_over told at reply h
    rest_over told at who (Gate window index) reply h = gate_over told at index (flight_row index s.flight) (gate_reply (is_at is_settled window (flight_row index s.flight)) (count_by (waits_on index) s.reads)) reply h
    rest_over told at who (Release window) reply h = over (rest_change at s who (Release window) reply) same
    rest_over told at who (TakePending after most) reply h = over s same
    rest_over told at who (SetTimes uid times) reply h = over (times_change s uid times reply) (times_store uid times reply)
    rest_over told at who (Ranges start end room) reply h = over s same
    rest_over told at who Count reply h = over s same
    rest_over told at who Leave reply h = over (leave_change s reply) (leave_store reply)

-- ---- reads

abbrev Alike : ReadRow → ReadRow → Type 0
Alike row other = other ≡ record row { done = other.done }

marked_alike : (b : Bool) (row : ReadRow) → Alike row (cond b (record row { done = true }) row)
marked_alike true row = refl
marked_alike false row = refl

module _ (s : FileState) where
  abbrev Waits : ℕ → Event → List ReadRow → Type 0
  Waits who event reads = All (λ row. Any (Alike row) reads ⊎ (names_read who event row ≡ true)) s.reads

  all_wait : (who : ℕ) (event : Event) → Waits who event s.reads
  all_wait who event = λ k d lt. inl (any_of (Alike (get_or s.reads k d)) s.reads (get_or s.reads k d) (All-contains_itself s.reads k d lt) refl)

  others_wait : (who serial : ℕ) (event : Event) → ((row : ReadRow) → names_read who event row ≡ is_asked who serial row) → Waits who event (filter (λ row. not (is_asked who serial row)) s.reads)
  others_wait who serial event named = λ k d lt. step (get_or s.reads k d) (filter_has (λ row. not (is_asked who serial row)) s.reads k d lt)
    where
      step : (row : ReadRow) → Contains (filter (λ r. not (is_asked who serial r)) s.reads) row ⊎ (not (is_asked who serial row) ≡ false) → Any (Alike row) (filter (λ r. not (is_asked who serial r)) s.reads) ⊎ (names_read who event row ≡ true)
      step row (inl there) = inl (any_of (Alike row) (filter (λ r. not (is_asked who serial r)) s.reads) row there refl)
      step row (inr out) = inr (named row ∙ true_from_ne_false (is_asked who serial row) (λ never. absurd (true≢false (sym (ap not never) ∙ out))))

  ask_waits : (who block uid at : ℕ) (reply : Reply) → Waits who (Ask block uid at) (ask_change s who block uid at reply).reads
  ask_waits who block uid at (Asked serial) =
      let new = asked_row s.next who block (is_in block s.map) uid at (times_of uid s.times) in
      λ k d lt. inl (any_of (Alike (get_or s.reads k d)) (s.reads ++ new ∷ []) (get_or s.reads k d) (Contains-append_left s.reads (new ∷ []) (get_or s.reads k d) (All-contains_itself s.reads k d lt)) refl)
  ask_waits who block uid at reply = all_wait who (Ask block uid at)

  poll_waits : (who serial at : ℕ) (reply : Reply) → Waits who (Poll serial at) (poll_change s who serial reply).reads
  poll_waits who serial at (NoPath hash) = others_wait who serial (Poll serial at) (λ row. refl)
  poll_waits who serial at (Handed digest) = others_wait who serial (Poll serial at) (λ row. refl)
  poll_waits who serial at (TimedOut deadline) = others_wait who serial (Poll serial at) (λ row. refl)
  poll_waits who serial at (Fault count) = all_wait who (Poll serial at)
  poll_waits who serial at reply = all_wait who (Poll serial at)

  cancel_waits : (who serial : ℕ) (reply : Reply) → Waits who (Cancel serial) (cancel_change s who serial reply).reads
  cancel_waits who serial Cancelled = others_wait who serial (Cancel serial) (λ row. refl)
  cancel_waits who serial reply = all_wait who (Cancel serial)

  put_data_waits : (who at : ℕ) (window : Window) (index : ℕ) (digest : List ℕ) (reply : Reply) → Waits who (PutData window index digest) (put_data_change at s window index digest reply).reads
  put_data_waits who at window index digest (Put place given) = all_wait who (PutData window index digest)
  put_data_waits who at window index digest (Fault count) = all_wait who (PutData window index digest)
  put_data_waits who at window index digest reply = all_wait who (PutData window index digest)

  put_place_waits : (who at : ℕ) (window : Window) (index : ℕ) (reply : Reply) → Waits who (PutPlace window index) (put_place_change at s index reply).reads
  put_place_waits who at window index Placed = all_wait who (PutPlace window index)
  put_place_waits who at window index (Fault count) = all_wait who (PutPlace window index)
  put_place_waits who at window index reply = all_wait who (PutPlace window index)

  settle_waits : (who at : ℕ) (window : Window) (reply : Reply) → Waits who (Settle window) (settle_change at s reply).reads
  settle_waits who at window Settled = all_wait who (Settle window)
  settle_waits who at window (Fault count) = all_wait who (Settle window)
  settle_waits who at window reply = all_wait who (Settle window)

  gate_waits : (who at : ℕ) (window : Window) (index : ℕ) (found : Option FlightRow) (reply : Reply) → Waits who (Gate window index) (gate_change at s index found reply).reads
  gate_waits who at window index None reply = all_wait who (Gate window index)
  gate_waits who at window index (Some row) (Gated count) =
      λ k d lt. inl (any_of (Alike (get_or s.reads k d)) (map (marked index) s.reads) (marked index (get_or s.reads k d)) (map_has (marked index) s.reads k d lt) (marked_alike (waits_on index (get_or s.reads k d)) (get_or s.reads k d)))
  gate_waits who at window index (Some row) (Fault count) = all_wait who (Gate window index)
  gate_waits who at window index (Some row) reply = all_wait who (Gate window index)

  times_waits : (who uid : ℕ) (times : Times) (reply : Reply) → Waits who (SetTimes uid times) (times_change s uid times reply).reads
  times_waits who uid times TimesSet = all_wait who (SetTimes uid times)
  times_waits who uid times reply = all_wait who (SetTimes uid times)

  leave_waits : (who : ℕ) (reply : Reply) → Waits who Leave (leave_change s reply).reads
  leave_waits who (Left readers) = all_wait who Leave
  leave_waits who reply = all_wait who Leave

  rest_waits : (at who : ℕ) (event : Event) (reply : Reply) → Waits who event (rest_change at s who event reply).reads
  rest_waits at who (Ask block uid moment) reply = ask_waits who block uid moment reply
  rest_waits at who (Poll serial moment) reply = poll_waits who serial moment reply
  rest_waits at who (Cancel serial) reply = cancel_waits who serial reply
  rest_waits at who (Claim window places) reply = all_wait who (Claim window places)
  rest_waits at who (PutData window index digest) reply = put_data_waits who at window index digest reply
  rest_waits at who (PutPlace window index) reply = put_place_waits who at window index reply
  rest_waits at who (Settle window) reply = settle_waits who at window reply
  rest_waits at who (Gate window index) reply = gate_waits who at window index (flight_row index s.flight) reply
  rest_waits at who (Release window) reply = all_wait who (Release window)
  rest_waits at who (TakePending after most) reply = all_wait who (TakePending after most)
  rest_waits at who (SetTimes uid times) reply = times_waits who uid times reply
  rest_waits at who (Ranges start end room) reply = all_wait who (Ranges start end room)
  rest_waits at who Count reply = all_wait who Count
  rest_waits at who Leave reply = leave_waits who reply

-- ---- the laws

module _ (old new : FileState) (told : Bool) (at who : ℕ) (event : Event) (reply : Reply) (step : Step at told old who event reply new) where
  pub acknowledges_synced : (index : ℕ) → has index new.acknowledged ≡ true → (has index old.acknowledged ≡ true) ⊎ (HasSynced event reply × Any (GatedRow index) old.flight)
  acknowledges_synced index h = rest_acknowledged old at who event reply index (subst (λ (s : FileState). has index s.acknowledged ≡ true) step.after h)

  pub opens_by_gate : (WasGated reply → ⊥) → new.map ≡ old.map
  opens_by_gate never = ap (λ (s : FileState). s.map) step.after ∙ rest_map old at who event reply never

  pub begins_by_gate : (IsGate event → ⊥) ⊎ (Began reply → ⊥) → new.begun ≡ old.begun
  begins_by_gate never = ap (λ (s : FileState). s.begun) step.after ∙ rest_begun old at who event reply never

  pub fails_for_good : (position : ℕ) → old.failed ≡ Some position → IsOver old new
  fails_for_good position failed =
      let h = rest_over old position failed told at who event reply step.allowed.fits in
      record {
        failed = ap (λ (s : FileState). s.failed) step.after ∙ h.failed;
        map = ap (λ (s : FileState). s.map) step.after ∙ h.map;
        begun = ap (λ (s : FileState). s.begun) step.after ∙ h.begun;
        acknowledged = ap (λ (s : FileState). s.acknowledged) step.after ∙ h.acknowledged;
      }

  pub reads_stay : All (λ row. IsStillWaiting new row ⊎ (names_read who event row ≡ true)) old.reads
  reads_stay = subst (λ (s : FileState). All (λ row. IsStillWaiting s row ⊎ (names_read who event row ≡ true)) old.reads) (sym step.after) (rest_waits old at who event reply)
