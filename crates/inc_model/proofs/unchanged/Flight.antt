-- What one step leaves as it is: rows in flight, acknowledgements, the map, reads.
use Rattle.std.proofs.Common.{◌≡◌, ℕ, zero, suc, ◌⊎◌, Bool, true, false, not, cond, eqb, List, [], ◌∷◌, get_or, Option, Some, None, refl, sym, ap, subst, ◌∙◌, arith, inl, inr}
use Rattle.std.specs.Prelude.{All, Any, Contains, filter, map}
use Rattle.std.proofs.lemmas.Bool.{or_left, eq-eqb, true≢false, true_from_ne_false}
use Rattle.std.proofs.lemmas.List.Elements.{All-contains, All-contains_itself}
use Rattle.inc_pending.specs.declared.timeouts.Times.{Times}
use Rattle.inc_model.specs.declared.words.event.Event.{Event}
use Rattle.inc_model.specs.declared.words.event.Event.TheVariants.{Ask, Poll, Cancel, Claim, PutData, PutPlace, Settle, Gate, Release, TakePending, SetTimes, Ranges, Count, Leave}
use Rattle.inc_model.specs.declared.words.event.Window.{Window}
use Rattle.inc_model.specs.declared.words.file_state.FileState.{FileState}
use Rattle.inc_model.specs.declared.words.file_state.FlightRow.{FlightRow}
use Rattle.inc_model.specs.declared.words.file_state.Stage.TheVariants.{Placed as placed_stage, Gated as gated_stage}
use Rattle.inc_model.specs.declared.words.reply.Reply.{Reply}
use Rattle.inc_model.specs.declared.words.reply.Reply.TheVariants.{Asked, NoPath, Handed, TimedOut, Fault, Cancelled, Put, Placed, Settled, Gated, TimesSet, Left}
use Rattle.inc_model.specs.relation.State.{has, flight_row, land, is_same, with_index}
use Rattle.inc_model.specs.relation.Stages.{is_gated, written, placed_row, gated_row, synced_flight, synced_row, acknowledge}
use Rattle.inc_model.specs.relation.Changes.{ask_change, poll_change, cancel_change, put_data_change, put_place_change, settle_change, gate_change, release_change, times_change, leave_change, rest_change, change}
use Rattle.inc_model.specs.relation.Step.{Step}
use Rattle.inc_model.specs.laws.StageLaws.{IsStillFlying, LeavesFlight}
use Rattle.inc_model.specs.laws.StageLaws.LeavesFlight.{Released as by_release, Acknowledged as by_sync}
use Rattle.inc_model.proofs.lists.Members.{any_of, filter_has, map_has, fly_has}
use Rattle.inc_model.proofs.lists.Sets.{has_add}
use Rattle.inc_model.proofs.facts_kept.Settle.{acknowledge_more}

-- ---- rows in flight

abbrev SameFill : FlightRow → FlightRow → Type 0
SameFill row other = (other.window ≡ row.window) × (other.index ≡ row.index) × (other.digest ≡ row.digest)

abbrev StaysIn : FileState → FlightRow → Type 0
StaysIn new row = Any (SameFill row) new.flight

placed_same : (b : Bool) (row : FlightRow) → SameFill row (cond b (record row { stage = placed_stage }) row)
placed_same true row = (refl, refl, refl)
placed_same false row = (refl, refl, refl)

gated_same : (b : Bool) (row : FlightRow) → SameFill row (cond b (record row { stage = gated_stage }) row)
gated_same true row = (refl, refl, refl)
gated_same false row = (refl, refl, refl)

pub acknowledge_gated : (flight : List FlightRow) (indices : List ℕ) → All (λ row. is_gated row.stage ≡ true → has row.index (acknowledge flight indices) ≡ true) flight
acknowledge_gated [] indices k d lt g = absurd (omega arith)
acknowledge_gated (row ∷ rows) indices zero d lt g =
    acknowledge_more row.index rows (cond (is_gated row.stage) (with_index row.index indices) indices) (subst (λ (b : Bool). has row.index (cond b (with_index row.index indices) indices) ≡ true) (sym g) (has_add row.index row.index indices ∙ or_left (eqb row.index row.index) (has row.index indices) (eq-eqb row.index row.index refl)))
acknowledge_gated (row ∷ rows) indices (suc k) d lt g = acknowledge_gated rows (cond (is_gated row.stage) (with_index row.index indices) indices) k d (omega arith) g

abbrev still : FlightRow → Bool
still row = not (is_gated row.stage)

abbrev others : Window → FlightRow → Bool
others window row = not (is_same window row.window)

module _ (s : FileState) where
  abbrev Stays : Event → Reply → FileState → Type 0
  Stays event reply new = All (λ row. IsStillFlying new row ⊎ LeavesFlight new event reply row) s.flight

  -- a row of the same fill in the new list
  from : (event : Event) (reply : Reply) (new : FileState) (f : FlightRow → FlightRow) → ((row : FlightRow) → SameFill row (f row)) → All (λ row. Contains new.flight (f row)) s.flight → Stays event reply new
  from event reply new f same h = λ k d lt. inl (any_of (SameFill (get_or s.flight k d)) new.flight (f (get_or s.flight k d)) (h k d lt) (same (get_or s.flight k d)))

  as_it_was : (event : Event) (reply : Reply) (new : FileState) → new.flight ≡ s.flight → Stays event reply new
  as_it_was event reply new e = from event reply new (λ row. row) (λ row. (refl, refl, refl)) (λ k d lt. subst (λ (l : List FlightRow). Contains l (get_or s.flight k d)) (sym e) (All-contains_itself s.flight k d lt))

  ask_flight : (who block uid at : ℕ) (reply : Reply) → (ask_change s who block uid at reply).flight ≡ s.flight
  ask_flight who block uid at (Asked serial) = refl
  ask_flight who block uid at reply = refl

  poll_flight : (who serial : ℕ) (reply : Reply) → (poll_change s who serial reply).flight ≡ s.flight
  poll_flight who serial (NoPath hash) = refl
  poll_flight who serial (Handed digest) = refl
  poll_flight who serial (TimedOut deadline) = refl
  poll_flight who serial (Fault count) = refl
  poll_flight who serial reply = refl

  cancel_flight : (who serial : ℕ) (reply : Reply) → (cancel_change s who serial reply).flight ≡ s.flight
  cancel_flight who serial Cancelled = refl
  cancel_flight who serial reply = refl

  times_flight : (uid : ℕ) (times : Times) (reply : Reply) → (times_change s uid times reply).flight ≡ s.flight
  times_flight uid times TimesSet = refl
  times_flight uid times reply = refl

  leave_flight : (reply : Reply) → (leave_change s reply).flight ≡ s.flight
  leave_flight (Left readers) = refl
  leave_flight reply = refl

  put_data_keeps : (event : Event) (at : ℕ) (window : Window) (index : ℕ) (digest : List ℕ) (reply : Reply) → Stays event reply (put_data_change at s window index digest reply)
  put_data_keeps event at window index digest (Put place given) =
      from event (Put place given) (put_data_change at s window index digest (Put place given)) (λ row. row) (λ row. (refl, refl, refl)) (fly_has (written window index digest) s.flight)
  put_data_keeps event at window index digest (Fault count) = as_it_was event (Fault count) (put_data_change at s window index digest (Fault count)) refl
  put_data_keeps event at window index digest reply = as_it_was event reply s refl

  put_place_keeps : (event : Event) (at index : ℕ) (reply : Reply) → Stays event reply (put_place_change at s index reply)
  put_place_keeps event at index Placed = from event Placed (put_place_change at s index Placed) (placed_row index) (λ row. placed_same (eqb row.index index) row) (map_has (placed_row index) s.flight)
  put_place_keeps event at index (Fault count) = as_it_was event (Fault count) (put_place_change at s index (Fault count)) refl
  put_place_keeps event at index reply = as_it_was event reply s refl

  settle_keeps : (at : ℕ) (window : Window) (reply : Reply) → Stays (Settle window) reply (settle_change at s reply)
  settle_keeps at window Settled = λ k d lt. step (get_or s.flight k d) (acknowledge_gated s.flight s.acknowledged k d lt) (filter_has still s.flight k d lt)
    where
      step : (row : FlightRow) → (is_gated row.stage ≡ true → has row.index (acknowledge s.flight s.acknowledged) ≡ true) → Contains (filter still s.flight) row ⊎ (still row ≡ false) → IsStillFlying (settle_change at s Settled) row ⊎ LeavesFlight (settle_change at s Settled) (Settle window) Settled row
      step row acked (inl there) = inl (any_of (SameFill row) (synced_flight s.flight) (synced_row row) (All-contains (λ r. Contains (map synced_row (filter still s.flight)) (synced_row r)) (filter still s.flight) row (map_has synced_row (filter still s.flight)) there) (refl, refl, refl))
      step row acked (inr out) = let g = true_from_ne_false (is_gated row.stage) (λ no. absurd (true≢false (sym (ap not no) ∙ out))) in inr (by_sync (record { event_is = tt; reply_is = refl }) g (acked g))
  settle_keeps at window (Fault count) = as_it_was (Settle window) (Fault count) (settle_change at s (Fault count)) refl
  settle_keeps at window reply = as_it_was (Settle window) reply s refl

  gate_keeps : (event : Event) (at index : ℕ) (found : Option FlightRow) (reply : Reply) → Stays event reply (gate_change at s index found reply)
  gate_keeps event at index None reply = as_it_was event reply s refl
  gate_keeps event at index (Some row) (Gated count) = from event (Gated count) (gate_change at s index (Some row) (Gated count)) (gated_row index) (λ r. gated_same (eqb r.index index) r) (map_has (gated_row index) s.flight)
  gate_keeps event at index (Some row) (Fault count) = as_it_was event (Fault count) (gate_change at s index (Some row) (Fault count)) refl
  gate_keeps event at index (Some row) reply = as_it_was event reply s refl

  release_keeps : (window : Window) (reply : Reply) → Stays (Release window) reply (release_change s window)
  release_keeps window reply = λ k d lt. step (get_or s.flight k d) (filter_has (others window) s.flight k d lt)
    where
      step : (row : FlightRow) → Contains (filter (others window) s.flight) row ⊎ (others window row ≡ false) → IsStillFlying (release_change s window) row ⊎ LeavesFlight (release_change s window) (Release window) reply row
      step row (inl there) = inl (any_of (SameFill row) (land window s.flight) row there (refl, refl, refl))
      step row (inr out) = inr (by_release (true_from_ne_false (is_same window row.window) (λ no. absurd (true≢false (sym (ap not no) ∙ out)))))

  rest_keeps : (at who : ℕ) (event : Event) (reply : Reply) → Stays event reply (rest_change at s who event reply)
  rest_keeps at who (Ask block uid moment) reply = as_it_was (Ask block uid moment) reply (ask_change s who block uid moment reply) (ask_flight who block uid moment reply)
  rest_keeps at who (Poll serial moment) reply = as_it_was (Poll serial moment) reply (poll_change s who serial reply) (poll_flight who serial reply)
  rest_keeps at who (Cancel serial) reply = as_it_was (Cancel serial) reply (cancel_change s who serial reply) (cancel_flight who serial reply)
  rest_keeps at who (Claim window places) reply = as_it_was (Claim window places) reply s refl
  rest_keeps at who (PutData window index digest) reply = put_data_keeps (PutData window index digest) at window index digest reply
  rest_keeps at who (PutPlace window index) reply = put_place_keeps (PutPlace window index) at index reply
  rest_keeps at who (Settle window) reply = settle_keeps at window reply
  rest_keeps at who (Gate window index) reply = gate_keeps (Gate window index) at index (flight_row index s.flight) reply
  rest_keeps at who (Release window) reply = release_keeps window reply
  rest_keeps at who (TakePending after most) reply = as_it_was (TakePending after most) reply s refl
  rest_keeps at who (SetTimes uid times) reply = as_it_was (SetTimes uid times) reply (times_change s uid times reply) (times_flight uid times reply)
  rest_keeps at who (Ranges start end room) reply = as_it_was (Ranges start end room) reply s refl
  rest_keeps at who Count reply = as_it_was Count reply s refl
  rest_keeps at who Leave reply = as_it_was Leave reply (leave_change s reply) (leave_flight reply)

-- the claimed places don't matter
leaves_too : (new : FileState) (event : Event) (reply : Reply) (row : FlightRow) (other : FileState) → new.flight ≡ other.flight → new.acknowledged ≡ other.acknowledged → IsStillFlying new row ⊎ LeavesFlight new event reply row → IsStillFlying other row ⊎ LeavesFlight other event reply row
leaves_too new event reply row other same acked (inl flying) = inl (subst (λ (l : List FlightRow). Any (SameFill row) l) same flying)
leaves_too new event reply row other same acked (inr (by_release r)) = inr (by_release r)
leaves_too new event reply row other same acked (inr (by_sync synced g h)) = inr (by_sync synced g (subst (λ (l : List ℕ). has row.index l ≡ true) acked h))

pub leaves_only : (old new : FileState) (told : Bool) (at who : ℕ) (event : Event) (reply : Reply) → Step at told old who event reply new → All (λ row. IsStillFlying new row ⊎ LeavesFlight new event reply row) old.flight
leaves_only old new told at who event reply step =
    subst (λ (s : FileState). All (λ row. IsStillFlying s row ⊎ LeavesFlight s event reply row) old.flight) (sym step.after)
    (λ k d lt. leaves_too (rest_change at old who event reply) event reply (get_or old.flight k d) (change at old who event reply) refl refl (rest_keeps old at who event reply k d lt))
