-- One step changes a fill by stages alone.
use Rattle.std.proofs.Common.{◌≡◌, ℕ, ◌⊎◌, Bool, true, false, not, cond, eqb, List, get_or, Option, Some, None, refl, sym, ap, subst, ◌∙◌, inl, inr}
use Rattle.std.specs.Prelude.{All, Contains, filter, count_by}
use Rattle.std.proofs.lemmas.Bool.{eqb-true, false≢true}
use Rattle.std.proofs.lemmas.List.Elements.{All-map, All-filter, All-contains_itself, filter_passes}
use Rattle.inc_pending.specs.Polling.{waits_on}
use Rattle.inc_pending.specs.declared.timeouts.Times.{Times}
use Rattle.inc_model.specs.declared.words.event.Event.{Event}
use Rattle.inc_model.specs.declared.words.event.Event.TheVariants.{Ask, Poll, Cancel, Claim, PutData, PutPlace, Settle, Gate, Release, TakePending, SetTimes, Ranges, Count, Leave}
use Rattle.inc_model.specs.declared.words.event.Window.{Window}
use Rattle.inc_model.specs.declared.words.file_state.FileState.{FileState}
use Rattle.inc_model.specs.declared.words.file_state.FlightRow.{FlightRow}
use Rattle.inc_model.specs.declared.words.file_state.Stage.{Stage}
use Rattle.inc_model.specs.declared.words.file_state.Stage.TheVariants.{Written as written_stage, Placed as placed_stage, Settled as settled_stage, Gated as gated_stage}
use Rattle.inc_model.specs.declared.words.reply.Reply.{Reply}
use Rattle.inc_model.specs.declared.words.reply.Reply.TheVariants.{Asked, NoPath, Handed, TimedOut, Fault, Cancelled, Put, Placed, Settled, Gated, TimesSet, Left}
use Rattle.inc_model.specs.relation.State.{flight_row, is_same, FlightRises}
use Rattle.inc_model.specs.relation.Stages.{settled_stage as settles_to, is_written, is_settled, is_gated, is_at, written, placed_row, gated_row, synced_row}
use Rattle.inc_model.specs.relation.Table.{reply_of, unless_failed, place_reply, gate_reply}
use Rattle.inc_model.specs.relation.Changes.{ask_change, poll_change, cancel_change, put_data_change, put_place_change, settle_change, gate_change, times_change, leave_change, rest_change}
use Rattle.inc_model.specs.relation.Step.{Fits, Step}
use Rattle.inc_model.specs.relation.Facts.{FileFacts}
use Rattle.inc_model.specs.laws.StageLaws.{as_stage, CameTo}
use Rattle.inc_model.proofs.lists.Claims.{same_is}
use Rattle.inc_model.proofs.facts_kept.Fill.{at_stage, placed_by, gated_by}
use Rattle.inc_model.proofs.lists.Flight.{fly_all, row_alone}
use Rattle.inc_model.proofs.lists.Sets.{both}

-- ---- each row in flight came to its stage from the one before

abbrev Came : FileState → Event → Reply → FlightRow → Type 0
Came old event reply row = Contains old.flight row ⊎ CameTo old event reply row row.stage

-- a row with its own stage
own_stage : (row : FlightRow) (stage : Stage) → row.stage ≡ stage → as_stage stage row ≡ row
own_stage row stage e = ap (λ (s : Stage). as_stage s row) (sym e)

written_is : (stage : Stage) → is_written stage ≡ true → stage ≡ written_stage
written_is written_stage e = refl
written_is placed_stage e = absurd (cc)
written_is settled_stage e = absurd (cc)
written_is gated_stage e = absurd (cc)

settled_is : (stage : Stage) → is_settled stage ≡ true → stage ≡ settled_stage
settled_is written_stage e = absurd (cc)
settled_is placed_stage e = absurd (cc)
settled_is settled_stage e = refl
settled_is gated_stage e = absurd (cc)

module _ (s : FileState) where
  stay : (event : Event) (reply : Reply) → All (Came s event reply) s.flight
  stay event reply = λ k d lt. inl (All-contains_itself s.flight k d lt)

  ask_came : (event : Event) (who block uid at : ℕ) (reply : Reply) → All (Came s event reply) (ask_change s who block uid at reply).flight
  ask_came event who block uid at (Asked serial) = stay event (Asked serial)
  ask_came event who block uid at reply = stay event reply

  poll_came : (event : Event) (who serial : ℕ) (reply : Reply) → All (Came s event reply) (poll_change s who serial reply).flight
  poll_came event who serial (NoPath hash) = stay event (NoPath hash)
  poll_came event who serial (Handed digest) = stay event (Handed digest)
  poll_came event who serial (TimedOut deadline) = stay event (TimedOut deadline)
  poll_came event who serial (Fault count) = stay event (Fault count)
  poll_came event who serial reply = stay event reply

  cancel_came : (event : Event) (who serial : ℕ) (reply : Reply) → All (Came s event reply) (cancel_change s who serial reply).flight
  cancel_came event who serial Cancelled = stay event Cancelled
  cancel_came event who serial reply = stay event reply

  times_came : (event : Event) (uid : ℕ) (times : Times) (reply : Reply) → All (Came s event reply) (times_change s uid times reply).flight
  times_came event uid times TimesSet = stay event TimesSet
  times_came event uid times reply = stay event reply

  leave_came : (event : Event) (reply : Reply) → All (Came s event reply) (leave_change s reply).flight
  leave_came event (Left readers) = stay event (Left readers)
  leave_came event reply = stay event reply

  put_data_came : (at : ℕ) (window : Window) (index : ℕ) (digest : List ℕ) (reply : Reply) → All (Came s (PutData window index digest) reply) (put_data_change at s window index digest reply).flight
  put_data_came at window index digest (Put place given) =
      let event = PutData window index digest in
      fly_all (Came s event (Put place given)) (written window index digest) s.flight (inr (refl, tt)) (stay event (Put place given))
  put_data_came at window index digest (Fault count) = stay (PutData window index digest) (Fault count)
  put_data_came at window index digest reply = stay (PutData window index digest) reply

  -- the row of this index is the one that was found
  module _ (window : Window) (index : ℕ) (found row : FlightRow) (own : is_same window found.window ≡ true) (alone : row.index ≡ index → row ≡ found) (there : Contains s.flight row) where
    its_window : row.index ≡ index → window ≡ row.window
    its_window e = same_is window found.window own ∙ ap (λ (r : FlightRow). r.window) (sym (alone e))

    placed_came : is_written found.stage ≡ true → (b : Bool) → eqb row.index index ≡ b → Came s (PutPlace window index) Placed (cond b (as_stage placed_stage row) row)
    placed_came stage true t =
        let e = eqb-true row.index index t in
        let was : row.stage ≡ written_stage = ap (λ (r : FlightRow). r.stage) (alone e) ∙ written_is found.stage stage in
        let before : Contains s.flight (as_stage written_stage row) = subst (Contains s.flight) (sym (own_stage row written_stage was)) there in
        let event_is : PutPlace window index ≡ PutPlace row.window row.index = ap (λ (w : Window). PutPlace w index) (its_window e) ∙ ap (λ i. PutPlace row.window i) (sym e) in
        inr (before, event_is, refl)
    placed_came stage false t = inl there

    gated_came : is_settled found.stage ≡ true → (count : ℕ) (b : Bool) → eqb row.index index ≡ b → Came s (Gate window index) (Gated count) (cond b (as_stage gated_stage row) row)
    gated_came stage count true t =
        let e = eqb-true row.index index t in
        let was : row.stage ≡ settled_stage = ap (λ (r : FlightRow). r.stage) (alone e) ∙ settled_is found.stage stage in
        let before : Contains s.flight (as_stage settled_stage row) = subst (Contains s.flight) (sym (own_stage row settled_stage was)) there in
        let event_is : Gate window index ≡ Gate row.window row.index = ap (λ (w : Window). Gate w index) (its_window e) ∙ ap (λ i. Gate row.window i) (sym e) in
        inr (before, event_is, tt)
    gated_came stage count false t = inl there

  put_place_came : (told : Bool) (at : ℕ) (window : Window) (index : ℕ) (reply : Reply) → FlightRises s.flight → Fits told s.faults (unless_failed s.failed (place_reply (is_at is_written window (flight_row index s.flight)))) reply
      → All (Came s (PutPlace window index) reply) (put_place_change at s index reply).flight
  put_place_came told at window index Placed once fits =
      let mine = at_stage is_written window (flight_row index s.flight) (placed_by s.failed (is_at is_written window (flight_row index s.flight)) fits) in
      All-map (Came s (PutPlace window index) Placed) (placed_row index) s.flight
      (λ k d lt. placed_came window index mine.row (get_or s.flight k d) mine.own (row_alone index s.flight mine.row once mine.is k d lt) (All-contains_itself s.flight k d lt) mine.stage_is (eqb (get_or s.flight k d).index index) refl)
  put_place_came told at window index (Fault count) once fits = stay (PutPlace window index) (Fault count)
  put_place_came told at window index reply once fits = stay (PutPlace window index) reply

  settled_came : (window : Window) (row : FlightRow) (stage : Stage) → row.stage ≡ stage → Contains s.flight row → not (is_gated stage) ≡ true → Came s (Settle window) Settled (synced_row row)
  settled_came window row written_stage e there still = let P : Stage → Type 0 = λ st. Came s (Settle window) Settled (record row { stage = settles_to st }) in subst P (sym e) (inl (subst (Contains s.flight) (sym (own_stage row written_stage e)) there))
  settled_came window row placed_stage e there still =
      let P : Stage → Type 0 = λ st. Came s (Settle window) Settled (record row { stage = settles_to st }) in
      subst P (sym e) (inr (subst (Contains s.flight) (sym (own_stage row placed_stage e)) there, record { event_is = tt; reply_is = refl }))
  settled_came window row settled_stage e there still = let P : Stage → Type 0 = λ st. Came s (Settle window) Settled (record row { stage = settles_to st }) in subst P (sym e) (inl (subst (Contains s.flight) (sym (own_stage row settled_stage e)) there))
  settled_came window row gated_stage e there still = absurd (false≢true still)

  settle_came : (at : ℕ) (window : Window) (reply : Reply) → All (Came s (Settle window) reply) (settle_change at s reply).flight
  settle_came at window Settled =
      let still : FlightRow → Bool = λ row. not (is_gated row.stage) in
      All-map (Came s (Settle window) Settled) synced_row (filter still s.flight)
      (both (Contains s.flight) (λ row. still row ≡ true) (λ row. Came s (Settle window) Settled (synced_row row)) (λ row there passes. settled_came window row row.stage refl there passes) (filter still s.flight)
      (All-filter still (Contains s.flight) s.flight (All-contains_itself s.flight)) (filter_passes still s.flight))
  settle_came at window (Fault count) = stay (Settle window) (Fault count)
  settle_came at window reply = stay (Settle window) reply

  gate_came : (told : Bool) (at : ℕ) (window : Window) (index waiting : ℕ) (reply : Reply) → FlightRises s.flight → Fits told s.faults (unless_failed s.failed (gate_reply (is_at is_settled window (flight_row index s.flight)) waiting)) reply → (found : Option FlightRow) → flight_row index s.flight ≡ found
      → All (Came s (Gate window index) reply) (gate_change at s index found reply).flight
  gate_came told at window index waiting reply once fits None is = stay (Gate window index) reply
  gate_came told at window index waiting (Gated count) once fits (Some row) is =
      let mine = at_stage is_settled window (flight_row index s.flight) (gated_by s.failed (is_at is_settled window (flight_row index s.flight)) waiting count fits).0 in
      All-map (Came s (Gate window index) (Gated count)) (gated_row index) s.flight
      (λ k d lt. gated_came window index mine.row (get_or s.flight k d) mine.own (row_alone index s.flight mine.row once mine.is k d lt) (All-contains_itself s.flight k d lt) mine.stage_is count (eqb (get_or s.flight k d).index index) refl)
  gate_came told at window index waiting (Fault count) once fits (Some row) is = stay (Gate window index) (Fault count)
  gate_came told at window index waiting reply once fits (Some row) is = stay (Gate window index) reply

  rest_came : (told : Bool) (at who : ℕ) (event : Event) (reply : Reply) → FlightRises s.flight → Fits told s.faults (reply_of s who event) reply → All (Came s event reply) (rest_change at s who event reply).flight
  rest_came told at who (Ask block uid moment) reply once fits = ask_came (Ask block uid moment) who block uid moment reply
  rest_came told at who (Poll serial moment) reply once fits = poll_came (Poll serial moment) who serial reply
  rest_came told at who (Cancel serial) reply once fits = cancel_came (Cancel serial) who serial reply
  rest_came told at who (Claim window places) reply once fits = stay (Claim window places) reply
  rest_came told at who (PutData window index digest) reply once fits = put_data_came at window index digest reply
  rest_came told at who (PutPlace window index) reply once fits = put_place_came told at window index reply once fits
  rest_came told at who (Settle window) reply once fits = settle_came at window reply
  rest_came told at who (Gate window index) reply once fits = gate_came told at window index (count_by (waits_on index) s.reads) reply once fits (flight_row index s.flight) refl
  rest_came told at who (Release window) reply once fits = All-filter (λ (row : FlightRow). not (is_same window row.window)) (Came s (Release window) reply) s.flight (stay (Release window) reply)
  rest_came told at who (TakePending after most) reply once fits = stay (TakePending after most) reply
  rest_came told at who (SetTimes uid times) reply once fits = times_came (SetTimes uid times) uid times reply
  rest_came told at who (Ranges start end room) reply once fits = stay (Ranges start end room) reply
  rest_came told at who Count reply once fits = stay Count reply
  rest_came told at who Leave reply once fits = leave_came Leave reply

pub advances : (first old new : FileState) (told : Bool) (at who : ℕ) (event : Event) (reply : Reply) → FileFacts first old → Step at told old who event reply new → All (Came old event reply) new.flight
advances first old new told at who event reply f step = subst (λ (s : FileState). All (Came old event reply) s.flight) (sym step.after) (rest_came old told at who event reply f.flying.once step.allowed.fits)
