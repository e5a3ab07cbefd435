-- What the entries of other seats leave of a row in flight.
use Rattle.std.proofs.Common.{◌≡◌, ℕ, ◌+◌, Bool, true, false, not, ◌&&◌, cond, eqb, leb, List, [], ◌∷◌, Option, Some, None, refl, sym, ap, subst, ◌∙◌, inl, inr}
use Rattle.std.specs.Prelude.{filter, count_by}
use Rattle.std.proofs.lemmas.Bool.{eqb-true, eq-eqb, true≢false, false_from_ne_true}
use Rattle.inc_pending.specs.Polling.{waits_on}
use Rattle.inc_pending.specs.declared.timeouts.Times.{Times}
use Rattle.inc_model.specs.declared.words.event.Event.{Event}
use Rattle.inc_model.specs.declared.words.event.Event.TheVariants.{Ask, Poll, Cancel, Claim, PutData, PutPlace, Settle, Gate, Release, TakePending, SetTimes, Ranges, Count, Leave}
use Rattle.inc_model.specs.declared.words.event.Window.{Window}
use Rattle.inc_model.specs.declared.words.file_state.FileState.{FileState}
use Rattle.inc_model.specs.declared.words.file_state.FlightRow.{FlightRow}
use Rattle.inc_model.specs.declared.words.file_state.Stage.{Stage}
use Rattle.inc_model.specs.declared.words.file_state.Stage.TheVariants.{Written as written_stage, Placed as placed_stage, Settled as settled_at, Gated as gated_stage}
use Rattle.inc_model.specs.declared.words.reply.Entry.{Entry}
use Rattle.inc_model.specs.declared.words.reply.Reply.{Reply}
use Rattle.inc_model.specs.declared.words.reply.Reply.TheVariants.{Asked, NoPath, Handed, TimedOut, Fault, Cancelled, Put, Placed, Settled, Gated, TimesSet, Left}
use Rattle.inc_model.specs.relation.State.{has, is_in, flight_row, is_same}
use Rattle.inc_model.specs.relation.Stages.{settled_stage as settles_to, is_at, is_written, is_settled, is_gated, written, placed_row, gated_row, synced_row, synced_flight}
use Rattle.inc_model.specs.relation.Table.{reply_of, unless_failed, place_reply, gate_reply}
use Rattle.inc_model.specs.relation.Changes.{window_of, ask_change, poll_change, cancel_change, put_data_change, put_place_change, settle_change, gate_change, times_change, leave_change, rest_change, change}
use Rattle.inc_model.specs.relation.Step.{Fits, IsAllowed, IsLegal, IsOwn, after_entry, state_after}
use Rattle.inc_model.specs.laws.HistoryLaws.{are_others}
use Rattle.inc_model.specs.laws.StageLaws.{as_stage}
use Rattle.inc_model.specs.laws.OthersLaws.{IsLeftAs}
use Rattle.inc_model.proofs.lists.Claims.{same_is}
use Rattle.inc_model.proofs.lists.Finds.{find_filter, find_map}
use Rattle.inc_model.proofs.lists.Flight.{row_found, row_fly, index-placed, index-gated}
use Rattle.inc_model.proofs.facts_kept.Fill.{put_by, placed_by, gated_by, at_stage}
use Rattle.inc_model.proofs.runs.Others.{other_seat}
use Rattle.inc_model.proofs.unchanged.Flight.{acknowledge_gated}
use Rattle.inc_model.proofs.unchanged.Map.{rest_stays_acknowledged}

-- a row that is found as it was
found_still : (t : FileState) (row : FlightRow) (stage : Stage) → flight_row row.index t.flight ≡ Some row → IsLeftAs t row stage
found_still t row written_stage e = e
found_still t row placed_stage e = inl e
found_still t row settled_at e = e
found_still t row gated_stage e = inl e

-- the claimed places don't matter
left_too : (t u : FileState) (row : FlightRow) (stage : Stage) → u.flight ≡ t.flight → u.acknowledged ≡ t.acknowledged → IsLeftAs t row stage → IsLeftAs u row stage
left_too t u row written_stage f a h = ap (λ (l : List FlightRow). flight_row row.index l) f ∙ h
left_too t u row placed_stage f a (inl h) = inl (ap (λ (l : List FlightRow). flight_row row.index l) f ∙ h)
left_too t u row placed_stage f a (inr h) = inr (ap (λ (l : List FlightRow). flight_row row.index l) f ∙ h)
left_too t u row settled_at f a h = ap (λ (l : List FlightRow). flight_row row.index l) f ∙ h
left_too t u row gated_stage f a (inl h) = inl (ap (λ (l : List FlightRow). flight_row row.index l) f ∙ h)
left_too t u row gated_stage f a (inr h) = inr (ap (λ (l : List ℕ). has row.index l) a ∙ h)

module _ (s : FileState) (w : ℕ) (row : FlightRow) (apart : w ≡ row.window.who → ⊥) (is : flight_row row.index s.flight ≡ Some row) where
  abbrev IsLeft : FileState → Type 0
  IsLeft t = IsLeftAs t row row.stage

  same : (t : FileState) → t.flight ≡ s.flight → IsLeft t
  same t e = found_still t row row.stage (ap (λ (l : List FlightRow). flight_row row.index l) e ∙ is)

  -- a window of the other seat isn't the row's
  not_own : (window : Window) → window.who ≡ w → is_same window row.window ≡ true → ⊥
  not_own window own t = apart (sym own ∙ ap (λ (v : Window). v.who) (same_is window row.window t))

  ask_left : (block uid at : ℕ) (reply : Reply) → IsLeft (ask_change s w block uid at reply)
  ask_left block uid at (Asked given) = same (ask_change s w block uid at (Asked given)) refl
  ask_left block uid at reply = same s refl

  poll_left : (there : ℕ) (reply : Reply) → IsLeft (poll_change s w there reply)
  poll_left there (NoPath hash) = same (poll_change s w there (NoPath hash)) refl
  poll_left there (Handed digest) = same (poll_change s w there (Handed digest)) refl
  poll_left there (TimedOut deadline) = same (poll_change s w there (TimedOut deadline)) refl
  poll_left there (Fault count) = same (poll_change s w there (Fault count)) refl
  poll_left there reply = same s refl

  cancel_left : (there : ℕ) (reply : Reply) → IsLeft (cancel_change s w there reply)
  cancel_left there Cancelled = same (cancel_change s w there Cancelled) refl
  cancel_left there reply = same s refl

  times_left : (uid : ℕ) (times : Times) (reply : Reply) → IsLeft (times_change s uid times reply)
  times_left uid times TimesSet = same (times_change s uid times TimesSet) refl
  times_left uid times reply = same s refl

  leave_left : (reply : Reply) → IsLeft (leave_change s reply)
  leave_left (Left readers) = same (leave_change s (Left readers)) refl
  leave_left reply = same s refl

  -- another index is put
  put_data_left : (told : Bool) (at : ℕ) (window : Window) (index : ℕ) (digest : List ℕ) (reply : Reply) → Fits told s.faults (reply_of s w (PutData window index digest)) reply → IsLeft (put_data_change at s window index digest reply)
  put_data_left told at window index digest (Put place given) h =
      let by = put_by s.failed (leb (s.n + s.m) index) (has index s.damaged) (has index s.compressed) (flight_row index s.flight) (is_in index s.map) digest given h in
      let other : eqb index row.index ≡ false = false_from_ne_true (eqb index row.index) (λ t. true≢false (ap (λ (o : Option FlightRow). is_found o) (sym is ∙ ap (λ i. flight_row i s.flight) (sym (eqb-true index row.index t)) ∙ by.4))) in
      found_still (put_data_change at s window index digest (Put place given)) row row.stage (row_fly row.index (written window index digest) s.flight other ∙ is)
    where
      is_found : Option FlightRow → Bool
      is_found None = false
      is_found (Some r) = true
  put_data_left told at window index digest (Fault count) h = same (put_data_change at s window index digest (Fault count)) refl
  put_data_left told at window index digest reply h = same s refl

  -- a row that the other seat brings to a stage is one of its windows
  not_this : (stage : Stage → Bool) (window : Window) (index : ℕ) → window.who ≡ w → is_at stage window (flight_row index s.flight) ≡ true → eqb row.index index ≡ false
  not_this stage window index own mine = false_from_ne_true (eqb row.index index) (λ t.
      let found : flight_row index s.flight ≡ Some row = ap (λ i. flight_row i s.flight) (sym (eqb-true row.index index t)) ∙ is in
      let at = at_stage stage window (Some row) (subst (λ (o : Option FlightRow). is_at stage window o ≡ true) found mine) in
      let one : row ≡ at.row = ap (λ (o : Option FlightRow). elim o as (λ _. FlightRow) [ Some r ↦ r | None ↦ row ]) at.is in
      not_own window own (ap (λ (r : FlightRow). is_same window r.window) one ∙ at.own))

  put_place_left : (told : Bool) (at : ℕ) (window : Window) (index : ℕ) (reply : Reply) → window.who ≡ w → Fits told s.faults (reply_of s w (PutPlace window index)) reply → IsLeft (put_place_change at s index reply)
  put_place_left told at window index Placed own h =
      let mine = placed_by s.failed (is_at is_written window (flight_row index s.flight)) h in
      let other = not_this is_written window index own mine in
      let found = find_map (λ (r : FlightRow). eqb r.index row.index) (placed_row index) (λ r. ap (λ i. eqb i row.index) (index-placed index r)) s.flight row is in
      found_still (put_place_change at s index Placed) row row.stage (found ∙ ap (λ b. Some (cond b (record row { stage = placed_stage }) row)) other)
  put_place_left told at window index (Fault count) own h = same (put_place_change at s index (Fault count)) refl
  put_place_left told at window index reply own h = same s refl

  gate_left : (told : Bool) (at : ℕ) (window : Window) (index waiting : ℕ) (found : Option FlightRow) (reply : Reply) → window.who ≡ w → Fits told s.faults (unless_failed s.failed (gate_reply (is_at is_settled window (flight_row index s.flight)) waiting)) reply
      → IsLeft (gate_change at s index found reply)
  gate_left told at window index waiting None reply own h = same s refl
  gate_left told at window index waiting (Some flying) (Gated count) own h =
      let mine = (gated_by s.failed (is_at is_settled window (flight_row index s.flight)) waiting count h).0 in
      let other = not_this is_settled window index own mine in
      let found = find_map (λ (r : FlightRow). eqb r.index row.index) (gated_row index) (λ r. ap (λ i. eqb i row.index) (index-gated index r)) s.flight row is in
      found_still (gate_change at s index (Some flying) (Gated count)) row row.stage (found ∙ ap (λ b. Some (cond b (record row { stage = gated_stage }) row)) other)
  gate_left told at window index waiting (Some flying) (Fault count) own h = same (gate_change at s index (Some flying) (Fault count)) refl
  gate_left told at window index waiting (Some flying) reply own h = same s refl

  release_left : (window : Window) → window.who ≡ w → flight_row row.index (filter (λ (r : FlightRow). not (is_same window r.window)) s.flight) ≡ Some row
  release_left window own =
      find_filter (λ (r : FlightRow). eqb r.index row.index) (λ r. not (is_same window r.window)) s.flight row is
      (ap not (false_from_ne_true (is_same window row.window) (not_own window own)))

  -- a sync of any window
  flies : not (is_gated row.stage) ≡ true → flight_row row.index (synced_flight s.flight) ≡ Some (synced_row row)
  flies still =
      find_map (λ (r : FlightRow). eqb r.index row.index) synced_row (λ r. refl) (filter (λ (r : FlightRow). not (is_gated r.stage)) s.flight) row
      (find_filter (λ (r : FlightRow). eqb r.index row.index) (λ r. not (is_gated r.stage)) s.flight row is still)

  synced_left : (at : ℕ) (stage : Stage) → row.stage ≡ stage → IsLeftAs (settle_change at s Settled) row stage
  synced_left at written_stage e = flies (ap (λ st. not (is_gated st)) e) ∙ ap (λ (st : Stage). Some (as_stage (settles_to st) row)) e ∙ ap (λ (st : Stage). Some (as_stage st row)) (sym e)
  synced_left at placed_stage e = inr (flies (ap (λ st. not (is_gated st)) e) ∙ ap (λ (st : Stage). Some (as_stage (settles_to st) row)) e)
  synced_left at settled_at e = flies (ap (λ st. not (is_gated st)) e) ∙ ap (λ (st : Stage). Some (as_stage (settles_to st) row)) e ∙ ap (λ (st : Stage). Some (as_stage st row)) (sym e)
  synced_left at gated_stage e =
      inr ((row_found (λ (r : FlightRow). is_gated r.stage ≡ true → has r.index (settle_change at s Settled).acknowledged ≡ true) row.index s.flight row is (acknowledge_gated s.flight s.acknowledged)).1 (ap is_gated e))

  settle_left : (at : ℕ) (reply : Reply) → IsLeft (settle_change at s reply)
  settle_left at Settled = synced_left at row.stage refl
  settle_left at (Fault count) = same (settle_change at s (Fault count)) refl
  settle_left at reply = same s refl

  rest_left : (told : Bool) (at : ℕ) (event : Event) (reply : Reply) → IsOwn w (window_of event) → Fits told s.faults (reply_of s w event) reply → IsLeft (rest_change at s w event reply)
  rest_left told at (Ask block uid moment) reply own h = ask_left block uid moment reply
  rest_left told at (Poll there moment) reply own h = poll_left there reply
  rest_left told at (Cancel there) reply own h = cancel_left there reply
  rest_left told at (Claim window places) reply own h = same s refl
  rest_left told at (PutData window index digest) reply own h = put_data_left told at window index digest reply h
  rest_left told at (PutPlace window index) reply own h = put_place_left told at window index reply own h
  rest_left told at (Settle window) reply own h = settle_left at reply
  rest_left told at (Gate window index) reply own h = gate_left told at window index (count_by (waits_on index) s.reads) (flight_row index s.flight) reply own h
  rest_left told at (Release window) reply own h = found_still (rest_change at s w (Release window) reply) row row.stage (release_left window own)
  rest_left told at (TakePending after most) reply own h = same s refl
  rest_left told at (SetTimes uid times) reply own h = times_left uid times reply
  rest_left told at (Ranges start end room) reply own h = same s refl
  rest_left told at Count reply own h = same s refl
  rest_left told at Leave reply own h = leave_left reply

  step_left : (told : Bool) (at : ℕ) (event : Event) (reply : Reply) → IsAllowed at told s w event reply → IsLeft (change at s w event reply)
  step_left told at event reply allowed = left_too (rest_change at s w event reply) (change at s w event reply) row row.stage refl refl (rest_left told at event reply allowed.own allowed.fits)

-- ---- histories

acknowledged_stays : (s : FileState) (at : ℕ) (entries : List Entry) (q : ℕ) → has q s.acknowledged ≡ true → has q (state_after at s entries).acknowledged ≡ true
acknowledged_stays s at [] q h = h
acknowledged_stays s at (entry ∷ entries) q h = acknowledged_stays (after_entry at s entry) (at + 1) entries q (rest_stays_acknowledged s at entry.who entry.event entry.reply q h)

module _ (now end : FileState) (row : FlightRow) (kept : flight_row row.index now.flight ≡ Some row → IsLeftAs end row row.stage) (moved : flight_row row.index now.flight ≡ Some (as_stage settled_at row) → flight_row row.index end.flight ≡ Some (as_stage settled_at row))
    (acked : has row.index now.acknowledged ≡ true → has row.index end.acknowledged ≡ true) where
  further_on : (stage : Stage) → row.stage ≡ stage → IsLeftAs now row stage → IsLeftAs end row stage
  further_on written_stage e h = subst (IsLeftAs end row) e (kept h)
  further_on placed_stage e (inl h) = subst (IsLeftAs end row) e (kept h)
  further_on placed_stage e (inr h) = inr (moved h)
  further_on settled_at e h = subst (IsLeftAs end row) e (kept h)
  further_on gated_stage e (inl h) = subst (IsLeftAs end row) e (kept h)
  further_on gated_stage e (inr h) = inr (acked h)

rows_kept : (s : FileState) (told : Bool) (at : ℕ) (entries : List Entry) (row : FlightRow) → IsLegal at told s entries → are_others row.window.who entries ≡ true → flight_row row.index s.flight ≡ Some row → IsLeftAs (state_after at s entries) row row.stage
rows_kept s told at [] row legal others is = found_still s row row.stage is
rows_kept s told at (entry ∷ entries) row legal others is =
    let other = other_seat row.window.who entry entries others in
    let new = after_entry at s entry in
    further_on new (state_after (at + 1) new entries) row
    (λ e. rows_kept new told (at + 1) entries row legal.1 other.1 e)
    (λ e. rows_kept new told (at + 1) entries (as_stage settled_at row) legal.1 other.1 e)
    (acknowledged_stays new (at + 1) entries row.index)
    row.stage refl (step_left s entry.who row other.0 is told at entry.event entry.reply legal.0.allowed)

-- the row of an index has this index
its_index : (index : ℕ) (flight : List FlightRow) (row : FlightRow) → flight_row index flight ≡ Some row → flight_row row.index flight ≡ Some row
its_index index flight row is = ap (λ i. flight_row i flight) (row_found (λ (r : FlightRow). Unit {0}) index flight row is (λ k d lt. tt)).0 ∙ is

pub others_keep_rows : (s : FileState) (told : Bool) (at : ℕ) (entries : List Entry) (index : ℕ) (row : FlightRow) → IsLegal at told s entries → are_others row.window.who entries ≡ true → flight_row index s.flight ≡ Some row
    → IsLeftAs (state_after at s entries) row row.stage
others_keep_rows s told at entries index row legal others is = rows_kept s told at entries row legal others (its_index index s.flight row is)

pub own_put_placed : (s : FileState) (told : Bool) (at : ℕ) (entries : List Entry) (window : Window) (index : ℕ) (digest : List ℕ) → IsLegal at told s entries → are_others window.who entries ≡ true
    → flight_row index s.flight ≡ Some (written window index digest)
    → reply_of (state_after at s entries) window.who (PutPlace window index) ≡ unless_failed (state_after at s entries).failed Placed
own_put_placed s told at entries window index digest legal others is =
    let end = state_after at s entries in
    let left : flight_row index end.flight ≡ Some (written window index digest) = rows_kept s told at entries (written window index digest) legal others is in
    let mine : is_at is_written window (flight_row index end.flight) ≡ true = ap (λ (o : Option FlightRow). is_at is_written window o) left ∙ ap (λ b. b && true) (same_self window) in
    ap (λ b. unless_failed end.failed (place_reply b)) mine
  where
    same_self : (v : Window) → is_same v v ≡ true
    same_self v = ap (λ b. b && eqb v.count v.count) (eq-eqb v.who v.who refl) ∙ eq-eqb v.count v.count refl
