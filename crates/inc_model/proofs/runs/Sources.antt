-- Where each digest of the map comes from, carried along a run.
use Rattle.std.proofs.Common.{◌≡◌, ℕ, ◌⊎◌, Bool, true, false, not, ◌&&◌, cond, eqb, List, [], ◌∷◌, ◌++◌, get_or, Option, Some, None, refl, sym, ap, subst, ◌∙◌, inl, inr, append_assoc, append-nil}
use Rattle.std.specs.Prelude.{All, filter, count_by}
use Rattle.std.specs.List.{list_all}
use Rattle.std.proofs.lemmas.Bool.{eqb-true, and_from, and_parts}
use Rattle.std.proofs.lemmas.List.{get_or_default}
use Rattle.std.proofs.lemmas.List.Elements.{All-nil, All-filter, All-map, filter_passes}
use Rattle.inc_pending.specs.Keyed.{lookup, insert}
use Rattle.inc_pending.specs.Polling.{waits_on}
use Rattle.inc_pending.specs.declared.timeouts.Times.{Times}
use Rattle.inc_pending.proofs.KeyedLemmas.{lookup_insert}
use Rattle.inc_model.specs.declared.words.event.Event.{Event}
use Rattle.inc_model.specs.declared.words.event.Event.TheVariants.{Ask, Poll, Cancel, Claim, PutData, PutPlace, Settle, Gate, Release, TakePending, SetTimes, Ranges, Count, Leave}
use Rattle.inc_model.specs.declared.words.event.Window.{Window}
use Rattle.inc_model.specs.declared.words.file_state.FileState.{FileState}
use Rattle.inc_model.specs.declared.words.file_state.FlightRow.{FlightRow}
use Rattle.inc_model.specs.declared.words.file_state.Stage.TheVariants.{Placed as placed_stage, Gated as gated_stage}
use Rattle.inc_model.specs.declared.words.reply.Entry.{Entry}
use Rattle.inc_model.specs.declared.words.reply.Reply.{Reply}
use Rattle.inc_model.specs.declared.words.reply.Reply.TheVariants.{Asked, NoPath, Handed, TimedOut, Fault, Cancelled, Put, Placed, Settled, Gated, TimesSet, Left}
use Rattle.inc_model.specs.relation.State.{Digests, flight_row, is_same}
use Rattle.inc_model.specs.relation.Stages.{is_at, is_settled, is_gated, written, placed_row, gated, gated_row, synced_row}
use Rattle.inc_model.specs.relation.Table.{reply_of, unless_failed, gate_reply}
use Rattle.inc_model.specs.relation.Changes.{ask_change, poll_change, cancel_change, put_data_change, put_place_change, settle_change, gate_row_change, gate_change, release_change, times_change, leave_change, change}
use Rattle.inc_model.specs.relation.Step.{Fits}
use Rattle.inc_model.specs.relation.Facts.{FileFacts}
use Rattle.inc_model.specs.histories.Worlds.{Moment, Move, Does, Crashes, beginning, after_move, MayMove, world_after, IsWorld}
use Rattle.inc_model.specs.laws.WorldLaws.{PutStands, PutAndGated, IsFlying, ComesFrom, Began, releases, keeps_window}
use Rattle.inc_model.proofs.lists.Claims.{same_is}
use Rattle.inc_model.proofs.facts_kept.Fill.{gated_by, may_gate}
use Rattle.inc_model.proofs.lists.Flight.{fly_all, row_found}
use Rattle.inc_model.proofs.runs.Worlds.{HasFacts, move_stays}
use Rattle.inc_model.proofs.lists.Sets.{both}

-- ---- what each thing that has a digest shows

abbrev RowFrom : FileState → List Move → FlightRow → Type 0
RowFrom start moves row = IsFlying start row.index row.digest ⊎ PutStands moves row.window row.index row.digest

abbrev AllFrom : FileState → List Move → Digests → Type 0
AllFrom start moves digests = (index : ℕ) (digest : List ℕ) → lookup index digests ≡ Some digest → ComesFrom start moves index digest

record Sources (start : FileState) (moves : List Move) (digests begun : Digests) (flight : List FlightRow) : Type 0 where
  opened : AllFrom start moves digests
  began : AllFrom start moves begun
  flying : All (RowFrom start moves) flight

abbrev SourcesOf : FileState → List Move → FileState → Type 0
SourcesOf start moves s = Sources start moves s.map s.begun s.flight

-- ---- one move more

all_more : {X : Type 0} (p : X → Bool) (xs : List X) (x : X) → list_all p xs ≡ true → p x ≡ true → list_all p (xs ++ x ∷ []) ≡ true
all_more p [] x h e = and_from (p x) true e refl
all_more p (y ∷ ys) x h e = step (p y) h (λ later. all_more p ys x later e)
  where
    step : (b : Bool) → (b && list_all p ys) ≡ true → (list_all p ys ≡ true → list_all p (ys ++ x ∷ []) ≡ true) → (b && list_all p (ys ++ x ∷ [])) ≡ true
    step true t rest = rest t
    step false t rest = t

module _ (start : FileState) (moves : List Move) (move : Move) where
  stands_more : {window : Window} {index : ℕ} {digest : List ℕ} → keeps_window window move ≡ true → PutStands moves window index digest → PutStands (moves ++ move ∷ []) window index digest
  stands_more {window} kept h = record {
    before = h.before;
    put = h.put;
    after = h.after ++ move ∷ [];
    cut = ap (λ (xs : List Move). xs ++ move ∷ []) h.cut ∙ append_assoc h.before (Does h.put ∷ h.after) (move ∷ []);
    puts = h.puts;
    held = all_more (keeps_window window) h.after move h.held kept;
  }

  gated_more : {index : ℕ} {digest : List ℕ} → PutAndGated moves index digest → PutAndGated (moves ++ move ∷ []) index digest
  gated_more h = record {
    window = h.window;
    before = h.before;
    gate = h.gate;
    after = h.after ++ move ∷ [];
    cut = ap (λ (xs : List Move). xs ++ move ∷ []) h.cut ∙ append_assoc h.before (Does h.gate ∷ h.after) (move ∷ []);
    put = h.put;
    gates = h.gates;
  }

  come_more : {index : ℕ} {digest : List ℕ} → ComesFrom start moves index digest → ComesFrom start (moves ++ move ∷ []) index digest
  come_more h = elim h [
    | inl opened ↦ inl opened
    | inr rest ↦ elim rest [
      | inl begun ↦ inr (inl begun)
      | inr others ↦ elim others [
        | inl flying ↦ inr (inr (inl flying))
        | inr filled ↦ inr (inr (inr (gated_more filled)))
      ]
    ]
  ]

  row_more : (row : FlightRow) → keeps_window row.window move ≡ true → RowFrom start moves row → RowFrom start (moves ++ move ∷ []) row
  row_more row kept h = elim h [ inl flying ↦ inl flying | inr stands ↦ inr (stands_more kept stands) ]

  all_from : (digests : Digests) → AllFrom start moves digests → AllFrom start (moves ++ move ∷ []) digests
  all_from digests h = λ index digest e. come_more (h index digest e)

  rows_more : (flight : List FlightRow) → ((row : FlightRow) → keeps_window row.window move ≡ true) → All (RowFrom start moves) flight → All (RowFrom start (moves ++ move ∷ [])) flight
  rows_more flight kept h = λ k d lt. row_more (get_or flight k d) (kept (get_or flight k d)) (h k d lt)

  -- where nothing of this changes
  sources_more : (digests begun : Digests) (flight : List FlightRow) → ((row : FlightRow) → keeps_window row.window move ≡ true) → Sources start moves digests begun flight → Sources start (moves ++ move ∷ []) digests begun flight
  sources_more digests begun flight kept h = record { opened = all_from digests h.opened; began = all_from begun h.began; flying = rows_more flight kept h.flying }

-- ---- changes of stages keep what a row shows

placed_from : (start : FileState) (moves : List Move) (b : Bool) (row : FlightRow) → RowFrom start moves row → RowFrom start moves (cond b (record row { stage = placed_stage }) row)
placed_from start moves true row h = h
placed_from start moves false row h = h

gated_from : (start : FileState) (moves : List Move) (b : Bool) (row : FlightRow) → RowFrom start moves row → RowFrom start moves (cond b (record row { stage = gated_stage }) row)
gated_from start moves true row h = h
gated_from start moves false row h = h

own_window : (window : Window) (at : Option FlightRow) (found : FlightRow) → at ≡ Some found → is_at is_settled window at ≡ true → is_same window found.window ≡ true
own_window window None found is e = absurd (cc)
own_window window (Some row) found is e =
    let same : row ≡ found = ap (λ (o : Option FlightRow). elim o as (λ _. FlightRow) [ Some r ↦ r | None ↦ row ]) is in
    subst (λ (r : FlightRow). is_same window r.window ≡ true) same (and_parts (is_same window row.window) (is_settled row.stage) e).0

-- ---- an entry

module _ (start first s : FileState) (moves : List Move) (at who : ℕ) (f : FileFacts first s) (h : SourcesOf start moves s) where
  abbrev Next : Event → Reply → FileState → Type 0
  Next event reply new = SourcesOf start (moves ++ Does (record { who = who; event = event; reply = reply }) ∷ []) new

  -- an event that releases no window and changes none of the three lists
  plain : (event : Event) (reply : Reply) → ((window : Window) → releases window event ≡ false) → Next event reply s
  plain event reply none = sources_more start moves (Does (record { who = who; event = event; reply = reply })) s.map s.begun s.flight (λ row. ap not (none row.window)) h

  ask_from : (block uid moment : ℕ) (reply : Reply) → Next (Ask block uid moment) reply (ask_change s who block uid moment reply)
  ask_from block uid moment (Asked serial) = plain (Ask block uid moment) (Asked serial) (λ w. refl)
  ask_from block uid moment reply = plain (Ask block uid moment) reply (λ w. refl)

  poll_from : (serial moment : ℕ) (reply : Reply) → Next (Poll serial moment) reply (poll_change s who serial reply)
  poll_from serial moment (NoPath hash) = plain (Poll serial moment) (NoPath hash) (λ w. refl)
  poll_from serial moment (Handed digest) = plain (Poll serial moment) (Handed digest) (λ w. refl)
  poll_from serial moment (TimedOut deadline) = plain (Poll serial moment) (TimedOut deadline) (λ w. refl)
  poll_from serial moment (Fault count) = plain (Poll serial moment) (Fault count) (λ w. refl)
  poll_from serial moment reply = plain (Poll serial moment) reply (λ w. refl)

  cancel_from : (serial : ℕ) (reply : Reply) → Next (Cancel serial) reply (cancel_change s who serial reply)
  cancel_from serial Cancelled = plain (Cancel serial) Cancelled (λ w. refl)
  cancel_from serial reply = plain (Cancel serial) reply (λ w. refl)

  times_from : (uid : ℕ) (times : Times) (reply : Reply) → Next (SetTimes uid times) reply (times_change s uid times reply)
  times_from uid times TimesSet = plain (SetTimes uid times) TimesSet (λ w. refl)
  times_from uid times reply = plain (SetTimes uid times) reply (λ w. refl)

  leave_from : (reply : Reply) → Next Leave reply (leave_change s reply)
  leave_from (Left readers) = plain Leave (Left readers) (λ w. refl)
  leave_from reply = plain Leave reply (λ w. refl)

  put_data_from : (window : Window) (index : ℕ) (digest : List ℕ) (reply : Reply) → Next (PutData window index digest) reply (put_data_change at s window index digest reply)
  put_data_from window index digest (Put place given) =
      let entry : Entry = record { who = who; event = PutData window index digest; reply = Put place given } in
      let after = plain (PutData window index digest) (Put place given) (λ w. refl) in
      let new : PutStands (moves ++ Does entry ∷ []) window index digest = record { before = moves; put = entry; after = []; cut = refl; puts = record { event = refl; reply = tt }; held = refl } in
      record { opened = after.opened; began = after.began; flying = fly_all (RowFrom start (moves ++ Does entry ∷ [])) (written window index digest) s.flight (inr new) after.flying }
  put_data_from window index digest (Fault count) = plain (PutData window index digest) (Fault count) (λ w. refl)
  put_data_from window index digest reply = plain (PutData window index digest) reply (λ w. refl)

  put_place_from : (window : Window) (index : ℕ) (reply : Reply) → Next (PutPlace window index) reply (put_place_change at s index reply)
  put_place_from window index Placed =
      let after = plain (PutPlace window index) Placed (λ w. refl) in
      let done = moves ++ Does (record { who = who; event = PutPlace window index; reply = Placed }) ∷ [] in
      record { opened = after.opened; began = after.began; flying = All-map (RowFrom start done) (placed_row index) s.flight (λ k d lt. placed_from start done (eqb (get_or s.flight k d).index index) (get_or s.flight k d) (after.flying k d lt)) }
  put_place_from window index (Fault count) = plain (PutPlace window index) (Fault count) (λ w. refl)
  put_place_from window index reply = plain (PutPlace window index) reply (λ w. refl)

  settle_from : (window : Window) (reply : Reply) → Next (Settle window) reply (settle_change at s reply)
  settle_from window Settled =
      let after = plain (Settle window) Settled (λ w. refl) in
      let done = moves ++ Does (record { who = who; event = Settle window; reply = Settled }) ∷ [] in
      let still : FlightRow → Bool = λ row. not (is_gated row.stage) in
      record { opened = after.opened; began = after.began; flying = All-map (RowFrom start done) synced_row (filter still s.flight) (All-filter still (RowFrom start done) s.flight after.flying) }
  settle_from window (Fault count) = plain (Settle window) (Fault count) (λ w. refl)
  settle_from window reply = plain (Settle window) reply (λ w. refl)

  release_from : (window : Window) (reply : Reply) → Next (Release window) reply (release_change s window)
  release_from window reply =
      let entry : Entry = record { who = who; event = Release window; reply = reply } in
      let move : Move = Does entry in
      let others : FlightRow → Bool = λ row. not (is_same window row.window) in
      record {
        opened = all_from start moves move s.map h.opened;
        began = all_from start moves move s.begun h.began;
        flying = both (λ row. others row ≡ true) (RowFrom start moves) (RowFrom start (moves ++ move ∷ [])) (λ row kept from. row_more start moves move row kept from) (filter others s.flight) (filter_passes others s.flight) (All-filter others (RowFrom start moves) s.flight h.flying);
      }

  -- ---- the gate of a row that was found

  module _ (window : Window) (index : ℕ) (found : FlightRow) (is : flight_row index s.flight ≡ Some found) (own : is_same window found.window ≡ true) (reply : Reply) (began : Began reply) where
    abbrev gate_entry : Entry
    gate_entry = record { who = who; event = Gate window index; reply = reply }

    abbrev done : List Move
    done = moves ++ Does gate_entry ∷ []

    its : (found.index ≡ index) × RowFrom start moves found
    its = row_found (RowFrom start moves) index s.flight found is h.flying

    row_came : RowFrom start moves found → ComesFrom start done found.index found.digest
    row_came from = elim from [
      | inl flying ↦ inr (inr (inl flying))
      | inr stands ↦ inr (inr (inr (record {
        window = found.window;
        before = moves;
        gate = gate_entry;
        after = [];
        cut = refl;
        put = stands;
        gates = record { event = subst (λ (w : Window). Gate window index ≡ Gate w found.index) (same_is window found.window own) (ap (λ i. Gate window i) (sym its.0)); reply = began };
      })))
    ]

    came : ComesFrom start done index found.digest
    came = subst (λ i. ComesFrom start done i found.digest) its.0 (row_came its.1)

    inserted : (digests : Digests) → AllFrom start moves digests → AllFrom start done (insert index found.digest digests)
    inserted digests from q digest e = go (eqb q index) refl (sym (lookup_insert q index found.digest digests) ∙ e)
      where
        go : (b : Bool) → eqb q index ≡ b → cond b (Some found.digest) (lookup q digests) ≡ Some digest → ComesFrom start done q digest
        go true t same =
            let digest_is : found.digest ≡ digest = ap (λ (o : Option (List ℕ)). elim o as (λ _. List ℕ) [ Some d ↦ d | None ↦ [] ]) same in
            subst (λ i. ComesFrom start done i digest) (sym (eqb-true q index t)) (subst (λ (d : List ℕ). ComesFrom start done index d) digest_is came)
        go false t same = come_more start moves (Does gate_entry) (from q digest same)

    opens_from : Sources start done (insert index found.digest s.map) (insert index found.digest s.begun) (gated index s.flight)
    opens_from =
        let after = plain (Gate window index) reply (λ w. refl) in
        record {
          opened = inserted s.map h.opened;
          began = inserted s.begun h.began;
          flying = All-map (RowFrom start done) (gated_row index) s.flight (λ k d lt. gated_from start done (eqb (get_or s.flight k d).index index) (get_or s.flight k d) (after.flying k d lt));
        }

    begins_from : Sources start done s.map (insert index found.digest s.begun) s.flight
    begins_from =
        let after = plain (Gate window index) reply (λ w. refl) in
        record { opened = after.opened; began = inserted s.begun h.began; flying = after.flying }

  gate_row_from : (told : Bool) (window : Window) (index waiting : ℕ) (found : FlightRow) (reply : Reply) → flight_row index s.flight ≡ Some found → Fits told s.faults (unless_failed s.failed (gate_reply (is_at is_settled window (flight_row index s.flight)) waiting)) reply
      → Next (Gate window index) reply (gate_row_change at s index found.digest reply)
  gate_row_from told window index waiting found (Gated count) is fits =
      let mine = (gated_by s.failed (is_at is_settled window (flight_row index s.flight)) waiting count fits).0 in
      opens_from window index found is (own_window window (flight_row index s.flight) found is mine) (Gated count) tt
  gate_row_from told window index waiting found (Fault count) is fits =
      let mine = may_gate s.failed (is_at is_settled window (flight_row index s.flight)) waiting fits.0 in
      begins_from window index found is (own_window window (flight_row index s.flight) found is mine) (Fault count) tt
  gate_row_from told window index waiting found reply is fits = plain (Gate window index) reply (λ w. refl)

  gate_from : (told : Bool) (window : Window) (index waiting : ℕ) (found : Option FlightRow) (reply : Reply) → flight_row index s.flight ≡ found → Fits told s.faults (unless_failed s.failed (gate_reply (is_at is_settled window (flight_row index s.flight)) waiting)) reply
      → Next (Gate window index) reply (gate_change at s index found reply)
  gate_from told window index waiting (Some row) reply is fits = gate_row_from told window index waiting row reply is fits
  gate_from told window index waiting None reply is fits = plain (Gate window index) reply (λ w. refl)

  entry_from : (told : Bool) (event : Event) (reply : Reply) → Fits told s.faults (reply_of s who event) reply → Next event reply (change at s who event reply)
  entry_from told (Ask block uid moment) reply fits = ask_from block uid moment reply
  entry_from told (Poll serial moment) reply fits = poll_from serial moment reply
  entry_from told (Cancel serial) reply fits = cancel_from serial reply
  entry_from told (Claim window places) reply fits = plain (Claim window places) reply (λ w. refl)
  entry_from told (PutData window index digest) reply fits = put_data_from window index digest reply
  entry_from told (PutPlace window index) reply fits = put_place_from window index reply
  entry_from told (Settle window) reply fits = settle_from window reply
  entry_from told (Gate window index) reply fits = gate_from told window index (count_by (waits_on index) s.reads) (flight_row index s.flight) reply refl fits
  entry_from told (Release window) reply fits = release_from window reply
  entry_from told (TakePending after most) reply fits = plain (TakePending after most) reply (λ w. refl)
  entry_from told (SetTimes uid times) reply fits = times_from uid times reply
  entry_from told (Ranges begin end room) reply fits = plain (Ranges begin end room) reply (λ w. refl)
  entry_from told Count reply fits = plain Count reply (λ w. refl)
  entry_from told Leave reply fits = leave_from reply

-- ---- any move, and a run

no_lookup : (index : ℕ) (digest : List ℕ) → lookup {V = List ℕ} index [] ≡ Some digest → ⊥
no_lookup index digest e = absurd (cc)

move_from : (start : FileState) (told : Bool) (moves : List Move) (now : Moment) (move : Move) → HasFacts now.state → MayMove told now move → SourcesOf start moves now.state → SourcesOf start (moves ++ move ∷ []) (after_move now move).state
move_from start told moves now (Does entry) f may h = entry_from start f.0 now.state moves now.at entry.who f.1 h told entry.event entry.reply may.allowed.fits
move_from start told moves now (Crashes reopened) f may h =
    let move : Move = Crashes reopened in
    record {
      opened = λ index digest e. come_more start moves move (elim (may.only index digest e) [ inl kept ↦ h.opened index digest kept.1 | inr begun ↦ h.began index digest begun ]);
      began = λ index digest e. absurd (no_lookup index digest (subst (λ (l : Digests). lookup index l ≡ Some digest) may.opening.none_begun e));
      flying = subst (All (RowFrom start (moves ++ move ∷ []))) (sym may.opening.no_flight) (All-nil (RowFrom start (moves ++ move ∷ [])));
    }

world_from : (start : FileState) (told : Bool) (moves : List Move) (now : Moment) (rest : List Move) → HasFacts now.state → IsWorld told now rest → SourcesOf start moves now.state → SourcesOf start (moves ++ rest) (world_after now rest).state
world_from start told moves now [] f w h = subst (λ (ms : List Move). SourcesOf start ms now.state) (sym (append-nil moves)) h
world_from start told moves now (move ∷ rest) f w h =
    subst (λ (ms : List Move). SourcesOf start ms (world_after (after_move now move) rest).state) (append_assoc moves (move ∷ []) rest)
    (world_from start told (moves ++ move ∷ []) (after_move now move) rest (move_stays told now move f w.0) w.1 (move_from start told moves now move f w.0 h))

pub digests_come : (start : FileState) (told : Bool) (moves : List Move) (index : ℕ) (digest : List ℕ) → FileFacts start start → IsWorld told (beginning start) moves
    → lookup index (world_after (beginning start) moves).state.map ≡ Some digest → ComesFrom start moves index digest
digests_come start told moves index digest f w e =
    let h : SourcesOf start [] start = record {
      opened = λ i d found. inl found;
      began = λ i d found. inr (inl found);
      flying = λ k d lt. inl (k, get_or start.flight k d, lt, sym (get_or_default start.flight k d (get_or start.flight k d) lt), (refl, refl));
    } in
    (world_from start told [] (beginning start) moves (start, f) w h).opened index digest e
