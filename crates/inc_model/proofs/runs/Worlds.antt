-- Runs with crashes: the facts in them, their parts, and what stays acknowledged.
use Rattle.std.proofs.Common.{◌≡◌, ℕ, ◌+◌, length, arith, Bool, true, false, eqb, List, [], ◌∷◌, ◌++◌, Option, Some, None, refl, sym, ap, subst, ◌∙◌}
use Rattle.std.specs.Prelude.{count_by}
use Rattle.std.proofs.lemmas.Bool.{eqb-true, true≢false, false_from_ne_true}
use Rattle.inc_pending.specs.Keyed.{lookup}
use Rattle.inc_pending.specs.Polling.{waits_on}
use Rattle.inc_pending.specs.declared.timeouts.Times.{Times}
use Rattle.inc_model.specs.declared.words.event.Event.{Event}
use Rattle.inc_model.specs.declared.words.event.Event.TheVariants.{Ask, Poll, Cancel, Claim, PutData, PutPlace, Settle, Gate, Release, TakePending, SetTimes, Ranges, Count, Leave}
use Rattle.inc_model.specs.declared.words.event.Window.{Window}
use Rattle.inc_model.specs.declared.words.file_state.FileState.{FileState}
use Rattle.inc_model.specs.declared.words.file_state.FlightRow.{FlightRow}
use Rattle.inc_model.specs.declared.words.reply.Entry.{Entry}
use Rattle.inc_model.specs.declared.words.reply.Reply.{Reply}
use Rattle.inc_model.specs.declared.words.reply.Reply.TheVariants.{Asked, NoPath, Handed, TimedOut, Fault, Cancelled, Put, Placed, Settled, Gated, TimesSet, Left}
use Rattle.inc_model.specs.relation.State.{has, is_in, flight_row}
use Rattle.inc_model.specs.relation.Stages.{is_at, is_settled}
use Rattle.inc_model.specs.relation.Table.{reply_of, unless_failed, gate_reply}
use Rattle.inc_model.specs.relation.Changes.{ask_change, poll_change, cancel_change, put_data_change, put_place_change, settle_change, gate_row_change, gate_change, times_change, leave_change, rest_change}
use Rattle.inc_model.specs.relation.Step.{Fits, IsLegal, after_entry, state_after}
use Rattle.inc_model.specs.relation.Facts.{FileFacts}
use Rattle.inc_model.specs.histories.Worlds.{Moment, Move, Does, Crashes, beginning, after_move, MayMove, world_after, IsWorld, moves_of}
use Rattle.inc_model.proofs.facts_kept.Fill.{gated_by}
use Rattle.inc_model.proofs.lists.Sets.{lookup_other, found_in, has_keys}
use Rattle.inc_model.proofs.facts_kept.Gate.{gate_absent, settled_found}
use Rattle.inc_model.proofs.facts_kept.Settle.{acknowledge_more}
use Rattle.inc_model.proofs.facts_kept.Step.{stays, opening_facts}

-- ---- facts: after a crash the opening is the state itself

abbrev pub HasFacts : FileState → Type 0
HasFacts s = (first : FileState) × FileFacts first s

pub move_stays : (told : Bool) (now : Moment) (move : Move) → HasFacts now.state → MayMove told now move → HasFacts (after_move now move).state
move_stays told now (Does entry) f may = (f.0, stays f.0 now.state told now.at entry.who entry.event entry.reply may.allowed f.1)
move_stays told now (Crashes reopened) f may = (reopened, opening_facts reopened may.opening)

pub world_facts : (told : Bool) (now : Moment) (moves : List Move) → HasFacts now.state → IsWorld told now moves → HasFacts (world_after now moves).state
world_facts told now [] f w = f
world_facts told now (move ∷ moves) f w = world_facts told (after_move now move) moves (move_stays told now move f w.0) w.1

-- ---- parts

pub world_front : (told : Bool) (now : Moment) (before after : List Move) → IsWorld told now (before ++ after) → IsWorld told now before
world_front told now [] after w = tt
world_front told now (move ∷ before) after w = (w.0, world_front told (after_move now move) before after w.1)

pub world_rest : (told : Bool) (now : Moment) (before after : List Move) → IsWorld told now (before ++ after) → IsWorld told (world_after now before) after
world_rest told now [] after w = w
world_rest told now (move ∷ before) after w = world_rest told (after_move now move) before after w.1

pub world_both : (now : Moment) (before after : List Move) → world_after now (before ++ after) ≡ world_after (world_after now before) after
world_both now [] after = refl
world_both now (move ∷ before) after = world_both (after_move now move) before after

-- ---- what is acknowledged, one move further

abbrev pub Keeps : ℕ → List ℕ → FileState → Type 0
Keeps q digest s = (has q s.acknowledged ≡ true) × (lookup q s.map ≡ Some digest)

module _ (s : FileState) (q : ℕ) (digest : List ℕ) (k : Keeps q digest s) where
  ask_keeps : (who block uid at : ℕ) (reply : Reply) → Keeps q digest (ask_change s who block uid at reply)
  ask_keeps who block uid at (Asked serial) = k
  ask_keeps who block uid at reply = k

  poll_keeps : (who serial : ℕ) (reply : Reply) → Keeps q digest (poll_change s who serial reply)
  poll_keeps who serial (NoPath hash) = k
  poll_keeps who serial (Handed given) = k
  poll_keeps who serial (TimedOut deadline) = k
  poll_keeps who serial (Fault count) = k
  poll_keeps who serial reply = k

  cancel_keeps : (who serial : ℕ) (reply : Reply) → Keeps q digest (cancel_change s who serial reply)
  cancel_keeps who serial Cancelled = k
  cancel_keeps who serial reply = k

  put_data_keeps : (at : ℕ) (window : Window) (index : ℕ) (put : List ℕ) (reply : Reply) → Keeps q digest (put_data_change at s window index put reply)
  put_data_keeps at window index put (Put place given) = k
  put_data_keeps at window index put (Fault count) = k
  put_data_keeps at window index put reply = k

  put_place_keeps : (at index : ℕ) (reply : Reply) → Keeps q digest (put_place_change at s index reply)
  put_place_keeps at index Placed = k
  put_place_keeps at index (Fault count) = k
  put_place_keeps at index reply = k

  settle_keeps : (at : ℕ) (reply : Reply) → Keeps q digest (settle_change at s reply)
  settle_keeps at Settled = (acknowledge_more q s.flight s.acknowledged k.0, k.1)
  settle_keeps at (Fault count) = k
  settle_keeps at reply = k

  times_keeps : (uid : ℕ) (times : Times) (reply : Reply) → Keeps q digest (times_change s uid times reply)
  times_keeps uid times TimesSet = k
  times_keeps uid times reply = k

  leave_keeps : (reply : Reply) → Keeps q digest (leave_change s reply)
  leave_keeps (Left readers) = k
  leave_keeps reply = k

  -- a gate opens only what isn't in the map
  gate_row_keeps : (first : FileState) (told : Bool) (at : ℕ) (window : Window) (index waiting : ℕ) (found : FlightRow) (reply : Reply) → flight_row index s.flight ≡ Some found → Fits told s.faults (unless_failed s.failed (gate_reply (is_at is_settled window (flight_row index s.flight)) waiting)) reply
      → FileFacts first s → Keeps q digest (gate_row_change at s index found.digest reply)
  gate_row_keeps first told at window index waiting found (Gated count) is h f =
      let mine = (gated_by s.failed (is_at is_settled window (flight_row index s.flight)) waiting count h).0 in
      let absent = gate_absent first s index found is (settled_found window index s.flight found is mine) f in
      let there = found_in q digest s.map k.1 in
      let other : eqb q index ≡ false = false_from_ne_true (eqb q index) (λ t. true≢false (sym there ∙ ap (λ i. is_in i s.map) (eqb-true q index t) ∙ absent)) in
      (k.0, lookup_other q index found.digest s.map other ∙ k.1)
  gate_row_keeps first told at window index waiting found (Fault count) is h f = k
  gate_row_keeps first told at window index waiting found reply is h f = k

  gate_keeps : (first : FileState) (told : Bool) (at : ℕ) (window : Window) (index waiting : ℕ) (found : Option FlightRow) (reply : Reply) → flight_row index s.flight ≡ found → Fits told s.faults (unless_failed s.failed (gate_reply (is_at is_settled window (flight_row index s.flight)) waiting)) reply
      → FileFacts first s → Keeps q digest (gate_change at s index found reply)
  gate_keeps first told at window index waiting (Some row) reply is h f = gate_row_keeps first told at window index waiting row reply is h f
  gate_keeps first told at window index waiting None reply is h f = k

  rest_keeps : (first : FileState) (told : Bool) (at who : ℕ) (event : Event) (reply : Reply) → Fits told s.faults (reply_of s who event) reply → FileFacts first s → Keeps q digest (rest_change at s who event reply)
  rest_keeps first told at who (Ask block uid moment) reply h f = ask_keeps who block uid moment reply
  rest_keeps first told at who (Poll serial moment) reply h f = poll_keeps who serial reply
  rest_keeps first told at who (Cancel serial) reply h f = cancel_keeps who serial reply
  rest_keeps first told at who (Claim window places) reply h f = k
  rest_keeps first told at who (PutData window index put) reply h f = put_data_keeps at window index put reply
  rest_keeps first told at who (PutPlace window index) reply h f = put_place_keeps at index reply
  rest_keeps first told at who (Settle window) reply h f = settle_keeps at reply
  rest_keeps first told at who (Gate window index) reply h f = gate_keeps first told at window index (count_by (waits_on index) s.reads) (flight_row index s.flight) reply refl h f
  rest_keeps first told at who (Release window) reply h f = k
  rest_keeps first told at who (TakePending after most) reply h f = k
  rest_keeps first told at who (SetTimes uid times) reply h f = times_keeps uid times reply
  rest_keeps first told at who (Ranges start end room) reply h f = k
  rest_keeps first told at who Count reply h f = k
  rest_keeps first told at who Leave reply h f = leave_keeps reply

move_keeps : (told : Bool) (now : Moment) (move : Move) (q : ℕ) (digest : List ℕ) → HasFacts now.state → MayMove told now move → Keeps q digest now.state → Keeps q digest (after_move now move).state
move_keeps told now (Does entry) q digest f may k = rest_keeps now.state q digest k f.0 told now.at entry.who entry.event entry.reply may.allowed.fits f.1
move_keeps told now (Crashes reopened) q digest f may k =
    let there = may.kept q digest k.0 k.1 in
    let in_keys = has_keys q reopened.map ∙ found_in q digest reopened.map there in
    (subst (λ (l : List ℕ). has q l ≡ true) (sym may.opening.acknowledged) in_keys, there)

world_keeps : (told : Bool) (now : Moment) (moves : List Move) (q : ℕ) (digest : List ℕ) → HasFacts now.state → IsWorld told now moves → Keeps q digest now.state → Keeps q digest (world_after now moves).state
world_keeps told now [] q digest f w k = k
world_keeps told now (move ∷ moves) q digest f w k = world_keeps told (after_move now move) moves q digest (move_stays told now move f w.0) w.1 (move_keeps told now move q digest f w.0 k)

pub keeps_acknowledged : (start : FileState) (told : Bool) (before after : List Move) (index : ℕ) (digest : List ℕ) → FileFacts start start → IsWorld told (beginning start) (before ++ after)
    → has index (world_after (beginning start) before).state.acknowledged ≡ true
    → lookup index (world_after (beginning start) before).state.map ≡ Some digest
    → Keeps index digest (world_after (beginning start) (before ++ after)).state
keeps_acknowledged start told before after index digest f w acknowledged there =
    let now = world_after (beginning start) before in
    let facts = world_facts told (beginning start) before (start, f) (world_front told (beginning start) before after w) in
    subst (λ (m : Moment). Keeps index digest m.state) (sym (world_both (beginning start) before after)) (world_keeps told now after index digest facts (world_rest told (beginning start) before after w) (acknowledged, there))

pub acknowledged_there : (start : FileState) (told : Bool) (moves : List Move) (index : ℕ) → FileFacts start start → IsWorld told (beginning start) moves
    → has index (world_after (beginning start) moves).state.acknowledged ≡ true → is_in index (world_after (beginning start) moves).state.map ≡ true
acknowledged_there start told moves index f w h = (world_facts told (beginning start) moves (start, f) w).1.opened.acknowledged_open index h

-- ---- a history is a run without a crash

pub history_world : (told : Bool) (now : Moment) (entries : List Entry) → IsLegal now.at told now.state entries → IsWorld told now (moves_of entries)
history_world told now [] legal = tt
history_world told now (entry ∷ entries) legal = (legal.0, history_world told (after_move now (Does entry)) entries legal.1)

pub world_history : (told : Bool) (now : Moment) (entries : List Entry) → IsWorld told now (moves_of entries) → IsLegal now.at told now.state entries
world_history told now [] w = tt
world_history told now (entry ∷ entries) w = (w.0, world_history told (after_move now (Does entry)) entries w.1)

moment_at : ℕ → FileState → Moment
moment_at at s = record { at = at; state = s }

pub world_end : (now : Moment) (entries : List Entry) → world_after now (moves_of entries) ≡ record { at = now.at + length entries; state = state_after now.at now.state entries }
unfolding moment_at
world_end now [] = ap (λ k. moment_at k now.state) (omega arith)
world_end now (entry ∷ entries) = world_end (after_move now (Does entry)) entries ∙ ap (λ k. moment_at k (state_after (now.at + 1) (after_entry now.at now.state entry) entries)) (omega arith)
