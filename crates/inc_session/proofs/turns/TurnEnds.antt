-- A turn comes to its end at the reads of one file.
use Rattle.std.proofs.Common.{◌≡◌, ◌⊎◌, inl, inr, ℕ, ◌-◌, ◌^◌, ◌<◌, Bool, List, [], length, get_or, set, refl, sym, subst}
use Rattle.std.specs.Prelude.{Err}
use Rattle.std.proofs.lemmas.List.{get_or-set_same}
use Rattle.inc_pending.specs.declared.pending_record.PendingRecord.{PendingRecord}
use Rattle.inc_model.specs.declared.words.event.Event.{Event}
use Rattle.inc_model.specs.declared.words.event.Event.TheVariants.{TakePending}
use Rattle.inc_model.specs.relation.Step.{HasRoom, state_after}
use Rattle.inc_turn.specs.Locks.{IsSameSeat, seat_view}
use Rattle.inc_turn.specs.Views.{heard}
use Rattle.inc_turn.specs.declared.seat.Seat.{Seat}
use Rattle.inc_cell.specs.declared.machine.CellFooting.{CellFooting}
use Rattle.inc_cell.specs.events.CellEvents.{footing_of}
use Rattle.inc_script.specs.declared.report_text.ends.DriveEnd.{DriveEnd}
use Rattle.inc_script.specs.declared.report_text.ends.DriveEnd.TheVariants as end
use Rattle.inc_session.specs.DriveSeats.{HomeFile}
use Rattle.inc_session.specs.GivenFills.{IsFullHome}
use Rattle.inc_session.specs.ReadTakes.{TakesFile, TakesNone, TakesUntold, TurnIsTold, TurnStopCause, TurnStops}
use Rattle.inc_session.specs.declared.driving.counts.DriveCounts.{DriveCounts}
use Rattle.inc_session.proofs.turns.TurnSteps.{turn_stops_none, turn_stops_some}

pub full_at : (homes : List HomeFile) (place : ℕ) (home : HomeFile) → place < length homes → ((h : HomeFile) → get_or homes place h ≡ home) → (seats : List (Seat CellFooting)) (now : Seat CellFooting) → place < length seats → (event : Event)
    → (HasRoom (length (heard (seat_view now))) (state_after 0 (footing_of home.begun).opening (heard (seat_view now))) event → ⊥) → IsFullHome homes (set seats place now)
full_at homes place home here home_is seats now within event none = record {
  file = place;
  here = here;
  event = event;
  no_room = λ h s.
      subst (λ (x : HomeFile). HasRoom (length (heard (seat_view (get_or (set seats place now) place s)))) (state_after 0 (footing_of x.begun).opening (heard (seat_view (get_or (set seats place now) place s)))) event → ⊥) (sym (home_is h))
      (subst (λ (x : Seat CellFooting). HasRoom (length (heard (seat_view x))) (state_after 0 (footing_of home.begun).opening (heard (seat_view x))) event → ⊥) (sym (get_or-set_same seats place now s within)) none);
}

module _ (homes : List HomeFile) (home : HomeFile) (before seats : List (Seat CellFooting)) (place : ℕ) (afters_before afters : List ℕ) (told_before told : List PendingRecord) (old mid : DriveCounts) (some : Bool) (here : place < length homes)
    (home_is : (h : HomeFile) → get_or homes place h ≡ home) (t : TurnIsTold before place afters_before afters told_before told old mid some seats) (within : place < length seats) (same_count : length afters ≡ length seats) (seat now : Seat CellFooting) (seat_is : seat ≡ get_or seats place seat) (same : IsSameSeat seat now)
    (next : ℕ) (told_now : List PendingRecord) (new : DriveCounts) (faults_before faults : ℕ) where
  abbrev Takes : DriveEnd → Type 0
  Takes how = TakesFile (footing_of home.begun) (seat_view seat) (get_or afters place 0) next told told_now mid new faults_before faults (Err how) (seat_view now)

  abbrev Stops : DriveEnd → Type 0
  Stops how = TurnStops homes before afters_before told_before told_now old new faults_before faults how (set seats place now)

  abbrev None : Type 0
  None = TakesNone (seat_view seat) told told_now mid new (seat_view now)

  abbrev Some : Type 0
  Some = TakesUntold (seat_view seat) (get_or afters place 0) next told told_now mid new (seat_view now)

  either : (how : DriveEnd) → None ⊎ Some → ((unsaid : List PendingRecord) → TurnStopCause homes (set seats place now) faults_before faults unsaid how) → Stops how
  either how (inl k) c = turn_stops_none before seats place afters_before afters told_before told old mid some t within same_count seat now seat_is same next told_now new homes faults_before faults how k (c [])
  either how (inr k) c = turn_stops_some before seats place afters_before afters told_before told old mid some t within same_count seat now seat_is same next told_now new homes faults_before faults how k (c k.unsaid)

  pub turn_stops_by : (how : DriveEnd) → Takes how → Stops how
  turn_stops_by end.HistoryFull k =
      turn_stops_none before seats place afters_before afters told_before told old mid some t within same_count seat now seat_is same next told_now new homes faults_before faults end.HistoryFull k.1
      (full_at homes place home here home_is seats now within (TakePending (get_or afters place 0) (2 ^ 32 - 1)) k.0.2.no_room, refl, k.2)
  turn_stops_by end.Fault k = either end.Fault k.0 (λ u. k.1)
  turn_stops_by end.OutOfMemory k = either end.OutOfMemory k.0 (λ u. k.1)
  turn_stops_by end.Done k = absurd k.1
  turn_stops_by end.Stopped k = absurd k.1
  turn_stops_by end.UnknownFile k = absurd k.1
  turn_stops_by (end.Refused error) k = absurd k.1
  turn_stops_by (end.Frame fault) k = absurd k.1
  turn_stops_by end.Failed k = absurd k.1
