-- The reads of one file after the other, at the seats of a drive.
use Rattle.std.proofs.Common.{◌≡◌, ℕ, ◌+◌, ◌<◌, Bool, true, cond, List, length, get_or, set, sym, subst, ◌∙◌, arith}
use Rattle.std.specs.Prelude.{Ok, Err}
use Rattle.inc_pending.specs.declared.pending_record.PendingRecord.{PendingRecord}
use Rattle.inc_turn.specs.Locks.{seat_view, table_of}
use Rattle.inc_turn.specs.declared.seat.Seat.{Seat}
use Rattle.inc_cell.specs.declared.machine.CellFooting.{CellFooting}
use Rattle.inc_cell.specs.events.CellEvents.{footing_of}
use Rattle.inc_handle.specs.Shared.{HasGoneOn, IsSeatOf}
use Rattle.inc_handle.specs.declared.shared.SharedFile.{SharedFile}
use Rattle.inc_script.specs.declared.report_text.ends.DriveEnd.{DriveEnd}
use Rattle.inc_session.specs.DriveSeats.{AreHomeSeats, HomeFile, home_of, homes_of}
use Rattle.inc_session.specs.ReadTakes.{TakesFile, TurnIsTold, TurnStops}
use Rattle.inc_session.specs.declared.driving.counts.DriveCounts.{DriveCounts}
use Rattle.inc_session.proofs.fills.SeatSteps.{any_default, home_at, homes_count, still_seated}
use Rattle.inc_session.proofs.turns.TurnEnds.{turn_stops_by}
use Rattle.inc_session.proofs.turns.TurnSteps.{turn_more}

module _ {D K : Type 0} (files : List (SharedFile D K)) (place : ℕ) (file : SharedFile D K) (here : place < length files) (file_is : file ≡ get_or files place file) where
  abbrev home : HomeFile
  home = home_of (table_of file.lock) file.begun.value

  home_is : (h : HomeFile) → get_or (homes_of files) place h ≡ home
  home_is h = home_at files place file h here file_is

  in_homes : place < length (homes_of files)
  in_homes = let n = homes_count files in omega arith

  pub seat_again : (seats : List (Seat CellFooting)) (d : Seat CellFooting) → AreHomeSeats (homes_of files) seats → get_or seats place d ≡ get_or seats place (get_or seats place d)
  seat_again seats d seated = any_default seats place d (get_or seats place d) (let n = seated.count in let m = in_homes in omega arith)

  -- the seat at this place is one of the file at this place
  pub seat_there : (seats : List (Seat CellFooting)) (seat : Seat CellFooting) → AreHomeSeats (homes_of files) seats → seat ≡ get_or seats place seat → IsSeatOf (table_of file.lock) file.begun.value seat
  seat_there seats seat seated seat_is =
      subst (λ (x : HomeFile). IsSeatOf x.lock x.begun seat) (home_is home)
      (subst (λ (s : Seat CellFooting). IsSeatOf (get_or (homes_of files) place home).lock (get_or (homes_of files) place home).begun s) (sym seat_is) (seated.each place home seat in_homes))

  module _ (before seats : List (Seat CellFooting)) (afters_before afters : List ℕ) (told_before told : List PendingRecord) (old mid : DriveCounts) (some : Bool) (t : TurnIsTold before place afters_before afters told_before told old mid some seats) (seated : AreHomeSeats (homes_of files) before)
      (same_count : length afters ≡ length files) (seat now : Seat CellFooting) (seat_is : seat ≡ get_or seats place seat) (gone : HasGoneOn seat now) (next : ℕ) (told_now : List PendingRecord) (new : DriveCounts) (faults_before faults_at faults_now : ℕ) where
    seats_count : length seats ≡ length files
    seats_count = t.took.seats.count ∙ seated.count ∙ homes_count files

    within : place < length seats
    within = let n = seats_count in omega arith

    afters_count : length afters ≡ length seats
    afters_count = same_count ∙ sym seats_count

    pub next_file : (more all : Bool) → all ≡ cond more true some → TakesFile (footing_of file.begun.value) (seat_view seat) (get_or afters place 0) next told told_now mid new faults_at faults_now (Ok more) (seat_view now)
        → TurnIsTold before (place + 1) afters_before (set afters place next) told_before told_now old new all (set seats place now)
    next_file more all e h = turn_more before seats place afters_before afters told_before told old mid some t within afters_count seat now seat_is gone.same next told_now new more all e h.0

    pub file_stops : faults_at ≡ faults_before → (how : DriveEnd) → TakesFile (footing_of file.begun.value) (seat_view seat) (get_or afters place 0) next told told_now mid new faults_at faults_now (Err how) (seat_view now)
        → TurnStops (homes_of files) before afters_before told_before told_now old new faults_before faults_now how (set seats place now)
    file_stops calm how h =
        turn_stops_by (homes_of files) home before seats place afters_before afters told_before told old mid some in_homes home_is t within afters_count seat now seat_is gone.same next told_now new faults_before faults_now how
        (subst (λ (n : ℕ). TakesFile (footing_of file.begun.value) (seat_view seat) (get_or afters place 0) next told told_now mid new n faults_now (Err how) (seat_view now)) calm h)

-- the seats are still those of the files once their reads were taken
pub seated_on : (homes : List HomeFile) (before : List (Seat CellFooting)) (count : ℕ) (afters_before afters : List ℕ) (told_before told : List PendingRecord) (old new : DriveCounts) (some : Bool) (after : List (Seat CellFooting)) → AreHomeSeats homes before
    → TurnIsTold before count afters_before afters told_before told old new some after → AreHomeSeats homes after
seated_on homes before count afters_before afters told_before told old new some after seated t = still_seated homes before after t.deeds seated t.took.seats
