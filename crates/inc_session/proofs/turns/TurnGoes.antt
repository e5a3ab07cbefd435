-- One turn of a drive, by what its calls answer.
use Rattle.std.proofs.Common.{◌≡◌, ℕ, ◌+◌, ◌≤◌, Bool, true, List, [], ◌++◌, length, Option, Some, inl, refl, sym, subst, arith}
use Rattle.std.specs.Prelude.{map, Result, Ok, Err}
use Rattle.std.proofs.lemmas.List.{append-nil, length-map}
use Rattle.inc_io.specs.Causes.{Rose}
use Rattle.inc_frame.specs.declared.fault.FrameFault.{FrameFault}
use Rattle.inc_frame.specs.declared.piece.Piece.{Piece}
use Rattle.inc_pending.specs.declared.pending_record.PendingRecord.{PendingRecord}
use Rattle.inc_loader.specs.Marks.{mark_of}
use Rattle.inc_loader.specs.declared.loader_file.LoaderFile.{LoaderFile}
use Rattle.inc_loader.specs.declared.mark.PieceMark.{PieceMark}
use Rattle.inc_turn.specs.declared.seat.Seat.{Seat}
use Rattle.inc_cell.specs.declared.machine.CellFooting.{CellFooting}
use Rattle.inc_script.specs.declared.report_text.ends.DriveEnd.{DriveEnd}
use Rattle.inc_script.specs.declared.report_text.ends.DriveEnd.TheVariants as end
use Rattle.inc_session.specs.Deeds.{Deed}
use Rattle.inc_session.specs.DriveSeats.{HomeFile}
use Rattle.inc_session.specs.Drives.{DriveEnds, DriveGoes, DriveRuns, EndsBy, IsCalmEnd, drive_view}
use Rattle.inc_session.specs.GivenFills.{FillsGiven}
use Rattle.inc_session.specs.ReadTakes.{HasNoReaders, HasReaders}
use Rattle.inc_session.specs.declared.driving.counts.DriveCounts.{DriveCounts}
use Rattle.inc_session.proofs.turns.DriveLemmas.{ends_now, given_ends, given_in, none_given}

module _ (homes : List HomeFile) (files : List LoaderFile) (start : List (Seat CellFooting)) (faults turns : ℕ) (seats : List (Seat CellFooting)) (told : List PendingRecord) (given : List PieceMark) (idle failed : ℕ) (afters : List ℕ) (counts : DriveCounts)
    (r : DriveRuns homes files start faults (turns + 1) 1 (drive_view seats told given idle failed afters counts)) where
  -- no file has readers left
  pub ends_unread : HasNoReaders (length homes) r.log → (ended : Bool) (refused : Option FrameFault) → DriveEnds homes files start faults (drive_view seats told given idle failed [] counts) ended refused end.Stopped
  ends_unread none ended refused =
      ends_now homes files start faults (turns + 1) (drive_view seats told given idle failed afters counts) (drive_view seats told given idle failed [] counts) r ended refused end.Stopped refl refl refl refl (omega arith) (omega arith) (λ calm. refl)
      (refl, refl, subst (λ (l : List Deed). HasNoReaders (length homes) l) (sym (append-nil r.log)) none)

  module _ (readers : HasReaders (length homes) r.log) (told_now : List PendingRecord) (given_now : List PieceMark) (idle_now failed_now : ℕ) (ended : Bool) (refused : Option FrameFault) (told_same : told_now ≡ told) (idle_on : idle ≤ idle_now) where
    abbrev Ends : DriveEnd → Type 0
    Ends how = DriveEnds homes files start faults (drive_view seats told_now given_now idle_now failed_now [] counts) ended refused how

    readers_still : HasReaders (length homes) (r.log ++ [])
    readers_still = subst (λ (l : List Deed). HasReaders (length homes) l) (sym (append-nil r.log)) readers

    ends_with : (how : DriveEnd) → given_now ≡ given → failed ≤ failed_now → (IsCalmEnd how → failed_now ≡ failed) → EndsBy homes files [] [] (r.log ++ []) seats ended refused faults failed_now how → Ends how
    ends_with how given_same later calm cause =
        ends_now homes files start faults (turns + 1) (drive_view seats told given idle failed afters counts) (drive_view seats told_now given_now idle_now failed_now [] counts) r ended refused how told_same given_same refl refl idle_on later calm cause

    pub ends_done : given_now ≡ given → failed_now ≡ failed → ended ≡ true → Ends end.Done
    ends_done given_same same is_ended = ends_with end.Done given_same (omega arith) (λ calm. same) (refl, refl, is_ended, readers_still)

    pub ends_bad : (fault : FrameFault) → given_now ≡ given → failed_now ≡ failed → refused ≡ Some fault → Ends (end.Frame fault)
    ends_bad fault given_same same is_refused = ends_with (end.Frame fault) given_same (omega arith) (λ calm. same) (refl, refl, is_refused, readers_still)

    pub ends_failed : given_now ≡ given → failed ≤ failed_now → Rose failed failed_now → Ends end.Fault
    ends_failed given_same later rose = ends_with end.Fault given_same later (λ calm. absurd calm) (inl (subst (λ (n : ℕ). Rose n failed_now) r.calm rose))

    pub ends_wanting : given_now ≡ given → failed ≤ failed_now → Ends end.OutOfMemory
    ends_wanting given_same later = ends_with end.OutOfMemory given_same later (λ calm. absurd calm) tt

    pub goes_idle : given_now ≡ given → failed_now ≡ failed → Rose idle idle_now → DriveRuns homes files start faults (turns + 1) 0 (drive_view seats told_now given_now idle_now failed_now afters counts)
    goes_idle given_same same rose =
        none_given homes files start faults (turns + 1) (drive_view seats told given idle failed afters counts) (drive_view seats told_now given_now idle_now failed_now afters counts) r told_same idle_on given_same refl refl refl same rose

    pub goes_given : {T : Type 0} (pieces : List Piece) → given_now ≡ given ++ map (mark_of files) pieces → 1 ≤ length pieces → length pieces ≤ 64 → failed_now ≡ failed → (counts_now : DriveCounts) (seats_now : List (Seat CellFooting)) (result : Result T DriveEnd)
        → FillsGiven homes files seats (map (mark_of files) pieces) counts result counts_now seats_now
        → DriveGoes homes files start faults turns (drive_view seats_now told_now given_now idle_now failed_now afters counts_now) ended refused result
    goes_given pieces given_on some most same counts_now seats_now (Ok done) fills =
        given_in homes files start faults (turns + 1) (drive_view seats told given idle failed afters counts) (drive_view seats_now told_now given_now idle_now failed_now afters counts_now) r told_same idle_on (map (mark_of files) pieces) given_on
        (let n = length-map pieces (mark_of files) in omega arith) (let n = length-map pieces (mark_of files) in omega arith) refl same fills
    goes_given pieces given_on some most same counts_now seats_now (Err how) fills =
        given_ends homes files start faults (turns + 1) (drive_view seats told given idle failed afters counts) (drive_view seats_now told_now given_now idle_now failed_now [] counts_now) r told_same idle_on (map (mark_of files) pieces) ended refused how given_on
        (let n = length-map pieces (mark_of files) in omega arith) same readers fills
