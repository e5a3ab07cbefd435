-- A drive: what a loader was told and gave, against the entries that the drive's seats left in the histories of the files.
use Rattle.std.specs.Prelude.{◌≡◌, ◌⊎◌, ℕ, ◌+◌, ◌-◌, ◌*◌, ◌^◌, ◌<◌, ◌≤◌, min, Bool, true, List, [], ◌++◌, length, take, Option, Some, Result, Ok, Err, slice_index_or}
use Rattle.inc_io.specs.Causes.{Rose}
use Rattle.inc_pending.specs.declared.pending_record.PendingRecord.{PendingRecord}
use Rattle.inc_frame.specs.declared.fault.FrameFault.{FrameFault}
use Rattle.inc_loader.specs.declared.loader_file.LoaderFile.{LoaderFile}
use Rattle.inc_loader.specs.declared.mark.PieceMark.{PieceMark}
use Rattle.inc_loader.specs.declared.turn.LoaderTurn.{LoaderTurn}
use Rattle.inc_loader.specs.declared.turn.LoaderTurn.TheVariants as turn
use Rattle.inc_turn.specs.declared.seat.Seat.{Seat}
use Rattle.inc_cell.specs.declared.machine.CellFooting.{CellFooting}
use Rattle.inc_script.specs.declared.report_text.ends.DriveEnd.{DriveEnd}
use Rattle.inc_script.specs.declared.report_text.ends.DriveEnd.TheVariants as end
use Rattle.inc_script.specs.declared.report_text.ends.LoaderLine.{LoaderLine}
use Rattle.inc_session.specs.DeedFills.{tells_fault}
use Rattle.inc_session.specs.Deeds.{EachOf, AsksOnward, Deed, IsDriveEvent, PutsAre, claimed_in, count_replies, entries_at, reads_taken, serial_of, takes_in}
use Rattle.inc_session.specs.DriveSeats.{HomeFile, SeatsAdd, files_of}
use Rattle.inc_session.specs.GivenFills.{IsFullHome, MarksAreIn, StopsAt}
use Rattle.inc_session.specs.ReadTakes.{HasNoReaders, HasReaders}
use Rattle.inc_session.specs.declared.driving.counts.DriveCounts.{DriveCounts}

-- what of a drive is seen at a moment: its seats, what the loader was told and gave, how often it was idle and failed, the last serials, the counts
pub record DriveView : Type 0 where
  pub seats : List (Seat CellFooting)
  pub told : List PendingRecord
  pub given : List PieceMark
  pub idle : ℕ
  pub faults : ℕ
  pub afters : List ℕ
  pub counts : DriveCounts

abbrev pub drive_view : List (Seat CellFooting) → List PendingRecord → List PieceMark → ℕ → ℕ → List ℕ → DriveCounts → DriveView
drive_view seats told given idle faults afters counts = record { seats = seats; told = told; given = given; idle = idle; faults = faults; afters = afters; counts = counts }

abbrev pub no_counts : DriveCounts
no_counts = record { told = 0; written = 0; present = 0; busy = 0 }

-- ---- between two turns

-- So many turns were taken, the last of which may be open: its pieces weren't asked for yet. In each the reads of each file were taken once, those after the last one before, and all that were taken were
-- told, in their order. Each piece that was given was put in its file, in order, and has its outcome.
pub record DriveRuns (homes : List HomeFile) (files : List LoaderFile) (start : List (Seat CellFooting)) (faults : ℕ) (turns open_turns : ℕ) (view : DriveView) : Type 0 where
  pub log : List Deed
  pub seats : SeatsAdd start view.seats log
  pub events : EachOf (λ (deed : Deed). IsDriveEvent deed.entry.event) log
  pub told_are : view.told ≡ reads_taken log
  pub told_count : view.counts.told ≡ length view.told
  pub are_in : MarksAreIn homes files view.given log no_counts view.counts
  pub asks : (k : ℕ) → k < length homes → AsksOnward 0 (entries_at k log)
  pub afters_count : length view.afters ≡ length homes
  pub afters_are : (k : ℕ) (d : ℕ) → k < length homes → slice_index_or view.afters k d ≡ serial_of 0 (entries_at k log)
  pub takes : (k : ℕ) → k < length homes → takes_in (entries_at k log) ≡ turns
  pub given_few : length view.given + 64 * open_turns ≤ 64 * turns
  pub few : (k : ℕ) → k < length homes → length (entries_at k log) ≤ turns + 7 * length view.given
  pub claims_few : claimed_in log ≤ 6 * length view.given
  pub nothings : ℕ
  pub turns_few : turns ≤ length view.given + nothings + open_turns
  pub idle_is : min nothings (2 ^ 64 - 1) ≤ view.idle
  pub calm : view.faults ≡ faults

-- ---- how it ends

-- no fault of the loader and no want of memory
abbrev pub IsCalmEnd : DriveEnd → Type 0
IsCalmEnd end.Fault = ⊥
IsCalmEnd end.OutOfMemory = ⊥
IsCalmEnd end.Done = Unit {0}
IsCalmEnd end.Stopped = Unit {0}
IsCalmEnd end.UnknownFile = Unit {0}
IsCalmEnd (end.Refused error) = Unit {0}
IsCalmEnd (end.Frame fault) = Unit {0}
IsCalmEnd end.Failed = Unit {0}
IsCalmEnd end.HistoryFull = Unit {0}

-- By which cause. `later` are the pieces that haven't their outcomes, and `rest` is what was done for the first of them. Where a piece was asked for in
-- the last turn, some file had readers.
abbrev pub EndsBy : List HomeFile → List LoaderFile → List PieceMark → List Deed → List Deed → List (Seat CellFooting) → Bool → Option FrameFault → ℕ → ℕ → DriveEnd → Type 0
EndsBy homes files later rest log seats ended refused faults_before faults end.Done = (later ≡ []) × (rest ≡ []) × (ended ≡ true) × HasReaders (length homes) log
EndsBy homes files later rest log seats ended refused faults_before faults (end.Frame fault) = (later ≡ []) × (rest ≡ []) × (refused ≡ Some fault) × HasReaders (length homes) log
EndsBy homes files later rest log seats ended refused faults_before faults end.Stopped = (later ≡ []) × (rest ≡ []) × HasNoReaders (length homes) log
EndsBy homes files later rest log seats ended refused faults_before faults end.Fault = Rose faults_before faults ⊎ (0 < count_replies tells_fault rest)
EndsBy homes files later rest log seats ended refused faults_before faults end.HistoryFull = IsFullHome homes seats × (rest ≡ [])
EndsBy homes files later rest log seats ended refused faults_before faults end.OutOfMemory = Unit {0}
EndsBy homes files later rest log seats ended refused faults_before faults end.UnknownFile = StopsAt homes files later rest seats end.UnknownFile × HasReaders (length homes) log
EndsBy homes files later rest log seats ended refused faults_before faults (end.Refused error) = StopsAt homes files later rest seats (end.Refused error) × HasReaders (length homes) log
EndsBy homes files later rest log seats ended refused faults_before faults end.Failed = StopsAt homes files later rest seats end.Failed × HasReaders (length homes) log

-- All that was told was taken, in order, each read once; all that was taken was told, unless the loader failed or memory was wanting. The first pieces
-- that were given have their outcomes and are counted, and of the others at most a front was put.
pub record DriveEnds (homes : List HomeFile) (files : List LoaderFile) (start : List (Seat CellFooting)) (faults : ℕ) (view : DriveView) (ended : Bool) (refused : Option FrameFault) (how : DriveEnd) : Type 0 where
  pub counted : List Deed
  pub rest : List Deed
  pub seats : SeatsAdd start view.seats (counted ++ rest)
  pub events : EachOf (λ (deed : Deed). IsDriveEvent deed.entry.event) (counted ++ rest)
  pub unsaid : List PendingRecord
  pub told_are : view.told ++ unsaid ≡ reads_taken (counted ++ rest)
  pub all_told : IsCalmEnd how → unsaid ≡ []
  pub told_count : view.counts.told ≡ length view.told
  pub front : List PieceMark
  pub later : List PieceMark
  pub given_are : view.given ≡ front ++ later
  pub are_in : MarksAreIn homes files front counted no_counts view.counts
  pub begun : ℕ
  pub puts : PutsAre files (take begun later) rest
  pub asks : (k : ℕ) → k < length homes → AsksOnward 0 (entries_at k (counted ++ rest))
  pub given_few : (k : ℕ) → k < length homes → length view.given ≤ 64 * takes_in (entries_at k (counted ++ rest))
  pub turns : ℕ
  pub few : (k : ℕ) → k < length homes → length (entries_at k (counted ++ rest)) ≤ turns + 7 * length view.given
  pub claims_few : claimed_in (counted ++ rest) ≤ 6 * length view.given
  pub nothings : ℕ
  pub turns_few : turns ≤ length view.given + nothings + 1
  pub idle_is : min nothings (2 ^ 64 - 1) ≤ view.idle
  pub cause : EndsBy homes files later rest (counted ++ rest) view.seats ended refused faults view.faults how
  pub calm : IsCalmEnd how → view.faults ≡ faults
  pub later_faults : faults ≤ view.faults

abbrev pub DriveGoes : {T : Type 0} → List HomeFile → List LoaderFile → List (Seat CellFooting) → ℕ → ℕ → DriveView → Bool → Option FrameFault → Result T DriveEnd → Type 0
DriveGoes homes files start faults turns view ended refused (Ok done) = DriveRuns homes files start faults (turns + 1) 0 view
DriveGoes homes files start faults turns view ended refused (Err how) = DriveEnds homes files start faults (record view { afters = [] }) ended refused how

-- ---- the whole of it

-- a loader that couldn't be stopped has failed, whatever came before
abbrev pub after_fault : DriveEnd → DriveEnd
after_fault end.OutOfMemory = end.OutOfMemory
after_fault how = end.Fault

abbrev pub end_after : DriveEnd → LoaderTurn → DriveEnd
end_after how turn.Fine = how
end_after how turn.Failed = after_fault how
end_after how turn.OutOfMemory = end.OutOfMemory

abbrev pub counts_in : LoaderLine → DriveCounts
counts_in line = record { told = line.told; written = line.written; present = line.present; busy = line.busy }

-- The loader was prepared for the files first, and stopped last. What it was told and gave stands in the histories of the files, by the entries of the
-- drive's seats, and the line tells of it.
pub record IsLoaderDriven (homes : List HomeFile) (before after : List (Seat CellFooting)) (prepared : Option (List LoaderFile)) (told : List PendingRecord) (given : List PieceMark) (idle faults_before faults : ℕ) (ended stopped : Bool) (refused : Option FrameFault)
    (line : LoaderLine) : Type 0 where
  pub stopped_is : stopped ≡ true
  pub prepared_is : IsCalmEnd line.end → prepared ≡ Some (files_of homes)
  pub ends : DriveEnds homes (files_of homes) before faults_before (drive_view after told given idle faults [] (counts_in line)) ended refused line.end
