-- What taking the waiting reads of the files, and telling them to the loader, leaves.
use Rattle.std.specs.Prelude.{◌≡◌, ◌⊎◌, ℕ, ◌+◌, ◌-◌, ◌^◌, ◌<◌, ◌≤◌, Bool, true, false, List, [], ◌∷◌, ◌++◌, length, Some, None, Result, Ok, Err, slice_index_or}
use Rattle.inc_io.specs.Causes.{Rose}
use Rattle.inc_pending.specs.declared.pending_record.PendingRecord.{PendingRecord}
use Rattle.inc_model.specs.declared.words.event.Event.TheVariants.{TakePending}
use Rattle.inc_model.specs.declared.words.reply.Entry.{Entry}
use Rattle.inc_model.specs.declared.words.reply.Reply.TheVariants.{Taken}
use Rattle.inc_turn.specs.Turns.{AddsOwn}
use Rattle.inc_turn.specs.declared.view.View.{View}
use Rattle.inc_turn.specs.declared.seat.Seat.{Seat}
use Rattle.inc_cell.specs.declared.machine.CellFooting.{CellFooting}
use Rattle.inc_handle.specs.UnderWay.{IsFullFile}
use Rattle.inc_script.specs.declared.report_text.ends.DriveEnd.{DriveEnd}
use Rattle.inc_script.specs.declared.report_text.ends.DriveEnd.TheVariants as end
use Rattle.inc_session.specs.Deeds.{EachOf, Deed, entries_at, reads_taken, readers_left, serial_after}
use Rattle.inc_session.specs.DriveSeats.{HomeFile, SeatsAdd}
use Rattle.inc_session.specs.GivenFills.{IsFullHome}
use Rattle.inc_session.specs.declared.driving.counts.DriveCounts.{DriveCounts}

-- the reads over a serial were taken, all of them
abbrev pub take_entry : ℕ → ℕ → List PendingRecord → ℕ → Entry
take_entry who after records readers = record { who = who; event = TakePending after (2 ^ 32 - 1); reply = Taken records readers }

-- an entry that took reads
pub record IsTakeEntry (entry : Entry) : Type 0 where
  pub who : ℕ
  pub after : ℕ
  pub records : List PendingRecord
  pub readers : ℕ
  pub entry_is : entry ≡ take_entry who after records readers

-- ---- telling

-- Of these reads the first ones were told, and they are counted; all of them where nothing hindered it.
pub record TellsFirst (reads : List PendingRecord) (told_before told : List PendingRecord) (old new : DriveCounts) (unsaid : List PendingRecord) : Type 0 where
  pub said : List PendingRecord
  pub reads_are : reads ≡ said ++ unsaid
  pub told_are : told ≡ told_before ++ said
  pub counted : new ≡ record old { told = old.told + length said }

-- a loader's fault, or want of memory
abbrev pub TellStop : ℕ → ℕ → DriveEnd → Type 0
TellStop faults_before faults end.Fault = (faults_before ≤ faults) × Rose faults_before faults
TellStop faults_before faults end.OutOfMemory = faults ≡ faults_before
TellStop faults_before faults other = ⊥

abbrev pub TellsReads : {T : Type 0} → List PendingRecord → List PendingRecord → List PendingRecord → DriveCounts → DriveCounts → ℕ → ℕ → Result T DriveEnd → Type 0
TellsReads reads told_before told old new faults_before faults (Ok done) = TellsFirst reads told_before told old new [] × (faults ≡ faults_before)
TellsReads reads told_before told old new faults_before faults (Err stop) = ((unsaid : List PendingRecord) × TellsFirst reads told_before told old new unsaid) × TellStop faults_before faults stop

-- ---- one file

-- one entry, which took these reads; the next ones will be taken after the last of them
pub record TakesOnce (v : View CellFooting) (after_before after : ℕ) (records : List PendingRecord) (readers : ℕ) (w : View CellFooting) : Type 0 where
  pub adds : AddsOwn v w (take_entry v.number after_before records readers ∷ [])
  pub after_is : after ≡ serial_after after_before records

pub record TakesAll (v : View CellFooting) (after_before after : ℕ) (told_before told : List PendingRecord) (old new : DriveCounts) (some : Bool) (w : View CellFooting) : Type 0 where
  pub records : List PendingRecord
  pub readers : ℕ
  pub takes : TakesOnce v after_before after records readers w
  pub tells : TellsFirst records told_before told old new []
  pub some_are : some ≡ true → 0 < readers
  pub none_are : some ≡ false → readers ≡ 0

-- it was taken, but not all was told
pub record TakesUntold (v : View CellFooting) (after_before after : ℕ) (told_before told : List PendingRecord) (old new : DriveCounts) (w : View CellFooting) : Type 0 where
  pub records : List PendingRecord
  pub readers : ℕ
  pub unsaid : List PendingRecord
  pub takes : TakesOnce v after_before after records readers w
  pub tells : TellsFirst records told_before told old new unsaid

-- nothing was taken
pub record TakesNone (v : View CellFooting) (told_before told : List PendingRecord) (old new : DriveCounts) (w : View CellFooting) : Type 0 where
  pub adds : AddsOwn v w []
  pub told_same : told ≡ told_before
  pub counts_same : new ≡ old

abbrev pub TakesFile : CellFooting → View CellFooting → ℕ → ℕ → List PendingRecord → List PendingRecord → DriveCounts → DriveCounts → ℕ → ℕ → Result Bool DriveEnd → View CellFooting → Type 0
TakesFile file v after_before after told_before told old new faults_before faults (Ok some) w = TakesAll v after_before after told_before told old new some w × (faults ≡ faults_before)
TakesFile file v after_before after told_before told old new faults_before faults (Err end.HistoryFull) w =
    ((entries : ℕ) × (claimed : ℕ) × IsFullFile file v (TakePending after_before (2 ^ 32 - 1)) entries claimed w) × TakesNone v told_before told old new w × (faults ≡ faults_before)
TakesFile file v after_before after told_before told old new faults_before faults (Err stop) w =
    (TakesNone v told_before told old new w ⊎ TakesUntold v after_before after told_before told old new w) × TellStop faults_before faults stop

-- ---- all files

-- the one entry of a turn at a file
pub record TookAt (after_before after : ℕ) (entries : List Entry) : Type 0 where
  pub who : ℕ
  pub records : List PendingRecord
  pub readers : ℕ
  pub entries_are : entries ≡ take_entry who after_before records readers ∷ []
  pub after_is : after ≡ serial_after after_before records

-- readers of the first so many files are left; or none is
pub record HasReaders (count : ℕ) (deeds : List Deed) : Type 0 where
  pub file : ℕ
  pub here : file < count
  pub readers : ℕ
  pub left_are : readers_left None (entries_at file deeds) ≡ Some readers
  pub some : 0 < readers

abbrev pub HasNoReaders : ℕ → List Deed → Type 0
HasNoReaders count deeds = (file : ℕ) → file < count → readers_left None (entries_at file deeds) ≡ Some 0

abbrev pub ReadersLeft : Bool → ℕ → List Deed → Type 0
ReadersLeft true count deeds = HasReaders count deeds
ReadersLeft false count deeds = HasNoReaders count deeds

-- of each of the first so many files the reads were taken once, and of the others not
pub record TookFirst (before : List (Seat CellFooting)) (count : ℕ) (afters_before afters : List ℕ) (deeds : List Deed) (after : List (Seat CellFooting)) : Type 0 where
  pub seats : SeatsAdd before after deeds
  pub afters_count : length afters ≡ length afters_before
  pub taken : (k : ℕ) (d : ℕ) → k < count → TookAt (slice_index_or afters_before k d) (slice_index_or afters k d) (entries_at k deeds)
  pub rest : (k : ℕ) (d : ℕ) → count ≤ k → (entries_at k deeds ≡ []) × (slice_index_or afters k d ≡ slice_index_or afters_before k d)
  pub each : EachOf (λ (deed : Deed). IsTakeEntry deed.entry) deeds

-- of the first so many files the reads were taken and told
pub record TurnIsTold (before : List (Seat CellFooting)) (count : ℕ) (afters_before afters : List ℕ) (told_before told : List PendingRecord) (old new : DriveCounts) (some : Bool) (after : List (Seat CellFooting)) : Type 0 where
  pub deeds : List Deed
  pub took : TookFirst before count afters_before afters deeds after
  pub tells : TellsFirst (reads_taken deeds) told_before told old new []
  pub left : ReadersLeft some count deeds

abbrev pub TurnStopCause : List HomeFile → List (Seat CellFooting) → ℕ → ℕ → List PendingRecord → DriveEnd → Type 0
TurnStopCause homes seats faults_before faults unsaid end.HistoryFull = IsFullHome homes seats × (unsaid ≡ []) × (faults ≡ faults_before)
TurnStopCause homes seats faults_before faults unsaid stop = TellStop faults_before faults stop

-- at one of the files the turn came to an end
pub record TurnStops (homes : List HomeFile) (before : List (Seat CellFooting)) (afters_before : List ℕ) (told_before told : List PendingRecord) (old new : DriveCounts) (faults_before faults : ℕ) (stop : DriveEnd) (after : List (Seat CellFooting)) : Type 0 where
  pub deeds : List Deed
  pub unsaid : List PendingRecord
  pub seats : SeatsAdd before after deeds
  pub each : EachOf (λ (deed : Deed). IsTakeEntry deed.entry) deeds
  pub once : (k : ℕ) (d : ℕ) → k < length before → (entries_at k deeds ≡ []) ⊎ ((next : ℕ) × TookAt (slice_index_or afters_before k d) next (entries_at k deeds))
  pub tells : TellsFirst (reads_taken deeds) told_before told old new unsaid
  pub cause : TurnStopCause homes after faults_before faults unsaid stop

abbrev pub TakesTurnOf : List HomeFile → List (Seat CellFooting) → List ℕ → List ℕ → List PendingRecord → List PendingRecord → DriveCounts → DriveCounts → ℕ → ℕ → Result Bool DriveEnd → List (Seat CellFooting) → Type 0
TakesTurnOf homes before afters_before afters told_before told old new faults_before faults (Ok some) after =
    TurnIsTold before (length before) afters_before afters told_before told old new some after × (faults ≡ faults_before)
TakesTurnOf homes before afters_before afters told_before told old new faults_before faults (Err stop) after = TurnStops homes before afters_before told_before told old new faults_before faults stop after
