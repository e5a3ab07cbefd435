-- What a loader's answers mean for what it holds.
use Rattle.std.specs.Prelude.{◌≡◌, ◌≢◌, ℕ, ◌≤◌, Bool, true, false, List, [], ◌∷◌, ◌++◌, length, map, Option, Some, None, ⊤}
use Rattle.std.specs.Option.{unwrap_or}
use Rattle.inc_io.specs.Causes.{Rose}
use Rattle.inc_frame.specs.declared.fault.FrameFault.{FrameFault}
use Rattle.inc_frame.specs.declared.fault.FrameFault.TheVariants.{OutOfMemory as no_fault_of_the_stream}
use Rattle.inc_pending.specs.declared.pending_record.PendingRecord.{PendingRecord}
use Rattle.inc_loader.specs.declared.loader_file.LoaderFile.{LoaderFile}
use Rattle.inc_loader.specs.declared.mark.PieceMark.{PieceMark}
use Rattle.inc_loader.specs.declared.turn.LoaderTurn.{LoaderTurn}
use Rattle.inc_loader.specs.declared.turn.LoaderTurn.TheVariants as turn
use Rattle.inc_loader.specs.declared.turn.Given.{Given}
use Rattle.inc_loader.specs.declared.turn.Given.TheVariants as given
use Rattle.inc_loader.specs.Marks.{mark_of}

-- a loader of which nothing was asked, by its files, told reads, given marks, refusal, end and stop
abbrev pub IsFreshLoader : Option (List LoaderFile) → List PendingRecord → List PieceMark → Option FrameFault → Bool → Bool → Type 0
IsFreshLoader prepared told given refused ended stopped = (prepared ≡ None) × (told ≡ []) × (given ≡ []) × (refused ≡ None) × (ended ≡ false) × (stopped ≡ false)

-- the first files that it was prepared for are its files for good
abbrev pub Prepares : List LoaderFile → LoaderTurn → Option (List LoaderFile) → Option (List LoaderFile) → Type 0
Prepares files turn.Fine None after = after ≡ Some files
Prepares files turn.Fine (Some earlier) after = after ≡ Some earlier
Prepares files turn.Failed before after = after ≡ before
Prepares files turn.OutOfMemory before after = after ≡ before

-- it was told the read only where it says so
abbrev pub HearsRead : PendingRecord → LoaderTurn → List PendingRecord → List PendingRecord → Type 0
HearsRead read turn.Fine before after = after ≡ before ++ read ∷ []
HearsRead read turn.Failed before after = after ≡ before
HearsRead read turn.OutOfMemory before after = after ≡ before

-- the marks of what it gave grow by those of the pieces, in their order
abbrev pub GivesMarks : Option (List LoaderFile) → Given → List PieceMark → List PieceMark → Type 0
GivesMarks files (given.Pieces pieces) before after = after ≡ before ++ map (mark_of (unwrap_or files [])) pieces
GivesMarks files given.Nothing before after = after ≡ before
GivesMarks files given.Done before after = after ≡ before
GivesMarks files (given.Bad fault) before after = after ≡ before
GivesMarks files given.Failed before after = after ≡ before
GivesMarks files given.OutOfMemory before after = after ≡ before

-- what an answer says of the loader: that it has ended, that it is refused, or that it was idle once more
abbrev pub Answers : Given → Bool → Option FrameFault → ℕ → ℕ → Type 0
Answers (given.Pieces pieces) ended refused idle_before idle = (1 ≤ length pieces) × (length pieces ≤ 64)
Answers given.Nothing ended refused idle_before idle = Rose idle_before idle
Answers given.Done ended refused idle_before idle = ended ≡ true
Answers (given.Bad fault) ended refused idle_before idle = refused ≡ Some fault
Answers given.Failed ended refused idle_before idle = ⊤
Answers given.OutOfMemory ended refused idle_before idle = ⊤

-- `Done` comes exactly where a loader has ended and this call gave no piece of it, whether it had ended before or not
abbrev pub EndsInDone : Given → Bool → Bool → Type 0
EndsInDone (given.Pieces pieces) before after = before ≡ false
EndsInDone given.Nothing before after = after ≡ false
EndsInDone given.Done before after = after ≡ true
EndsInDone (given.Bad fault) before after = after ≡ false
EndsInDone given.Failed before after = after ≡ false
EndsInDone given.OutOfMemory before after = after ≡ false

-- a loader that is refused stays so, by the same fault, and want of memory is no fault of a stream
abbrev pub StaysRefused : Option FrameFault → Option FrameFault → Type 0
StaysRefused None after = after ≢ Some no_fault_of_the_stream
StaysRefused (Some fault) after = after ≡ Some fault

abbrev pub StaysTrue : Bool → Bool → Type 0
StaysTrue before after = before ≡ true → after ≡ true

-- it answers that it failed only where its count of faults rose, and else the count stays
abbrev pub TurnCause : ℕ → ℕ → LoaderTurn → Type 0
TurnCause before now turn.Fine = now ≡ before
TurnCause before now turn.Failed = Rose before now
TurnCause before now turn.OutOfMemory = now ≡ before

abbrev pub GivenCause : ℕ → ℕ → Given → Type 0
GivenCause before now (given.Pieces pieces) = now ≡ before
GivenCause before now given.Nothing = now ≡ before
GivenCause before now given.Done = now ≡ before
GivenCause before now (given.Bad fault) = now ≡ before
GivenCause before now given.Failed = Rose before now
GivenCause before now given.OutOfMemory = now ≡ before
