-- What a fill does to the disk of its file, from its mount to where it is given back.
use Rattle.std.specs.Prelude.{◌≡◌, ◌≢◌, ◌⊎◌, ℕ, ◌++◌, List, [], ◌∷◌, Option, Some, IfSome, Result, Ok, Err, IfOk, IfErr}
use Rattle.inc_disk.specs.Disk.{DiskState, IsImage, Now, reads_of, settled}
use Rattle.inc_disk.specs.Laws.{HoldsSince, LeavesOnly}
use Rattle.inc_frame.specs.Fronts.{stream_front}
use Rattle.inc_frame.specs.declared.piece.Piece.{Piece}
use Rattle.inc_layout.specs.declared.fault.LayoutFault.{LayoutFault}
use Rattle.inc_layout.specs.declared.opened.Opened.{Opened}
use Rattle.inc_model.specs.relation.Step.{IsLegal}
use Rattle.inc_model.specs.declared.words.reply.Entry.{Entry}
use Rattle.inc_cell.specs.laws.Runs.{KeepsFront}
use Rattle.inc_cell.specs.seen.Seen.{Seen, tells}
use Rattle.inc_recover.specs.Mounting.{counted, counted_bytes}
use Rattle.inc_filling.specs.declared.from_stream.filled.FillEnd.{FillEnd}
use Rattle.inc_filling.specs.declared.from_stream.filled.FillEnd.TheVariants as end
use Rattle.inc_filling.specs.declared.from_stream.filled.FillFailure.{FillFailure}
use Rattle.inc_filling.specs.declared.from_stream.filled.FillFailure.TheVariants.{Source, Stopped}
use Rattle.inc_filling.specs.declared.from_stream.filled.Filled.{Filled}
use Rattle.inc_filling.specs.declared.stop.FillStop.TheVariants as halt
use Rattle.inc_script.specs.Words.{frame_word}
use Rattle.inc_words.specs.Endings.{EndsAs, Ending, done, refused, refused_by, stream_refused}
use Rattle.inc_words.specs.Refusals.{layout_word}
use Rattle.inc_words.specs.Texts.{fill_line}
use Rattle.inc_words.specs.declared.outcome.CommandOutcome.{CommandOutcome}
use Rattle.inc_words.specs.declared.stop.Stop.{Stop}
use Rattle.inc_words.specs.declared.stop.Stop.TheVariants.{Fault, OutOfMemory}
use Rattle.inc_cmd.specs.Commands.Fill.{FileAnswer, IsFullAt, fault_place, fill_opened, fill_over, fillable_of, piece_word}
use Rattle.inc_cmd.specs.Commands.FillMoments.{IsFillHistory, KeepsAllOpen, EndsAcknowledged, PutsPieces, fill_opening, stream_pieces}
use Rattle.inc_cmd.specs.Runs.{status_of}

-- ---- what is told of a fill

abbrev pub filled_ending : List ℕ → Filled → FillEnd → Ending
filled_ending name filled end.Done = done (fill_line name filled.written filled.present)
filled_ending name filled (end.Refused refusal) = refused name (piece_word refusal)
filled_ending name filled (end.Stream fault) = stream_refused (frame_word fault) (fault_place fault)

-- a full history has no text
abbrev pub full_ending : Ending
full_ending = record { status = 7; text = [] }

-- a file that had failed before is no case of a fill that mounted it
abbrev pub HadNotFailed : Result Filled FillFailure → Type 0
HadNotFailed (Ok filled) = Unit {0}
HadNotFailed (Err (Source stop)) = Unit {0}
HadNotFailed (Err (Stopped (halt.Failed at))) = ⊥
HadNotFailed (Err (Stopped halt.DiskFault)) = Unit {0}
HadNotFailed (Err (Stopped (halt.HistoryFull entries claimed))) = Unit {0}
HadNotFailed (Err (Stopped halt.OutOfMemory)) = Unit {0}

-- it ends so, or memory is wanted for the text
pub record EndsOrWants (ending : Ending) (result : Result CommandOutcome Stop) : Type 0 where
  pub ends : IfOk result (EndsAs ending)
  pub wants : IfErr result (λ stop. stop ≡ OutOfMemory)

abbrev pub TellsFill : List ℕ → Result Filled FillFailure → Result CommandOutcome Stop → Type 0
TellsFill name (Ok filled) result = EndsOrWants (filled_ending name filled filled.end) result
TellsFill name (Err (Source stop)) result = result ≡ Err Fault
TellsFill name (Err (Stopped halt.DiskFault)) result = result ≡ Err Fault
TellsFill name (Err (Stopped (halt.Failed at))) result = ⊥
TellsFill name (Err (Stopped (halt.HistoryFull entries claimed))) result = EndsOrWants full_ending result
TellsFill name (Err (Stopped halt.OutOfMemory)) result = result ≡ Err OutOfMemory

-- ---- a cell

-- status, text and what the disk then reads as are those of this answer
pub record AnswersFile (answer : FileAnswer) (outcome : CommandOutcome) (reads : Option (List ℕ)) : Type 0 where
  pub ends : EndsAs answer.ending outcome
  pub reads_is : reads ≡ Some answer.bytes

-- the disk reads as the file with some of the pieces, as many as are before a full history
pub record ReadsFull (opened : Opened) (bytes given : List ℕ) (reads : Option (List ℕ)) : Type 0 where
  pub left : List ℕ
  pub full : IsFullAt opened bytes (stream_front given) left
  pub reads_is : reads ≡ Some left

abbrev pub AnswersOr : List ℕ → Opened → List ℕ → Option (List ℕ) → Option (List ℕ) → Result CommandOutcome Stop → Type 0
AnswersOr name opened bytes given reads result =
    IfSome given (λ given. IfOk result (λ outcome. outcome.status.0 ≢ 7 → AnswersFile (fill_opened name opened bytes (stream_front given)) outcome reads))

abbrev pub IsFullOr : Opened → List ℕ → Option (List ℕ) → Option (List ℕ) → Result CommandOutcome Stop → Type 0
IsFullOr opened bytes given reads result = IfSome given (λ given. IfOk result (λ outcome. outcome.status.0 ≡ 7 → ReadsFull opened bytes given reads))

-- a fill of a new cell, whose disk comes back in these states
pub record FillsCell (name : List ℕ) (old : Seen) (new : List DiskState) (given : Option (List ℕ)) (result : Result CommandOutcome Stop) : Type 0 where
  pub history : List Entry
  pub legal : IsLegal 0 (tells new) old.opening history
  pub puts : IfSome (stream_pieces given) (PutsPieces old.opened history)
  pub runs : (new ≡ old.states) ⊎ LeavesOnly old.states new (KeepsFront old.opening 0 history)
  pub answer : (bytes : List ℕ) → reads_of old.states ≡ Some bytes → AnswersOr name old.opened bytes given (reads_of new) result
  pub full : (bytes : List ℕ) → reads_of old.states ≡ Some bytes → IsFullOr old.opened bytes given (reads_of new) result
  pub settled : status_of result ≢ 5 → status_of result ≢ 6 → Now new (KeepsAllOpen old.opened old.opening history)

-- ---- a file that isn't mounted

-- it is refused by what stands, whatever the stream gives
pub record IsRefusedFile (name bytes : List ℕ) (outcome : CommandOutcome) : Type 0 where
  pub fault : LayoutFault
  pub judged : fillable_of bytes ≡ Err fault
  pub ends : EndsAs (refused_by name (layout_word fault)) outcome

-- ---- a lent disk

-- whatever a crash leaves, it might have left when the disk was lent
abbrev pub StaysAsLent : DiskState → List DiskState → Type 0
StaysAsLent first new = HoldsSince 1 new (IsImage first)

-- since the first sync whatever a crash leaves keeps a state that the history has reached
pub record ReachesSince (pieces : Option (List Piece)) (first : DiskState) (new : List DiskState) : Type 0 where
  pub opened : Opened
  pub judged : fillable_of first.reads ≡ Ok opened
  pub later : List DiskState
  pub synced : new ≡ later ++ (settled first.reads ∷ first ∷ [])
  pub history : List Entry
  pub is_history : IsFillHistory opened pieces history
  pub each : HoldsSince 2 new (KeepsFront (fill_opening opened) 0 history)

abbrev pub LeavesDisk : Option (List Piece) → DiskState → List DiskState → Type 0
LeavesDisk pieces first new = StaysAsLent first new ⊎ ReachesSince pieces first new

-- the file that was mounted, with as many pieces as are before a full history
pub record FillsUp (bytes given : List ℕ) (reads : Option (List ℕ)) : Type 0 where
  pub opened : Opened
  pub judged : fillable_of bytes ≡ Ok opened
  pub full : ReadsFull (counted opened) (counted_bytes opened bytes) given reads

-- a fill of a disk that was lent in one state
pub record FillsDisk (name : List ℕ) (first : DiskState) (new : List DiskState) (given : Option (List ℕ)) (result : Result CommandOutcome Stop) : Type 0 where
  pub grew : (more : List DiskState) × (new ≡ more ++ (first ∷ []))
  pub answer : IfSome given (λ given. IfOk result (λ outcome. outcome.status.0 ≢ 7 → AnswersFile (fill_over name given first.reads) outcome (reads_of new)))
  pub full : IfSome given (λ given. IfOk result (λ outcome. outcome.status.0 ≡ 7 → FillsUp first.reads given (reads_of new)))
  pub moments : LeavesDisk (stream_pieces given) first new
  pub settled : status_of result ≢ 5 → status_of result ≢ 6 → (opened : Opened) → fillable_of first.reads ≡ Ok opened → Now new (EndsAcknowledged opened (stream_pieces given))
