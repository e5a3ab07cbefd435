-- What became of the pieces that a loader gave in one turn, or in all of them.
use Rattle.std.specs.Prelude.{◌≡◌, ◌⊎◌, ℕ, ◌+◌, ◌*◌, ◌<◌, ◌≤◌, List, [], ◌∷◌, ◌++◌, length, take, Option, Some, None, Result, Ok, Err, slice_index_or}
use Rattle.inc_bytes.specs.Tests.{first_failing}
use Rattle.inc_layout.specs.declared.opened.Opened.{Opened}
use Rattle.inc_frame.specs.declared.piece.Piece.{Piece}
use Rattle.inc_loader.specs.declared.loader_file.LoaderFile.{LoaderFile}
use Rattle.inc_loader.specs.declared.mark.PieceMark.{PieceMark}
use Rattle.inc_model.specs.declared.words.event.Event.{Event}
use Rattle.inc_model.specs.declared.words.outcomes.FillError.{FillError}
use Rattle.inc_model.specs.relation.Step.{HasRoom, state_after}
use Rattle.inc_turn.specs.Locks.{seat_view}
use Rattle.inc_turn.specs.Views.{heard}
use Rattle.inc_turn.specs.declared.view.View.{View}
use Rattle.inc_turn.specs.declared.seat.Seat.{Seat}
use Rattle.inc_cell.specs.events.CellEvents.{footing_of}
use Rattle.inc_cell.specs.events.Pieces.{piece_tests}
use Rattle.inc_cell.specs.declared.machine.CellFooting.{CellFooting}
use Rattle.inc_filling.specs.Rounds.{MayWait}
use Rattle.inc_handle.specs.Checks.{piece_refusal}
use Rattle.inc_script.specs.declared.report_text.ends.DriveEnd.{DriveEnd}
use Rattle.inc_script.specs.declared.report_text.ends.DriveEnd.TheVariants as end
use Rattle.inc_session.specs.DeedFills.{GroupIsIn, IsFillEntry, StopsGroup, tells_failed, tells_fault}
use Rattle.inc_session.specs.Deeds.{EachOf, Deed, HasOutcome, PutTarget, PutsAre, claimed_in, count_replies, was_busy, was_present, was_written, put_target_of}
use Rattle.inc_session.specs.DriveSeats.{HomeFile, SeatsAdd}
use Rattle.inc_session.specs.declared.driving.counts.DriveCounts.{DriveCounts}

-- ---- whether a piece is taken, by its mark

-- the first cause by which a file doesn't take a piece with this mark, as of a piece with the number 0
abbrev pub mark_refusal : Opened → PieceMark → Option FillError
mark_refusal opened mark = first_failing (piece_tests opened mark.hash mark.number mark.compression mark.len)

-- what the file of a mark says of it
pub record MarkIs (homes : List HomeFile) (files : List LoaderFile) (mark : PieceMark) (refusal : Option FillError) : Type 0 where
  pub target : PutTarget
  pub target_is : put_target_of files mark ≡ Some target
  pub refusal_is : (d : HomeFile) → mark_refusal (slice_index_or homes target.file d).begun.opened mark ≡ refusal

-- ---- pieces that are in

-- Each of these pieces is one of a file that takes it, was put, in the order in which they were given, and has its outcome: so many were
-- written, were present or busy.
pub record MarksAreIn (homes : List HomeFile) (files : List LoaderFile) (marks : List PieceMark) (deeds : List Deed) (old new : DriveCounts) : Type 0 where
  pub taken : EachOf (λ (mark : PieceMark). MarkIs homes files mark None) marks
  pub puts : PutsAre files marks deeds
  pub outcomes : EachOf (λ (deed : Deed). HasOutcome deed.entry.event deed.entry.reply) deeds
  pub written : new.written ≡ old.written + count_replies was_written deeds
  pub present : new.present ≡ old.present + count_replies was_present deeds
  pub busy : new.busy ≡ old.busy + count_replies was_busy deeds

-- at most 7 entries and 6 claimed places for each piece
pub record AreFewDeeds (deeds : List Deed) (count : ℕ) : Type 0 where
  pub deeds_few : length deeds ≤ 7 * count
  pub claims_few : claimed_in deeds ≤ 6 * count

pub record GivenIsIn (homes : List HomeFile) (files : List LoaderFile) (before : List (Seat CellFooting)) (marks : List PieceMark) (old new : DriveCounts) (after : List (Seat CellFooting)) : Type 0 where
  pub deeds : List Deed
  pub seats : SeatsAdd before after deeds
  pub fill : EachOf (λ (deed : Deed). IsFillEntry deed.entry) deeds
  pub few : AreFewDeeds deeds (length marks)
  pub are_in : MarksAreIn homes files marks deeds old new
  pub told : new.told ≡ old.told

-- ---- pieces at which a drive ends

-- the history of one of the files has no room for an event, by what the drive's seat has seen
pub record IsFullHome (homes : List HomeFile) (seats : List (Seat CellFooting)) : Type 0 where
  pub file : ℕ
  pub here : file < length homes
  pub event : Event
  pub no_room : (h : HomeFile) (s : Seat CellFooting) → HasRoom (length (heard (seat_view (slice_index_or seats file s)))) (state_after 0 (footing_of (slice_index_or homes file h).begun).opening (heard (seat_view (slice_index_or seats file s)))) event → ⊥

-- the first of these is such a one
pub record FirstMark (marks : List PieceMark) (Is : PieceMark → Type 0) : Type 0 where
  pub mark : PieceMark
  pub later : List PieceMark
  pub marks_are : marks ≡ mark ∷ later
  pub is : Is mark

-- by which cause: `rest` are the deeds of the group that isn't in, and `marks` begin with its pieces
abbrev pub StopsAt : List HomeFile → List LoaderFile → List PieceMark → List Deed → List (Seat CellFooting) → DriveEnd → Type 0
StopsAt homes files marks rest seats end.UnknownFile = FirstMark marks (λ mark. put_target_of files mark ≡ None) × (rest ≡ [])
StopsAt homes files marks rest seats (end.Refused error) = FirstMark marks (λ mark. MarkIs homes files mark (Some error)) × (rest ≡ [])
StopsAt homes files marks rest seats end.Fault = 0 < count_replies tells_fault rest
StopsAt homes files marks rest seats end.Failed = 0 < count_replies tells_failed rest
StopsAt homes files marks rest seats end.HistoryFull = IsFullHome homes seats × (rest ≡ [])
StopsAt homes files marks rest seats end.OutOfMemory = rest ≡ []
StopsAt homes files marks rest seats end.Done = ⊥
StopsAt homes files marks rest seats end.Stopped = ⊥
StopsAt homes files marks rest seats (end.Frame fault) = ⊥

-- The first of the pieces are in, and of the others at most a front was put.
pub record GivenStops (homes : List HomeFile) (files : List LoaderFile) (before : List (Seat CellFooting)) (marks : List PieceMark) (old new : DriveCounts) (stop : DriveEnd) (after : List (Seat CellFooting)) : Type 0 where
  pub counted : List Deed
  pub rest : List Deed
  pub seats : SeatsAdd before after (counted ++ rest)
  pub fill : EachOf (λ (deed : Deed). IsFillEntry deed.entry) (counted ++ rest)
  pub few : AreFewDeeds (counted ++ rest) (length marks)
  pub front : List PieceMark
  pub later : List PieceMark
  pub marks_are : marks ≡ front ++ later
  pub are_in : MarksAreIn homes files front counted old new
  pub begun : ℕ
  pub puts : PutsAre files (take begun later) rest
  pub cause : StopsAt homes files later rest after stop
  pub told : new.told ≡ old.told

abbrev pub FillsGiven : {T : Type 0} → List HomeFile → List LoaderFile → List (Seat CellFooting) → List PieceMark → DriveCounts → Result T DriveEnd → DriveCounts → List (Seat CellFooting) → Type 0
FillsGiven homes files before marks old (Ok done) new after = GivenIsIn homes files before marks old new after
FillsGiven homes files before marks old (Err stop) new after = GivenStops homes files before marks old new stop after

-- ---- one group

-- the first piece is refused, and nothing has happened; or a group of the first pieces isn't in
pub record RefusesFirst (file : CellFooting) (v : View CellFooting) (pieces : List Piece) (stop : DriveEnd) (w : View CellFooting) : Type 0 where
  pub error : FillError
  pub stop_is : stop ≡ end.Refused error
  pub refusal_is : (d : Piece) → piece_refusal file.opened (slice_index_or pieces 0 d) ≡ Some error
  pub same : w ≡ v

pub record StopsFirst (file : CellFooting) (v : View CellFooting) (pieces : List Piece) (stop : DriveEnd) (w : View CellFooting) : Type 0 where
  pub len : ℕ
  pub some : 1 ≤ len
  pub within : len ≤ length pieces
  pub may : MayWait file.opened (take len pieces)
  pub stops : StopsGroup file v (take len pieces) stop w

pub record FirstIsIn (file : CellFooting) (v : View CellFooting) (pieces : List Piece) (len : ℕ) (old new : DriveCounts) (w : View CellFooting) : Type 0 where
  pub some : 1 ≤ len
  pub within : len ≤ length pieces
  pub may : MayWait file.opened (take len pieces)
  pub is_in : GroupIsIn file v (take len pieces) old new w

abbrev pub FillsFirst : CellFooting → View CellFooting → List Piece → DriveCounts → Result ℕ DriveEnd → DriveCounts → View CellFooting → Type 0
FillsFirst file v pieces old (Ok len) new w = FirstIsIn file v pieces len old new w
FillsFirst file v pieces old (Err stop) new w = (RefusesFirst file v pieces stop w ⊎ StopsFirst file v pieces stop w) × (new ≡ old)
