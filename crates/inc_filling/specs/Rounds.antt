-- A fill on its way: what was read of its stream, what of that is in, and what waits for the next group.
use Rattle.std.specs.Prelude.{◌≡◌, ℕ, ◌+◌, ◌<◌, Bool, true, List, [], ◌∷◌, length, take, Option, Some, None, slice_index_or, Result, Ok, Err}
use Rattle.inc_frame.specs.Fronts.{has_ended}
use Rattle.inc_frame.specs.declared.piece.Piece.{Piece}
use Rattle.inc_layout.specs.declared.opened.Opened.{Opened}
use Rattle.inc_loader.specs.Reading.{IsReadStream, before_rest}
use Rattle.inc_loader.specs.declared.stream.piece_reader.PieceReader.{PieceReader}
use Rattle.inc_loader.specs.declared.stream.stop.ReadStop.{ReadStop}
use Rattle.inc_loader.specs.declared.stream.stop.ReadStop.TheVariants as read
use Rattle.inc_model.specs.declared.words.event.Window.{Window}
use Rattle.inc_cell.specs.seen.Seen.{Seen}
use Rattle.inc_filling.specs.Filled.{AreIn, FillsFrom, StopsBy}
use Rattle.inc_filling.specs.Grouped.{AreDistinct}
use Rattle.inc_filling.specs.Pieces.{AreTaken, piece_indices}
use Rattle.inc_filling.specs.Refusals.{refusal_of}
use Rattle.inc_filling.specs.declared.from_stream.filled.FillEnd.{FillEnd}
use Rattle.inc_filling.specs.declared.from_stream.filled.FillEnd.TheVariants.{Done, Refused, Stream}
use Rattle.inc_filling.specs.declared.from_stream.filled.FillFailure.{FillFailure}
use Rattle.inc_filling.specs.declared.from_stream.filled.FillFailure.TheVariants.{Source, Stopped}
use Rattle.inc_filling.specs.declared.from_stream.gathering.Pause.{Pause}
use Rattle.inc_filling.specs.declared.from_stream.gathering.Pause.TheVariants.{Group, End}
use Rattle.inc_filling.specs.declared.stop.FillStop.{FillStop}
use Rattle.inc_filling.specs.declared.stop.FillStop.TheVariants.{OutOfMemory}

-- ---- the pieces that wait

-- of one input a reader has read these bytes and given these pieces
abbrev pub HasReadPieces : Option (List ℕ) → List ℕ → List Piece → PieceReader → Bool → Option (List ℕ) → Type 0
HasReadPieces all bytes gave reader source_ended left =
    IsReadStream all bytes gave reader.whole.items reader.reader.state reader.refused source_ended (before_rest (take reader.filled reader.room.items) left)

-- pieces that may be one group
pub record MayWait (opened : Opened) (pieces : List Piece) : Type 0 where
  pub taken : AreTaken opened pieces
  pub distinct : AreDistinct (piece_indices opened pieces)

-- none of these pieces is of the same block
abbrev pub AreOtherBlocks : Piece → List Piece → Type 0
AreOtherBlocks piece pieces = (k : ℕ) (d : Piece) → k < length pieces → (slice_index_or pieces k d).hash ≡ piece.hash → (slice_index_or pieces k d).number ≡ piece.number → ⊥

-- the next whole piece is refused; or none is whole, and the stream has its fault or its end
abbrev pub EndsReader : Opened → PieceReader → FillEnd → Type 0
EndsReader opened reader (Refused refusal) = (next : Piece) × (rest : List Piece) × (reader.whole.items ≡ next ∷ rest) × (refusal_of opened next ≡ Some refusal)
EndsReader opened reader (Stream fault) = (reader.whole.items ≡ []) × (reader.refused ≡ Some fault)
EndsReader opened reader Done = (reader.whole.items ≡ []) × (has_ended reader.reader.state ≡ true)

-- a group is to be filled before more is taken, or the fill has its end
abbrev pub PausesAt : Opened → List Piece → PieceReader → Pause → Type 0
PausesAt opened waiting reader Group = 0 < length waiting
PausesAt opened waiting reader (End end) = (reader.filled ≡ 0) × EndsReader opened reader end

-- ---- one group more

-- the pieces that waited are in too, or filling them has stopped
abbrev pub FillsWaiting : {T : Type 0} → Seen → Window → List Piece → ℕ → ℕ → Result T FillStop → Seen → Type 0
FillsWaiting start window pieces written present (Ok done) new = AreIn start window pieces written present new
FillsWaiting start window pieces written present (Err stop) new = StopsBy start window pieces stop new

-- Since the start all pieces that the reader gave were taken and are in, with these totals.
pub record IsUnderWay (start : Seen) (window : Window) (all : Option (List ℕ)) (written present : ℕ) (reader : PieceReader) (source_ended : Bool) (left : Option (List ℕ)) (seen : Seen) : Type 0 where
  pub bytes : List ℕ
  pub gave : List Piece
  pub has_read : HasReadPieces all bytes gave reader source_ended left
  pub taken : AreTaken start.opened gave
  pub are_in : AreIn start window gave written present seen

-- what a round answers: by why it paused, and by what came of filling what waited then
abbrev pub after_round : Result Pause ReadStop → Result (Unit {0}) FillStop → Result (Option FillEnd) FillFailure
after_round (Ok Group) (Ok done) = Ok None
after_round (Ok (End end)) (Ok done) = Ok (Some end)
after_round (Ok pause) (Err stop) = Err (Stopped stop)
after_round (Err read.Failed) (Ok done) = Err (Source None)
after_round (Err read.Failed) (Err stop) = Err (Source (Some stop))
after_round (Err read.OutOfMemory) (Ok done) = Err (Stopped OutOfMemory)
after_round (Err read.OutOfMemory) (Err stop) = Err (Stopped stop)

-- Some piece more is in and the fill goes on, or it has come to its end, or to none.
abbrev pub RoundsTo : Seen → Window → Option (List ℕ) → ℕ → ℕ → ℕ → PieceReader → Bool → Option (List ℕ) → Result (Option FillEnd) FillFailure → Seen → Type 0
RoundsTo start window all before written present reader source_ended left (Ok None) new = (before < written + present) × IsUnderWay start window all written present reader source_ended left new
RoundsTo start window all before written present reader source_ended left (Ok (Some end)) new =
    FillsFrom start window all left source_ended (Ok (record { written = written; present = present; end = end })) new
RoundsTo start window all before written present reader source_ended left (Err failure) new = FillsFrom start window all left source_ended (Err failure) new
