-- One round: what it answers, from why it paused and what came of filling what waited.
use Rattle.std.proofs.Common.{◌≡◌, ℕ, Bool, false, List, ◌++◌, length, Option, refl, arith, length-append}
use Rattle.std.specs.Prelude.{Result, Ok, Err, IfOk, OnErr}
use Rattle.inc_frame.specs.declared.piece.Piece.{Piece}
use Rattle.inc_loader.specs.Reading.{needs_no_read}
use Rattle.inc_loader.specs.declared.stream.piece_reader.PieceReader.{PieceReader}
use Rattle.inc_loader.specs.declared.stream.stop.ReadStop.{ReadStop}
use Rattle.inc_loader.specs.declared.stream.stop.ReadStop.TheVariants as read
use Rattle.inc_model.specs.declared.words.event.Window.{Window}
use Rattle.inc_cell.specs.seen.Seen.{Seen}
use Rattle.inc_filling.specs.Pieces.{AreTaken}
use Rattle.inc_filling.specs.Rounds.{FillsWaiting, HasReadPieces, PausesAt, RoundsTo, after_round}
use Rattle.inc_filling.specs.declared.from_stream.gathering.Pause.{Pause}
use Rattle.inc_filling.specs.declared.from_stream.gathering.Pause.TheVariants.{Group, End}
use Rattle.inc_filling.specs.declared.stop.FillStop.{FillStop}
use Rattle.inc_filling.specs.declared.stop.FillStop.TheVariants.{OutOfMemory}
use Rattle.inc_filling.proofs.streams.Outcomes.{all_in, fills_to_end, fills_to_fault, fills_to_stop, stops_at_fault}

pub round_ends : (start new : Seen) (window : Window) (all left : Option (List ℕ)) (bytes : List ℕ) (gave waiting : List Piece) (reader : PieceReader) (source_ended : Bool) (before written present : ℕ) (pause : Result Pause ReadStop) (filled : Result (Unit {0}) FillStop)
    → HasReadPieces all bytes (gave ++ waiting) reader source_ended left → AreTaken start.opened (gave ++ waiting) → before ≡ length gave
    → IfOk pause (λ p. PausesAt start.opened waiting reader p) → OnErr pause (needs_no_read reader.whole.items reader.refused reader.reader.state ≡ false) → (pause ≡ Err read.Failed → reader.filled ≡ 0)
    → FillsWaiting start window (gave ++ waiting) written present filled new → RoundsTo start window all before written present reader source_ended left (after_round pause filled) new
round_ends start new window all left bytes gave waiting reader source_ended before written present (Ok Group) (Ok done) h taken told some going fed fills =
    (omega (arith, fills.all_told, told, length-append gave waiting, some), record { bytes = bytes; gave = gave ++ waiting; has_read = h; taken = taken; are_in = fills })
round_ends start new window all left bytes gave waiting reader source_ended before written present (Ok (End end)) (Ok done) h taken told ends going fed fills =
    fills_to_end start new window all left bytes (gave ++ waiting) reader source_ended h taken written present end ends.0 ends.1 fills
round_ends start new window all left bytes gave waiting reader source_ended before written present (Ok Group) (Err stop) h taken told some going fed fills =
    fills_to_stop start new window all left bytes (gave ++ waiting) reader source_ended h taken stop fills
round_ends start new window all left bytes gave waiting reader source_ended before written present (Ok (End end)) (Err stop) h taken told some going fed fills =
    fills_to_stop start new window all left bytes (gave ++ waiting) reader source_ended h taken stop fills
round_ends start new window all left bytes gave waiting reader source_ended before written present (Err read.Failed) (Ok done) h taken told some going fed fills =
    fills_to_fault start new window all left bytes (gave ++ waiting) reader source_ended h taken written present (fed refl) going fills
round_ends start new window all left bytes gave waiting reader source_ended before written present (Err read.Failed) (Err stop) h taken told some going fed fills =
    stops_at_fault start new window all left bytes (gave ++ waiting) reader source_ended h taken stop (fed refl) going fills
round_ends start new window all left bytes gave waiting reader source_ended before written present (Err read.OutOfMemory) (Ok done) h taken told some going fed fills =
    fills_to_stop start new window all left bytes (gave ++ waiting) reader source_ended h taken OutOfMemory (all_in start new window (gave ++ waiting) written present fills)
round_ends start new window all left bytes gave waiting reader source_ended before written present (Err read.OutOfMemory) (Err stop) h taken told some going fed fills =
    fills_to_stop start new window all left bytes (gave ++ waiting) reader source_ended h taken stop fills
