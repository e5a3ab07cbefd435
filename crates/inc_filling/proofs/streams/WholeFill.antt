-- A fill from its stream's first byte on.
use Rattle.std.proofs.Common.{◌≡◌, ℕ, ◌+◌, ◌^◌, ◌≤◌, Bool, List, [], ◌++◌, length, Option, Some, None, refl, sym, ap, subst, arith, length-append}
use Rattle.std.specs.Prelude.{Err}
use Rattle.inc_frame.specs.Fronts.{Greeting, StreamFront, front_from, stream_front}
use Rattle.inc_frame.specs.declared.piece.Piece.{Piece}
use Rattle.inc_loader.specs.Reading.{before_rest}
use Rattle.inc_loader.specs.declared.stream.piece_reader.PieceReader.{PieceReader}
use Rattle.inc_loader.proofs.ReadingLemmas.{fresh_read}
use Rattle.inc_model.specs.declared.words.event.Window.{Window}
use Rattle.inc_cell.specs.seen.Seen.{Seen}
use Rattle.inc_filling.specs.Fillable.{IsFillable}
use Rattle.inc_filling.specs.Filled.{FillsFrom, StopsBy}
use Rattle.inc_filling.specs.Refusals.{taken_pieces}
use Rattle.inc_filling.specs.Rounds.{IsUnderWay}
use Rattle.inc_filling.specs.declared.from_stream.filled.FillFailure.TheVariants.{Stopped}
use Rattle.inc_filling.specs.declared.stop.FillStop.TheVariants.{OutOfMemory}
use Rattle.inc_filling.proofs.streams.GroupIn.{no_piece_in}
use Rattle.inc_filling.proofs.streams.Outcomes.{all_in}
use Rattle.inc_filling.proofs.streams.PieceCounts.{few_pieces}
use Rattle.inc_filling.proofs.streams.TakenPieces.{none_taken}

pub begins : (start : Seen) (window : Window) (left : Option (List ℕ)) (source_ended : Bool) (reader : PieceReader) → IsFillable start
    → reader.filled ≡ 0 → reader.whole.items ≡ [] → reader.reader.state ≡ Greeting [] → reader.refused ≡ None → IsUnderWay start window left 0 0 reader source_ended left start
begins start window left source_ended reader fillable filled whole state refused = record {
  bytes = [];
  gave = [];
  has_read = fresh_read left left reader.room.items reader.filled reader.whole.items reader.reader.state reader.refused source_ended refl filled whole state refused;
  taken = none_taken start.opened;
  are_in = no_piece_in start window fillable;
}

pub under_way_few : (start seen : Seen) (window : Window) (all left : Option (List ℕ)) (written present : ℕ) (reader : PieceReader) (source_ended : Bool) → IsUnderWay start window all written present reader source_ended left seen → written + present ≤ 2 ^ 36
under_way_few start seen window all left written present reader source_ended h =
    let told = h.are_in.all_told in
    let pieces : length (stream_front h.bytes).pieces ≡ length (h.gave ++ reader.whole.items) = ap (λ (front : StreamFront). length front.pieces) h.has_read.front_is in
    omega (arith, told, pieces, few_pieces h.bytes, length-append h.gave reader.whole.items)

nothing_read : (left : Option (List ℕ)) → left ≡ before_rest [] left
nothing_read None = refl
nothing_read (Some bytes) = refl

none_of_nothing : (stream_front []).pieces ≡ []
unfolding front_from
none_of_nothing = refl

pub never_begins : (start : Seen) (window : Window) (left : Option (List ℕ)) (source_ended : Bool) → IsFillable start → FillsFrom start window left left source_ended (Err (Stopped OutOfMemory)) start
never_begins start window left source_ended fillable = record {
  read = [];
  input_is = nothing_read left;
  fills = subst (λ (pieces : List Piece). StopsBy start window (taken_pieces start.opened pieces) OutOfMemory start) (sym none_of_nothing) (all_in start start window [] 0 0 (no_piece_in start window fillable));
}
