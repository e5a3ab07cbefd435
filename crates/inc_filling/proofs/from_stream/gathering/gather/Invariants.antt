use Rattle.std.proofs.Common.{◌≡◌, ◌-◌, ◌++◌, ℕ, List, Option}
use Rattle.std.specs.Prelude.{vec_len}
use Rattle.inc_frame.specs.declared.piece.Piece.{Piece}
use Rattle.inc_filling.specs.Rounds.{HasReadPieces, MayWait}
use Rattle.inc_filling.proofs.from_stream.gathering.gather.Given as goal

abbrev pub invariant-loop-pieces : goal.invariant-loop-pieces
invariant-loop-pieces g l = record {
  may : MayWait l.cell.opened l.waiting.pieces.items;
  front : (all : Option (List ℕ)) (read : List ℕ) (gave : List Piece)
      → HasReadPieces all read (gave ++ l.initial.waiting.pieces.items) l.initial.pieces (g.I.Source.ended l.initial.input) (g.I.Source.left l.initial.input)
      → (more : List ℕ) × HasReadPieces all (read ++ more) (gave ++ l.waiting.pieces.items) l.pieces (g.I.Source.ended l.input) (g.I.Source.left l.input);
  quiet : g.I.Source.faults l.input ≡ g.I.Source.faults l.initial.input;
}

abbrev pub decreases-loop-pieces : goal.decreases-loop-pieces
decreases-loop-pieces g l = 64 - vec_len l.waiting.pieces
