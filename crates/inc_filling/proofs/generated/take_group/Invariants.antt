use Rattle.std.proofs.Common.{◌≡◌, ◌-◌, ◌++◌}
use Rattle.std.specs.Prelude.{vec_len}
use Rattle.inc_layout.specs.declared.opened.Opened.{Opened}
use Rattle.inc_loader.specs.PiecesLeft.{left_of}
use Rattle.inc_filling.specs.Pieces.{AreTaken}
use Rattle.inc_filling.specs.Rounds.{MayWait}
use Rattle.inc_filling.proofs.generated.take_group.Given as goal

abbrev pub invariant-taking : goal.invariant-taking
invariant-taking l = record {
  front : left_of l.initial.content ≡ l.waiting.pieces.items ++ left_of l.content;
  may : (opened : Opened) → AreTaken opened (left_of l.initial.content) → MayWait opened l.waiting.pieces.items;
}

abbrev pub decreases-taking : goal.decreases-taking
decreases-taking l = 64 - vec_len l.waiting.pieces
