use Rattle.std.proofs.Common.{◌≡◌, [], length}
use Rattle.inc_loader.specs.PiecesLeft.{left_of}
use Rattle.inc_filling.specs.Generated.{IsFilledUpTo}
use Rattle.inc_filling.proofs.generated.fill_rest.Given as goal

abbrev pub invariant-filling : goal.invariant-filling
invariant-filling g l = record {
  up_to : IsFilledUpTo l.initial.cell l.window (left_of l.initial.content) (left_of l.content) l.totals.written l.totals.present l.cell;
  empty : l.waiting.pieces.items ≡ [];
}

abbrev pub decreases-filling : goal.decreases-filling
decreases-filling g l = length (left_of l.content)
