use Rattle.std.proofs.Common.{ℕ, Bool, List, length, ap, ◌∙◌}
use Rattle.std.specs.Prelude.{min}
use Rattle.inc_bytes.specs.Tests.{first_failing, judge}
use Rattle.inc_model.specs.declared.words.outcomes.FillError.{FillError}
use Rattle.inc_cell.specs.events.Pieces.{piece_tests}
use Rattle.inc_filling.proofs.lemmas.TakenLemmas.{same_tests}
use Rattle.inc_filling.proofs.refusal.check_words.Goals as goal

pub returns : goal.returns
returns g c = record {
  value = c.piece_check.ensures.value
      ∙ ap (λ (n : ℕ). judge (first_failing (piece_tests c.args.cell.now.opened c.args.piece.now.hash c.args.piece.now.number c.args.piece.now.compression n)) tt) (c.judged_len-len.ensures.value ∙ ap (λ (l : List ℕ). min (length l) 4097) c.as_slice.ensures.value)
      ∙ ap (λ (tests : List (Bool × FillError)). judge (first_failing tests) tt) (same_tests c.args.cell.now.opened c.args.piece.now.hash c.args.piece.now.number c.args.piece.now.compression (length c.args.piece.now.bytes));
}
