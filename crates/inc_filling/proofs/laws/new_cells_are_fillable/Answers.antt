use Rattle.inc_filling.proofs.lemmas.NewLemmas.{new_fillable}
use Rattle.inc_filling.proofs.laws.new_cells_are_fillable.Goals as goal

pub returns : goal.returns
returns c = record { fresh = new_fillable }
