use Rattle.inc_filling.proofs.streams.WholeInput.{fills_told}
use Rattle.inc_filling.proofs.from_stream.fill_from.Goals as goal

pub returns-clause-told : goal.returns-clause-told
returns-clause-told g c = λ all e. fills_told _ _ _ _ _ _ _ all c.fill_groups.ensures.fills e
