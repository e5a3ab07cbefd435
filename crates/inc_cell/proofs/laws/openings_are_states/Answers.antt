use Rattle.inc_cell.proofs.openings.OpeningLemmas.{begins_as}
use Rattle.inc_cell.proofs.laws.openings_are_states.Goals as goal

pub returns : goal.returns
returns c = record { opening = λ opened faults readers sound. begins_as opened sound faults readers }
