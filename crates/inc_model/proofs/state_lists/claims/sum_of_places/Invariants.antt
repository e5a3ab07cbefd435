-- the rows before the place are summed
use Rattle.std.specs.Prelude.{◌≡◌, ◌+◌, drop}
use Rattle.inc_model.specs.relation.State.{all_places}
use Rattle.inc_model.proofs.state_lists.claims.sum_of_places.Given as goal

abbrev pub invariant-loop-row : goal.invariant-loop-row
invariant-loop-row l = l.sum + all_places (drop l.row-index l.claimed) ≡ all_places l.claimed
