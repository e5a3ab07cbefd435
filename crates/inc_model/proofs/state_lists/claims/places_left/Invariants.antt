-- the window has no row before the place
use Rattle.std.specs.Prelude.{◌≡◌, drop}
use Rattle.inc_model.specs.relation.State.{places_left}
use Rattle.inc_model.proofs.state_lists.claims.places_left.Given as goal

abbrev pub invariant-loop-row : goal.invariant-loop-row
invariant-loop-row l = places_left l.window l.claimed ≡ places_left l.window (drop l.row-index l.claimed)
