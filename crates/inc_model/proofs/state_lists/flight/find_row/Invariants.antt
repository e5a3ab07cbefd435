-- the index has no row before the place
use Rattle.std.specs.Prelude.{◌≡◌, drop}
use Rattle.inc_model.specs.relation.State.{flight_row}
use Rattle.inc_model.proofs.state_lists.flight.find_row.Given as goal

abbrev pub invariant-loop-row : goal.invariant-loop-row
invariant-loop-row l = flight_row l.index l.flight ≡ flight_row l.index (drop l.row-index l.flight)
