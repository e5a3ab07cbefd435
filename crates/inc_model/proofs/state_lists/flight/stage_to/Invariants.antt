-- the rows before the place are changed
use Rattle.std.specs.Prelude.{◌≡◌, ◌++◌, take, drop, map}
use Rattle.inc_model.specs.executed.Places.{staged}
use Rattle.inc_model.proofs.state_lists.flight.stage_to.Given as goal

abbrev pub invariant-loop-row : goal.invariant-loop-row
invariant-loop-row l = l.row-items ≡ map (staged l.stage l.index) (take l.row-index l.initial.row-items) ++ drop l.row-index l.initial.row-items
