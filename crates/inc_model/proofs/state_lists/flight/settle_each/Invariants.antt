-- the rows before the place are changed
use Rattle.std.specs.Prelude.{◌≡◌, ◌++◌, take, drop, map}
use Rattle.inc_model.specs.relation.Stages.{synced_row}
use Rattle.inc_model.proofs.state_lists.flight.settle_each.Given as goal

abbrev pub invariant-loop-row : goal.invariant-loop-row
invariant-loop-row l = l.row-items ≡ map synced_row (take l.row-index l.initial.row-items) ++ drop l.row-index l.initial.row-items
