use Rattle.std.proofs.Common.{arith}
use Rattle.inc_model.specs.relation.Stages.{synced_row}
use Rattle.inc_model.proofs.lists.RowSlots.{map_more}
use Rattle.inc_model.proofs.state_lists.flight.settle_each.Goals as goal

pub loop-row-preserved : goal.loop-row-preserved
loop-row-preserved c = rw c.settle_row.ensures.row (map_more synced_row _ _ _ _ c.loop-row-test.true (omega arith) c.loop-row.invariant)
