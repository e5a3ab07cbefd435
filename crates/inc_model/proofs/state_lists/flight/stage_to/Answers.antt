use Rattle.std.proofs.Common.{arith}
use Rattle.inc_model.specs.executed.Places.{staged}
use Rattle.inc_model.proofs.lists.RowSlots.{map_more}
use Rattle.inc_model.proofs.state_lists.flight.stage_to.Goals as goal

pub loop-row-preserved : goal.loop-row-preserved
loop-row-preserved c = rw c.stage_row.ensures.row (map_more (staged c.args.stage c.args.index) _ _ _ _ c.loop-row-test.true (omega arith) c.loop-row.invariant)
