use Rattle.inc_model.proofs.lists.Acknowledged.{acknowledged_step, spent_step, left_step}
use Rattle.inc_model.proofs.state_lists.flight.acknowledge_rows.Goals as goal

pub loop-row-preserved : goal.loop-row-preserved
loop-row-preserved g c =
    let lists = g.I.Indices.lists in
    let room = g.I.Indices.room in
    let now = c.loop-row.indices in
    let new = c.acknowledge_row.new.indices in
    record {
      lists = acknowledged_step (lists c.args.indices.now) (lists now) (lists new) c.args.flight.now c.loop-row.row-index _ c.loop-row-test.true c.loop-row.invariant.lists c.acknowledge_row.ensures.lists;
      spent = spent_step c.args.flight.now c.loop-row.row-index _ (room now) (room new) c.loop-row-test.true c.acknowledge_row.ensures.room (room c.args.indices.now) c.loop-row.invariant.spent;
      left = left_step c.args.flight.now c.loop-row.row-index _ (room now) (room new) c.loop-row-test.true c.acknowledge_row.ensures.room c.loop-row.invariant.left;
    }
