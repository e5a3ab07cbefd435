-- the rows before the place are acknowledged, and there is room for the others
use Rattle.std.specs.Prelude.{◌≡◌, ◌+◌, ◌≤◌, take, length, count_by}
use Rattle.inc_model.specs.relation.Stages.{is_gated, acknowledge}
use Rattle.inc_model.proofs.state_lists.flight.acknowledge_rows.Given as goal

abbrev pub invariant-loop-row : goal.invariant-loop-row
invariant-loop-row g l = record {
  lists : g.I.Indices.lists l.indices ≡ record (g.I.Indices.lists l.fn.indices) { acknowledged = acknowledge (take l.row-index l.flight) (g.I.Indices.lists l.fn.indices).acknowledged };
  spent : g.I.Indices.room l.fn.indices ≤ g.I.Indices.room l.indices + count_by (λ row. is_gated row.stage) (take l.row-index l.flight);
  left : length l.flight ≤ g.I.Indices.room l.indices + l.row-index;
}
