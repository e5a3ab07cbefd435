-- the rows before the place are counted
use Rattle.std.specs.Prelude.{◌≡◌, ◌≤◌, take, count_by, nat_lt, nat_le}
use Rattle.inc_model.proofs.indices.index_rows.count_open.Given as goal

abbrev pub invariant-loop-row : goal.invariant-loop-row
invariant-loop-row l = record {
  data_blocks : l.data_count ≡ count_by (λ row. nat_lt row.0 l.n) (take l.row-index l.map);
  hash_blocks : l.hash_count ≡ count_by (λ row. nat_le l.n row.0) (take l.row-index l.map);
  few_data : l.data_count ≤ l.row-index;
  few_hash : l.hash_count ≤ l.row-index;
}
