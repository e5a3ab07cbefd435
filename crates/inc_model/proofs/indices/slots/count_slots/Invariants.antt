-- the slots before the place are counted
use Rattle.std.specs.Prelude.{◌≡◌, ◌≤◌, take, count_by, nat_lt, nat_le}
use Rattle.inc_model.specs.executed.SlotRows.{open_rows}
use Rattle.inc_model.proofs.indices.slots.count_slots.Given as goal

abbrev pub invariant-loop-i : goal.invariant-loop-i
invariant-loop-i l = record {
  data_blocks : l.data_count ≡ count_by (λ row. nat_lt row.0 l.n) (open_rows (take l.i l.slots));
  hash_blocks : l.hash_count ≡ count_by (λ row. nat_le l.n row.0) (open_rows (take l.i l.slots));
  few_data : l.data_count ≤ l.i;
  few_hash : l.hash_count ≤ l.i;
}
