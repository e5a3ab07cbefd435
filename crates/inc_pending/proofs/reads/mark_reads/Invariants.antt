-- the rows before the index are marked and counted
use Rattle.std.proofs.Common.{◌≡◌, ◌≤◌, ◌++◌, take, drop, map}
use Rattle.std.specs.Prelude.{count_by}
use Rattle.inc_pending.specs.Polling.{waits_on, marked}
use Rattle.inc_pending.proofs.reads.mark_reads.Given as goal

abbrev pub invariant-loop-row : goal.invariant-loop-row
invariant-loop-row l = record {
  rows : l.row-items ≡ map (marked l.block) (take l.row-index l.initial.row-items) ++ drop l.row-index l.initial.row-items;
  count : l.count ≡ count_by (waits_on l.block) (take l.row-index l.initial.row-items);
  few : l.count ≤ l.row-index;
}
