-- the rows before the place are counted
use Rattle.std.specs.Prelude.{◌≡◌, ◌≤◌, take, count_by}
use Rattle.inc_pending.specs.Polling.{waits_on}
use Rattle.inc_model.proofs.file_core.reply_table.count_waiting.Given as goal

abbrev pub invariant-loop-row : goal.invariant-loop-row
invariant-loop-row l = record {
  count : l.count ≡ count_by (waits_on l.block) (take l.row-index l.reads);
  few : l.count ≤ l.row-index;
}
