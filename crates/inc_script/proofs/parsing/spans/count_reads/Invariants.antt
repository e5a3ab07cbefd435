use Rattle.std.proofs.Common.{◌≡◌, ◌≤◌, take}
use Rattle.inc_script.specs.Limits.{sum_of_reads}
use Rattle.inc_script.proofs.parsing.spans.count_reads.Given as goal

abbrev pub invariant-loop-span : goal.invariant-loop-span
invariant-loop-span l = record {
  counted : l.count ≡ sum_of_reads (take l.span-index l.spans);
  within : l.count ≤ l.most;
}
