use Rattle.std.proofs.Common.{◌≡◌, ◌+◌, ◌≤◌, length}
use Rattle.inc_script.specs.Lines.{tail_fields}
use Rattle.inc_script.proofs.parsing.fields.count_fields.Given as goal

abbrev pub invariant-loop-after : goal.invariant-loop-after
invariant-loop-after l = record {
  value : l.count + length (tail_fields l.rest) ≡ length (tail_fields l.tail);
  few : l.count + length l.rest ≤ length l.tail;
}

abbrev pub decreases-loop-after : goal.decreases-loop-after
decreases-loop-after l = length l.rest
