use Rattle.std.proofs.Common.{◌≡◌, ◌≤◌, true, length}
use Rattle.inc_script.specs.Lines.{fields_from}
use Rattle.inc_script.proofs.parsing.fields.without_spaces.Given as goal

abbrev pub invariant-loop-rest : goal.invariant-loop-rest
invariant-loop-rest l = record {
  same : fields_from true l.rest ≡ fields_from true l.bytes;
  shorter : length l.rest ≤ length l.bytes;
}

abbrev pub decreases-loop-rest : goal.decreases-loop-rest
decreases-loop-rest l = length l.rest
