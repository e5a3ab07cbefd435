use Rattle.std.proofs.Common.{◌≡◌, ◌+◌, ◌^◌, ◌≤◌, length}
use Rattle.inc_script.specs.Lines.{lines_of}
use Rattle.inc_script.specs.Script.{fresh_draft, script_from}
use Rattle.inc_script.proofs.parsing.read_lines.Given as goal

abbrev pub invariant-loop-rest : goal.invariant-loop-rest
invariant-loop-rest l = record {
  same : script_from l.at l.draft (lines_of l.rest) ≡ script_from 1 fresh_draft (lines_of l.text);
  few : l.at + length l.rest ≤ 2 ^ 20 + 1;
}

abbrev pub decreases-loop-rest : goal.decreases-loop-rest
decreases-loop-rest l = length l.rest
