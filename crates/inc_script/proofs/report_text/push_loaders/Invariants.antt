use Rattle.std.proofs.Common.{◌≡◌, ◌+◌, ◌++◌, drop}
use Rattle.inc_script.specs.Report.{loader_lines}
use Rattle.inc_script.proofs.report_text.push_loaders.Given as goal

abbrev pub invariant-loop-i : goal.invariant-loop-i
invariant-loop-i l = l.text.items ++ loader_lines (l.i + 1) (drop l.i l.loaders) ≡ l.fn.text.items ++ loader_lines 1 l.loaders
