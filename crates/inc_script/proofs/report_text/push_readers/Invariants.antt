use Rattle.std.proofs.Common.{◌≡◌, ◌+◌, ◌++◌, drop}
use Rattle.inc_script.specs.Report.{reader_lines}
use Rattle.inc_script.proofs.report_text.push_readers.Given as goal

abbrev pub invariant-loop-i : goal.invariant-loop-i
invariant-loop-i l = l.text.items ++ reader_lines (l.i + 1) (drop l.i l.readers) (drop l.i l.replies) ≡ l.fn.text.items ++ reader_lines 1 l.readers l.replies
