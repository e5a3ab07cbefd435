use Rattle.std.proofs.Common.{◌+◌, drop}
use Rattle.inc_script.specs.Limits.{reads_in}
use Rattle.inc_script.proofs.ReportLemmas.{SpanTo}
use Rattle.inc_script.proofs.report_text.push_span.Given as goal

abbrev pub invariant-loop-index : goal.invariant-loop-index
invariant-loop-index l = SpanTo l.number l.name l.index (l.fn.span.1 + 1) l.text.items (drop l.next l.replies) l.fn.span.0 (reads_in l.fn.span) l.fn.text.items (drop l.fn.place l.replies)
