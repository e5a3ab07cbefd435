use Rattle.std.proofs.Common.{◌≡◌, ◌++◌, drop}
use Rattle.inc_script.specs.Report.{indices_of, reply_lines}
use Rattle.inc_script.proofs.report_text.push_reader.Given as goal

abbrev pub invariant-loop-span : goal.invariant-loop-span
invariant-loop-span l = l.text.items ++ reply_lines l.number l.line.name (indices_of (drop l.span-index l.line.blocks)) (drop l.next l.replies)
    ≡ l.fn.text.items ++ reply_lines l.number l.line.name (indices_of l.line.blocks) l.replies
