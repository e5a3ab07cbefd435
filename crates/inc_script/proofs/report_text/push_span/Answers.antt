use Rattle.std.proofs.Common.{◌≡◌, ℕ, ◌+◌, ◌<◌, List, ◌++◌, ap, ◌∙◌, arith}
use Rattle.inc_script.specs.Report.{reply_line}
use Rattle.inc_script.proofs.ReportLemmas.{span_more, span_short}
use Rattle.inc_script.proofs.report_text.push_span.Goals as goal

pub returns-then-next-replies : goal.returns-then-next-replies
returns-then-next-replies c = record { value = span_short _ _ _ _ _ c.loop-index.next _ _ _ c.args.replies.now _ c.loop-index.invariant c.if-next-replies.true }

pub loop-index-preserved : goal.loop-index-preserved
loop-index-preserved c =
    let line_is : c.in_ok-line.line.items ≡ reply_line c.args.number c.args.name.now c.loop-index.index c.index-replies-next.result = c.in_ok-line.ensures.value in
    let new_is : c.extend_from_slice.new.self.items ≡ c.loop-index.text.items ++ c.in_ok-line.line.items = c.in_ok-extend_from_slice.ensures.items ∙ ap (λ (xs : List ℕ). c.loop-index.text.items ++ xs) c.as_slice.ensures.value in
    let below : c.loop-index.index < c.args.span.1 + 1 = omega arith in
    span_more _ _ _ _ _ _ _ c.loop-index.next c.index-replies-next.result _ _ _ c.args.replies.now _ c.loop-index.invariant below c.if-next-replies.false c.index-replies-next.is line_is new_is
