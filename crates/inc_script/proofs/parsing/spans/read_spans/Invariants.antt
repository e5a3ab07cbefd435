use Rattle.std.proofs.Common.{◌≡◌, length}
use Rattle.inc_script.specs.Forms.{block_spans}
use Rattle.inc_script.specs.Lines.{tail_fields}
use Rattle.inc_script.proofs.SpanLemmas.{with_front}
use Rattle.inc_script.proofs.parsing.spans.read_spans.Given as goal

abbrev pub invariant-loop-word : goal.invariant-loop-word
invariant-loop-word l = with_front l.spans.items (block_spans (tail_fields l.rest)) ≡ block_spans (tail_fields l.tail)

abbrev pub decreases-loop-word : goal.decreases-loop-word
decreases-loop-word l = length l.rest
