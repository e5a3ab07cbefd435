use Rattle.std.proofs.Common.{◌≡◌, length}
use Rattle.inc_entry.specs.Spans.{are_apart}
use Rattle.inc_layout.proofs.fixed.judging.are_apart.Given as goal

abbrev pub invariant-loop-rest : goal.invariant-loop-rest
invariant-loop-rest l = are_apart l.rest ≡ are_apart l.fn.spans

abbrev pub decreases-loop-rest : goal.decreases-loop-rest
decreases-loop-rest l = length l.rest
