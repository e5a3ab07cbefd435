use Rattle.inc_script.proofs.LineLemmas.{CutTo}
use Rattle.inc_script.proofs.parsing.fields.cut_at.Given as goal

abbrev pub invariant-loop-at : goal.invariant-loop-at
invariant-loop-at l = CutTo l.stop l.bytes l.at
