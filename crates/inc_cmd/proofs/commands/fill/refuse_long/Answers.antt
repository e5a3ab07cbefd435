use Rattle.inc_cmd.proofs.filling.Refused.{long_ends, shape_ends}
use Rattle.inc_cmd.proofs.commands.fill.refuse_long.Goals as goal
use Rattle.inc_cmd.proofs.commands.fill.refuse_long.Goals.{in-Ok, in-Err}

pub returns-clause-refused : goal.returns-clause-refused
returns-clause-refused g c = elim c.match-open_shape.branch [
  | in-Ok w ↦ rw w.result-is (long_ends _ _ _ _ w.in-Ok.ensures.answer (rw w.too_long.ensures.value at w.refuse.ensures.outcome))
  | in-Err w ↦ rw w.result-is (shape_ends _ _ _ _ w.in-Err.ensures.answer w.refuse_layout.ensures.refused w.refuse_layout.ensures.outcome)
]
