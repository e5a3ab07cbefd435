use Rattle.inc_fill.proofs.Going.{gate_goes}
use Rattle.inc_fill.proofs.steps.open_gate.Goals as goal

pub returns-clause-images : goal.returns-clause-images
returns-clause-images g c = gate_goes c.args.entry_at _ _ _ (rw c.gate_byte.ensures.value at c.write_at.ensures.written)
