use Rattle.inc_model.proofs.steps.Asked.{reads_asked}
use Rattle.inc_model.proofs.laws.reads_were_asked.Goals as goal

pub returns : goal.returns
returns c = record { asked = reads_asked }
