use Rattle.inc_model.proofs.steps.Asked.{reads_come}
use Rattle.inc_model.proofs.unchanged.Map.{reads_stay}
use Rattle.inc_model.proofs.laws.reads_stay.Goals as goal

pub returns-clause-reads : goal.returns-clause-reads
returns-clause-reads c = reads_stay

pub returns-clause-come : goal.returns-clause-come
returns-clause-come c = reads_come
