use Rattle.inc_fill.proofs.Known.{found_facts}
use Rattle.inc_fill.proofs.laws.settled_files_can_be_filled.Goals as goal

pub returns : goal.returns
returns c = record { found = found_facts }
