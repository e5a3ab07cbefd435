use Rattle.inc_cell.proofs.openings.OpenedLemmas.{mounts_opened}
use Rattle.inc_cell.proofs.laws.opened_files_can_be_filled.Goals as goal

pub returns : goal.returns
returns c = record { mounts = mounts_opened }
