use Rattle.inc_layout.proofs.opened_file.OpenedParts.{has_parts}
use Rattle.inc_layout.proofs.laws.opened_files_have_parts.Goals as goal

pub returns : goal.returns
returns c = record { parts = has_parts }
