use Rattle.inc_layout.proofs.opened_file.Preserving.{kept_preserves}
use Rattle.inc_layout.proofs.laws.kept_images_preserve.Goals as goal

pub returns : goal.returns
returns c = record { preserves = kept_preserves }
