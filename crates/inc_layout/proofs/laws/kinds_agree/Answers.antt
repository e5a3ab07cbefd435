use Rattle.inc_layout.proofs.opened_file.OpenedParts.{kinds_agree}
use Rattle.inc_layout.proofs.laws.kinds_agree.Goals as goal

pub returns : goal.returns
returns c = record { agree = kinds_agree }
