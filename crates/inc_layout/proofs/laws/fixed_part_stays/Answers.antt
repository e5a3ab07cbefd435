use Rattle.inc_layout.proofs.fixed_part.SameFixedLemmas.{fixed_stays}
use Rattle.inc_layout.proofs.laws.fixed_part_stays.Goals as goal

pub returns : goal.returns
returns g = record { stays = fixed_stays }
