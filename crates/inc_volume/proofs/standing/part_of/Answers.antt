use Rattle.std.proofs.Common.{ℕ, List}
use Rattle.inc_layout.specs.fixed.Fixed.{front_of}
use Rattle.inc_volume.specs.Standings.{part_standing}
use Rattle.inc_volume.proofs.Told.{front_says, front_told, refused_told}
use Rattle.inc_volume.proofs.standing.part_of.Goals as goal

pub returns-in-Ok-clause-answer : goal.returns-in-Ok-clause-answer
returns-in-Ok-clause-answer g c = front_told _ c.in-Ok.front _ c.in-Ok.ensures.answer c.part.ensures.value

pub returns-in-Err-clause-answer : goal.returns-in-Err-clause-answer
returns-in-Err-clause-answer g c =
    refused_told _ c.in-Err.fault front_of (λ (bytes : List ℕ). part_standing (front_of bytes)) _ (front_says c.in-Err.fault) c.in-Err.ensures.answer c.refused.ensures.value
