use Rattle.inc_layout.specs.Backing.{laid_of}
use Rattle.inc_volume.specs.Standings.{standing_of}
use Rattle.inc_volume.proofs.Told.{fault_says, laid_mapped, laid_plain, refused_cause, refused_told}
use Rattle.inc_volume.proofs.standing.stand.Goals as goal

pub returns-in-Ok-clause-answer : goal.returns-in-Ok-clause-answer
returns-in-Ok-clause-answer g c = laid_plain _ c.in-Ok.layout _ c.in-Ok.ensures.answer c.plain.ensures.value

pub returns-in-Mapped-clause-answer : goal.returns-in-Mapped-clause-answer
returns-in-Mapped-clause-answer g c =
    laid_mapped _ _ (rw c.in-Mapped.is at c.in-Err.ensures.answer) (rw c.in-Err.ensures.kept at c.part_of.ensures.answer)

pub returns-in_default-clause-answer : goal.returns-in_default-clause-answer
returns-in_default-clause-answer g c =
    refused_told _ c.in-Err.fault laid_of standing_of _ (fault_says c.in-Err.fault c.in_default.not-Mapped) c.in-Err.ensures.answer c.refused.ensures.value

pub returns-in_default-clause-cause : goal.returns-in_default-clause-cause
returns-in_default-clause-cause g c = refused_cause c.in-Err.fault _ _ _ c.in-Err.ensures.cause c.refused.ensures.value
