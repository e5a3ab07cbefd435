use Rattle.inc_volume.proofs.volumes.PlannedFiles.{planned_files}
use Rattle.inc_volume.proofs.volumes.RefusalFaults.{found_cause, found_gives, found_own, lend_cause, lend_gives, lend_own}
use Rattle.inc_volume.proofs.mounting.planned.Goals as goal

pub returns-in-Ok-clause-answer : goal.returns-in-Ok-clause-answer
returns-in-Ok-clause-answer g c = found_gives _ c.in-Ok.found _ c.in-Ok.ensures.own c.in-Ok.ensures.answer

pub returns-in-Ok-clause-files : goal.returns-in-Ok-clause-files
returns-in-Ok-clause-files g c = planned_files _ _ _ c.in-Ok.found (g.met.S.Shelf.contents_now _) c.in-Ok.ensures.answer

pub returns-in-Ok-clause-own : goal.returns-in-Ok-clause-own
returns-in-Ok-clause-own g c = found_own c.in-Ok.found c.in-Ok.ensures.own

pub returns-in-Ok-clause-cause : goal.returns-in-Ok-clause-cause
returns-in-Ok-clause-cause g c = found_cause c.in-Ok.found c.in-Ok.found _ _ c.in-Ok.ensures.own c.in-Ok.ensures.cause

pub returns-in-Err-clause-answer : goal.returns-in-Err-clause-answer
returns-in-Err-clause-answer g c = rw c.refusal_by_lend.ensures.value (lend_gives _ c.in-Err.fault _)

pub returns-in-Err-clause-own : goal.returns-in-Err-clause-own
returns-in-Err-clause-own g c = rw c.refusal_by_lend.ensures.value (lend_own c.in-Err.fault)

pub returns-in-Err-clause-cause : goal.returns-in-Err-clause-cause
returns-in-Err-clause-cause g c = rw c.refusal_by_lend.ensures.value (lend_cause c.in-Err.fault _ _ c.in-Err.ensures.cause)
