use Rattle.inc_volume.proofs.volumes.MountedCells.{may_lend}
use Rattle.inc_volume.proofs.volumes.RefusalFaults.{lend_cause, lend_no_verdict}
use Rattle.inc_volume.proofs.mounting.lend_disk.Goals as goal

pub open_disk-requires : goal.open_disk-requires
open_disk-requires g c = may_lend _ c.args.name.now c.requires

pub returns-in-Err-clause-only : goal.returns-in-Err-clause-only
returns-in-Err-clause-only g c = rw c.refusal_by_lend.ensures.value (lend_no_verdict c.in-Err.fault)

pub returns-in-Err-clause-cause : goal.returns-in-Err-clause-cause
returns-in-Err-clause-cause g c = rw c.refusal_by_lend.ensures.value (lend_cause c.in-Err.fault _ _ c.in-Err.ensures.cause)
