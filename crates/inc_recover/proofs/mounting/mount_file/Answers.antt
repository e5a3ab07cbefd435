use Rattle.inc_recover.proofs.Reopened.{keeps_state}
use Rattle.inc_recover.proofs.MountLemmas.{cut_now, opened_now}
use Rattle.inc_recover.proofs.mounting.mount_file.Goals as goal

pub returns-in-Ok-clause-opened : goal.returns-in-Ok-clause-opened
returns-in-Ok-clause-opened g c = opened_now _ _ c.in-Ok.opened c.mount.ensures.untold c.in-Ok.ensures.mounts

pub returns-in-Ok-clause-reopens : goal.returns-in-Ok-clause-reopens
returns-in-Ok-clause-reopens g c = keeps_state _ _ _ (g.met.D.Disk.sound c.args.disk) c.mount.ensures.untold c.in-Ok.ensures.mounts

pub returns-in-Err-clause-reopens : goal.returns-in-Err-clause-reopens
returns-in-Err-clause-reopens g c = keeps_state _ _ _ (g.met.D.Disk.sound c.args.disk) c.mount.ensures.untold c.in-Err.ensures.mounts

pub returns-in-Err-clause-since : goal.returns-in-Err-clause-since
returns-in-Err-clause-since g c = cut_now _ _ _ c.in-Err.ensures.mounts
