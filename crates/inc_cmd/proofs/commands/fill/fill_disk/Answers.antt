use Rattle.std.proofs.Common.{ap}
use Rattle.inc_cmd.proofs.filling.DiskFills.{lent_mounted, lent_refused}
use Rattle.inc_cmd.proofs.commands.fill.fill_disk.Goals as goal

pub returns-in-Ok-clause-fills : goal.returns-in-Ok-clause-fills
returns-in-Ok-clause-fills g c = lent_mounted _ _ _ _ _ _ _ c.in-Ok.ensures.answer c.in-Ok.ensures.counts c.in-Ok.ensures.since c.fill_mounted.ensures.fills

pub returns-in-Err-clause-fills : goal.returns-in-Err-clause-fills
returns-in-Err-clause-fills g c =
    lent_refused _ _ _ _ _ c.in-Err.fault _ _ (g.met.D.Disk.sound c.args.disk) (ap g.D.Disk.states c.refuse_mount-end.ensures.kept) (g.met.D.Disk.reads_now (g.D.Backing.kept c.in-Err.disk))
    c.in-Err.ensures.answer c.in-Err.ensures.since c.in-Err.ensures.unwritten c.refuse_mount-end.ensures.refused c.refuse_mount-end.ensures.only c.refuse_mount-end.ensures.failed
