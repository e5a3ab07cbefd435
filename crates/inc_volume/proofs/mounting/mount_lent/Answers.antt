use Rattle.std.proofs.Common.{◌∙◌, refl, Ok, Err}
use Rattle.inc_volume.proofs.volumes.MountedCells.{from_lent, lent_held, lent_only, mounts_from}
use Rattle.inc_volume.proofs.volumes.RefusalFaults.{mount_cause}
use Rattle.inc_volume.proofs.volumes.RunsLeft.{one_run}
use Rattle.inc_volume.proofs.mounting.mount_lent.Goals as goal

pub returns-in-Ok-clause-cell : goal.returns-in-Ok-clause-cell
returns-in-Ok-clause-cell g c = record {
  sound = c.in-Ok.ensures.sound;
  short = c.in-Ok.ensures.short;
  opened = c.in-Ok.ensures.opened;
  fresh = c.in-Ok.ensures.cause.kept ∙ c.requires.fresh;
  there = c.requires.there;
  lent = from_lent _ c.args.name.now _ _ (Ok c.in-Ok.mounted.opened) c.requires.lent
      (mounts_from _ _ (Ok c.in-Ok.mounted.opened) c.in-Ok.ensures.answer c.in-Ok.ensures.opened c.in-Ok.ensures.same c.in-Ok.ensures.counts c.in-Ok.ensures.moments
      c.in-Ok.ensures.since c.in-Ok.ensures.unwritten c.in-Ok.ensures.reopens);
}

pub returns-in-Ok-clause-held : goal.returns-in-Ok-clause-held
returns-in-Ok-clause-held g c = lent_held _ c.args.name.now _ c.in-Ok.mounted.opened c.requires.lent c.in-Ok.ensures.answer

pub returns-in-Err-clause-run : goal.returns-in-Err-clause-run
returns-in-Err-clause-run g c =
    one_run _ _ _ c.args.name.now _ (Err c.in-Err.fault)
    (from_lent _ c.args.name.now _ _ (Err c.in-Err.fault) c.requires.lent
    (mounts_from _ _ (Err c.in-Err.fault) c.in-Err.ensures.answer tt c.in-Err.ensures.same c.in-Err.ensures.counts c.in-Err.ensures.moments
    c.in-Err.ensures.since c.in-Err.ensures.unwritten c.in-Err.ensures.reopens))
    refl c.close_disk.ensures.logged

pub returns-in-Err-clause-only : goal.returns-in-Err-clause-only
returns-in-Err-clause-only g c = lent_only _ c.args.name.now _ c.in-Err.fault _ c.requires.lent c.in-Err.ensures.answer c.refusal_by_mount.ensures.only

pub returns-in-Err-clause-cause : goal.returns-in-Err-clause-cause
returns-in-Err-clause-cause g c =
    mount_cause _ _ _ _ c.in-Err.fault _ c.requires.fresh c.in-Err.ensures.cause c.close_disk.ensures.cause c.refusal_by_mount.ensures.failed c.refusal_by_mount.ensures.quiet
