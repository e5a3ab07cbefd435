use Rattle.std.proofs.Common.{ap}
use Rattle.inc_volume.proofs.volumes.MountedCells.{lent_there, never_missing, out_again, out_last, whatever_planned}
use Rattle.inc_volume.proofs.volumes.RunsLeft.{no_run}
use Rattle.inc_volume.proofs.mounting.lend_mounted.Goals as goal

pub mount_lent-requires : goal.mount_lent-requires
mount_lent-requires g c = record {
  fresh = rw c.in-Ok-Some.field-0-is at c.in-Ok-Some.ensures.fresh;
  there = rw c.in-Ok-Some.ensures.kept (lent_there _ _ (rw c.in-Ok-Some.field-0-is at c.in-Ok-Some.ensures.found));
  lent = rw c.in-Ok-Some.ensures.kept (rw c.in-Ok-Some.field-0-is at c.in-Ok-Some.ensures.states);
  out = out_last _ _ c.args.name.now (rw c.in-Ok-Some.field-0-is at c.in-Ok-Some.ensures.lends);
}

pub returns-in-Ok-Some-clause-cell : goal.returns-in-Ok-Some-clause-cell
returns-in-Ok-Some-clause-cell g c = rw c.in-Ok-Some.ensures.kept at c.mount_lent.ensures.cell

pub returns-in-Ok-Some-clause-held : goal.returns-in-Ok-Some-clause-held
returns-in-Ok-Some-clause-held g c = rw c.in-Ok-Some.ensures.kept at c.mount_lent.ensures.held

pub returns-in-Ok-Some-clause-lent : goal.returns-in-Ok-Some-clause-lent
returns-in-Ok-Some-clause-lent g c = let lends = rw c.in-Ok-Some.field-0-is at c.in-Ok-Some.ensures.lends in rw lends at c.mount_lent.ensures.out

pub returns-in-Ok-Some-clause-kept : goal.returns-in-Ok-Some-clause-kept
returns-in-Ok-Some-clause-kept g c = rw c.in-Ok-Some.ensures.kept at c.mount_lent.ensures.kept

pub returns-in-Ok-Some-clause-back : goal.returns-in-Ok-Some-clause-back
returns-in-Ok-Some-clause-back g c =
    let lends = rw c.in-Ok-Some.field-0-is at c.in-Ok-Some.ensures.lends in
    let again = out_again _ c.args.name.now c.requires in
    rw (lends, again) at c.mount_lent.ensures.back

pub returns-in-Ok-Some-clause-run : goal.returns-in-Ok-Some-clause-run
returns-in-Ok-Some-clause-run g c = rw c.in-Ok-Some.ensures.kept at c.mount_lent.ensures.run

pub returns-in-Ok-Some-clause-only : goal.returns-in-Ok-Some-clause-only
returns-in-Ok-Some-clause-only g c = rw c.in-Ok-Some.ensures.kept at c.mount_lent.ensures.only

pub returns-in-Ok-None-clause-back : goal.returns-in-Ok-None-clause-back
returns-in-Ok-None-clause-back g c = rw c.in-Ok-None.field-0-is at c.in-Ok-None.ensures.lends

pub returns-in-Ok-None-clause-run : goal.returns-in-Ok-None-clause-run
returns-in-Ok-None-clause-run g c = no_run _ _ _ (ap g.S.Shelf.log c.in-Ok-None.ensures.kept)

pub returns-in-Ok-None-clause-only : goal.returns-in-Ok-None-clause-only
returns-in-Ok-None-clause-only g c = never_missing _ _ _ (rw c.in-Ok-None.field-0-is at c.in-Ok-None.ensures.found)

pub returns-in-Err-clause-run : goal.returns-in-Err-clause-run
returns-in-Err-clause-run g c = no_run _ _ _ (ap g.S.Shelf.log c.in-Err.ensures.kept)

pub returns-in-Err-clause-only : goal.returns-in-Err-clause-only
returns-in-Err-clause-only g c = whatever_planned _ _ c.in-Err.ensures.only
