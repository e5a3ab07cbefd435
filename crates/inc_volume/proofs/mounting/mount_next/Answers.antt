use Rattle.std.proofs.Common.{◌∙◌, refl}
use Rattle.inc_disk.specs.Log.{contents_of}
use Rattle.inc_volume.specs.mounting.Planned.{IsHeldBy}
use Rattle.inc_volume.proofs.volumes.MountedCells.{always_err, never_refused, out_again, out_new, when_planned}
use Rattle.inc_volume.proofs.volumes.RefusalFaults.{quiet_cause}
use Rattle.inc_volume.proofs.volumes.RunsLeft.{no_run}
use Rattle.inc_volume.proofs.mounting.mount_next.Goals as goal

pub returns-in_err-own-clause-run : goal.returns-in_err-own-clause-run
returns-in_err-own-clause-run g c =
    always_err c.from_residual.result (no_run (g.S.Shelf.log (g.S.ReadShelf.kept c.args.shelf.now)) (g.S.Shelf.log (g.S.ReadShelf.kept c.args.shelf.now)) c.args.name.now refl)

pub lend_mounted-requires : goal.lend_mounted-requires
lend_mounted-requires g c = out_new _ c.args.name.now _ c.requires.mounted.out_is c.requires.new

pub take_in-requires-clause-room : goal.take_in-requires-clause-room
take_in-requires-clause-room g c = c.in_ok-own.ensures.room

pub take_in-requires-clause-new : goal.take_in-requires-clause-new
take_in-requires-clause-new g c = rw (c.in_ok-own.ensures.named, c.in_ok-own.ensures.same) c.requires.new

pub take_in-requires-clause-held : goal.take_in-requires-clause-held
take_in-requires-clause-held g c = (
  g.S.ReadShelf.out c.args.shelf.now,
  rw (c.in-Ok.ensures.kept, c.in_ok-own.ensures.same) c.requires.mounted,
  rw c.in_ok-own.ensures.named c.in-Ok.ensures.lent,
)

pub take_in-requires-clause-cell : goal.take_in-requires-clause-cell
take_in-requires-clause-cell g c = rw (c.in-Ok.ensures.kept, c.in_ok-own.ensures.named) c.in-Ok.ensures.cell

pub take_in-requires-clause-holder : goal.take_in-requires-clause-holder
take_in-requires-clause-holder g c =
    rw (c.in-Ok.ensures.kept, c.in_ok-own.ensures.named)
    (when_planned _ c.args.name.now (λ entries. IsHeldBy (contents_of entries) c.in-Ok.mounted.opened.header.id c.args.name.now) c.requires.planned c.in-Ok.ensures.held)

pub returns-in-Ok-clause-added : goal.returns-in-Ok-clause-added
returns-in-Ok-clause-added g c = rw (c.in_ok-own.ensures.named, c.in_ok-own.ensures.same) at c.take_in.ensures.added

pub returns-in-Ok-clause-mounted : goal.returns-in-Ok-clause-mounted
returns-in-Ok-clause-mounted g c = rw c.in-Ok.ensures.kept at c.take_in.ensures.mounted

pub returns-in-Ok-clause-kept : goal.returns-in-Ok-clause-kept
returns-in-Ok-clause-kept g c = rw c.in-Ok.ensures.kept at c.take_in.ensures.kept

pub returns-in-Ok-clause-same : goal.returns-in-Ok-clause-same
returns-in-Ok-clause-same g c = rw c.in_ok-own.ensures.same at c.take_in.ensures.same

pub returns-in-Ok-clause-back : goal.returns-in-Ok-clause-back
returns-in-Ok-clause-back g c =
    let again = out_again _ c.args.name.now (out_new _ c.args.name.now _ c.requires.mounted.out_is c.requires.new) in
    rw (c.in_ok-own.ensures.named, c.in-Ok.ensures.lent, again) at c.take_in.ensures.back

pub returns-in-Ok-clause-run : goal.returns-in-Ok-clause-run
returns-in-Ok-clause-run g c = rw (c.in-Ok.ensures.kept, c.in_ok-own.ensures.named) at c.take_in.ensures.run

pub returns-in-Ok-clause-only : goal.returns-in-Ok-clause-only
returns-in-Ok-clause-only g c = never_refused _ _ (rw c.in-Ok.ensures.kept at c.take_in.ensures.only)

pub returns-in-Ok-clause-cause : goal.returns-in-Ok-clause-cause
returns-in-Ok-clause-cause g c = quiet_cause _ _ _ (c.take_in.ensures.quiet ∙ c.in-Ok.ensures.cause.kept (λ e. absurd (cc))) c.take_in.ensures.no_fault

pub returns-in-Err-clause-only : goal.returns-in-Err-clause-only
returns-in-Err-clause-only g c = when_planned _ c.args.name.now _ c.requires.planned c.in-Err.ensures.only
