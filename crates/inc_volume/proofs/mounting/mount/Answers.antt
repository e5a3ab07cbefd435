use Rattle.std.proofs.Common.{ap}
use Rattle.inc_disk.specs.Log.{contents_of}
use Rattle.inc_volume.specs.mounting.Targets.{files_for, targets_of}
use Rattle.inc_volume.proofs.volumes.VolumeAnswers.{left_alone, mount_answers, mount_runs, mount_unwritten, no_runs}
use Rattle.inc_volume.proofs.mounting.mount.Goals as goal

pub returns-in-Ok-clause-answer : goal.returns-in-Ok-clause-answer
returns-in-Ok-clause-answer g c =
    mount_answers (g.S.Shelf.log (g.S.ReadShelf.kept c.args.shelf.now)) _ c.in-Ok.targets _ _ (g.met.S.Shelf.contents_now _) c.in-Ok.ensures.answer c.mount_targets.ensures.same
    (rw c.in-Ok.ensures.kept at c.mount_targets.ensures.only)

pub returns-in-Ok-clause-runs : goal.returns-in-Ok-clause-runs
returns-in-Ok-clause-runs g c =
    mount_runs (g.S.Shelf.log (g.S.ReadShelf.kept c.args.shelf.now)) _ c.in-Ok.targets _ _ _ (g.met.S.Shelf.contents_now _) c.in-Ok.ensures.answer (rw c.in-Ok.ensures.kept at c.mount_targets.ensures.runs)

pub returns-in-Ok-clause-unwritten : goal.returns-in-Ok-clause-unwritten
returns-in-Ok-clause-unwritten g c = mount_unwritten _ c.args.names.now c.in-Ok.targets _ _ (rw c.in-Ok.ensures.kept at c.mount_targets.ensures.only)

pub returns-in-Err-clause-runs : goal.returns-in-Err-clause-runs
returns-in-Err-clause-runs g c = no_runs _ _ (λ before. files_for (targets_of (contents_of before) c.args.names.now)) (ap g.S.Shelf.log c.in-Err.ensures.kept)

pub returns-in-Err-clause-unwritten : goal.returns-in-Err-clause-unwritten
returns-in-Err-clause-unwritten g c = left_alone _ _ c.in-Err.ensures.kept

pub mount_targets-requires-clause-planned : goal.mount_targets-requires-clause-planned
mount_targets-requires-clause-planned g c = rw c.in-Ok.ensures.kept c.in-Ok.ensures.files

pub returns-in-Ok-clause-mounted : goal.returns-in-Ok-clause-mounted
returns-in-Ok-clause-mounted g c = rw c.in-Ok.ensures.kept at c.mount_targets.ensures.mounted

pub returns-in-Ok-clause-kept : goal.returns-in-Ok-clause-kept
returns-in-Ok-clause-kept g c = rw c.in-Ok.ensures.kept at c.mount_targets.ensures.kept
