use Rattle.std.proofs.Common.{◌++◌, drop, take}
use Rattle.inc_recover.specs.Making.{MayBeLeft, blank}
use Rattle.inc_recover.proofs.Made.{made_of, magic_after, magic_before, put_goes, step_goes}
use Rattle.inc_recover.proofs.making.put_magic.Goals as goal

pub returns-in_err-write_at-clause-moments : goal.returns-in_err-write_at-clause-moments
returns-in_err-write_at-clause-moments g c image has is rest =
    (put_goes 0 (take 8 image) (blank ++ drop 8 image) _ _ _ (MayBeLeft image) (rw is at c.write_at.ensures.written) rest (magic_before image (drop 8 image)) (λ reads. magic_after image reads has)).moments

pub returns-clause-made : goal.returns-clause-made
returns-clause-made g c image has is rest =
    made_of image (g.D.Disk.states (g.D.Backing.kept c.sync.new.self)) c.sync.result has
    (step_goes 0 (take 8 image) (blank ++ drop 8 image) _ _ _ _ _ (MayBeLeft image) (rw is at c.in_ok-write_at.ensures.written) c.sync.ensures.synced (g.met.D.Disk.sound c.write_at.new.self) rest
    (magic_before image (drop 8 image)) (λ reads. magic_after image reads has)).0

pub returns-clause-moments : goal.returns-clause-moments
returns-clause-moments g c image has is rest =
    (step_goes 0 (take 8 image) (blank ++ drop 8 image) _ _ _ _ _ (MayBeLeft image) (rw is at c.in_ok-write_at.ensures.written) c.sync.ensures.synced (g.met.D.Disk.sound c.write_at.new.self) rest
    (magic_before image (drop 8 image)) (λ reads. magic_after image reads has)).1
