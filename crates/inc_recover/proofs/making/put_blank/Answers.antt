use Rattle.std.proofs.Common.{[]}
use Rattle.inc_recover.specs.Making.{MayBeLeft, blank}
use Rattle.inc_recover.proofs.Made.{blank_images, empty_images, put_goes, step_goes}
use Rattle.inc_recover.proofs.making.put_blank.Goals as goal

pub returns-in_err-write_at-clause-moments : goal.returns-in_err-write_at-clause-moments
returns-in_err-write_at-clause-moments g c = λ image.
    (put_goes 0 blank [] _ _ _ (MayBeLeft image) c.write_at.ensures.written c.requires.empty (empty_images image) (blank_images image)).moments

pub returns-clause-moments : goal.returns-clause-moments
returns-clause-moments g c = λ image.
    (step_goes 0 blank [] _ _ _ _ _ (MayBeLeft image) c.in_ok-write_at.ensures.written c.sync.ensures.synced (g.met.D.Disk.sound c.write_at.new.self) c.requires.empty (empty_images image) (blank_images image)).1
