use Rattle.inc_disk.proofs.States.{sound_after}
use Rattle.inc_disk.proofs.memory_disk.MemDiskDisk.sync.Goals as goal

pub invariant_of-self : goal.invariant_of-self
invariant_of-self c = record { is_sound = sound_after _ _ _ c.fail_sync.ensures.err c.fail_sync.ensures.sound c.args.self.now.is_sound }

pub invariant_of-self-then-is_err : goal.invariant_of-self-then-is_err
invariant_of-self-then-is_err c = record { is_sound = sound_after _ _ _ c.sync.ensures.err c.sync.ensures.sound c.args.self.now.is_sound }
