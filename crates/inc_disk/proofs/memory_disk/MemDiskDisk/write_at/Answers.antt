use Rattle.std.proofs.Common.{◌-◌, ◌/◌, min, length, take, arith, length-take}
use Rattle.inc_disk.proofs.States.{sound_after, writes_torn, place_now}
use Rattle.inc_disk.proofs.memory_disk.MemDiskDisk.write_at.Goals as goal

pub invariant_of-self : goal.invariant_of-self
invariant_of-self c = record { is_sound = c.tear.ensures.sound c.args.self.now.is_sound }

pub invariant_of-self-then-is_err : goal.invariant_of-self-then-is_err
invariant_of-self-then-is_err c = record { is_sound = sound_after _ _ _ c.write.ensures.err c.write.ensures.sound c.args.self.now.is_sound }

pub invariant_of-self-else-is_err : goal.invariant_of-self-else-is_err
invariant_of-self-else-is_err c = record { is_sound = sound_after _ _ _ c.write.ensures.err c.write.ensures.sound c.args.self.now.is_sound }

pub returns-then-planned-full-clause-written : goal.returns-then-planned-full-clause-written
returns-then-planned-full-clause-written c =
    let half = min (length c.args.piece.now / 2) (c.args.self.now.room - c.args.at) in
    writes_torn _ _ c.args.piece.now (take half c.args.piece.now) _ _ _ (place_now _ _ c.requires.place) (omega (arith, length-take half c.args.piece.now)) c.tear.ensures.torn
