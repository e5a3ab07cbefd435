use Rattle.inc_disk.proofs.States.{sound_after}
use Rattle.inc_disk.proofs.memory_disk.tear.Goals as goal

pub returns-clause-sound : goal.returns-clause-sound
returns-clause-sound c = sound_after _ _ _ c.write.ensures.err c.write.ensures.sound
