use Rattle.std.proofs.Common.{refl}
use Rattle.inc_cmd.proofs.MakeLemmas.{leaves_none}
use Rattle.inc_cmd.proofs.commands.make.make_unsigned.Goals as goal

pub returns-in-Err-TooLarge-clause-moments : goal.returns-in-Err-TooLarge-clause-moments
returns-in-Err-TooLarge-clause-moments g c = leaves_none _ _ _ _ refl

pub returns-in-Err-OutOfMemory-clause-moments : goal.returns-in-Err-OutOfMemory-clause-moments
returns-in-Err-OutOfMemory-clause-moments g c = leaves_none _ _ _ _ refl
