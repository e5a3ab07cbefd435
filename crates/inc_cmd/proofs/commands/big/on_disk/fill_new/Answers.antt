use Rattle.inc_cmd.proofs.filling.NewDisks.{make_failed, make_filled}
use Rattle.inc_cmd.proofs.commands.big.on_disk.fill_new.Goals as goal

pub returns-in-Ok-clause-fills : goal.returns-in-Ok-clause-fills
returns-in-Ok-clause-fills g c =
    λ is. make_filled _ _ _ _ _ _ c.in-Ok.ensures.moments c.in-Ok.ensures.made (λ making states. c.fill_made.ensures.fills _ making c.requires.stands states) is

pub returns-in-Err-clause-fills : goal.returns-in-Err-clause-fills
returns-in-Err-clause-fills g c = λ is. make_failed _ _ _ _ c.in-Err.ensures.moments is
