use Rattle.inc_cmd.proofs.filling.NewDisks.{told_made, told_unmounted}
use Rattle.inc_cmd.proofs.commands.big.on_disk.fill_made.Goals as goal

pub returns-in-Ok-clause-fills : goal.returns-in-Ok-clause-fills
returns-in-Ok-clause-fills g c =
    told_made c.args.file.now _ _ _ _ _ _ c.in-Ok.ensures.sound c.in-Ok.ensures.answer c.in-Ok.ensures.counts c.in-Ok.ensures.since c.fill_if_own.ensures.fills

pub returns-in-Err-clause-fills : goal.returns-in-Err-clause-fills
returns-in-Err-clause-fills g c = told_unmounted c.args.file.now _ _ _ c.in-Err.fault _ c.in-Err.ensures.answer c.in-Err.ensures.since c.not_mounted.ensures.other

pub returns-in-Err-clause-cause : goal.returns-in-Err-clause-cause
returns-in-Err-clause-cause g c = c.not_mounted.ensures.cause _ _ c.in-Err.ensures.cause.later c.in-Err.ensures.cause.failed
