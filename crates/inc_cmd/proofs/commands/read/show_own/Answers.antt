use Rattle.inc_layout.specs.reading.StaticRead.{static_reading}
use Rattle.inc_cmd.proofs.ReadLemmas.{refused_block}
use Rattle.inc_cmd.proofs.commands.read.show_own.Goals as goal

pub returns-in-Err-clause-answer : goal.returns-in-Err-clause-answer
returns-in-Err-clause-answer g c =
    refused_block _ c.args.index c.in-Err.error (λ bytes. static_reading bytes c.args.layout.now c.args.index) _ c.in-Err.ensures.answer
    c.refuse_block.ensures.outcome c.refuse_block.ensures.not_shown
