use Rattle.std.proofs.Common.{List, ℕ}
use Rattle.inc_layout.specs.reading.StaticRead.{static_reading}
use Rattle.inc_cmd.specs.Commands.Parts.{front_read}
use Rattle.inc_cmd.proofs.PartLemmas.{front_error}
use Rattle.inc_cmd.proofs.ReadLemmas.{refused_block}
use Rattle.inc_cmd.proofs.commands.read.show_front.Goals as goal

pub returns-in-Err-clause-answer : goal.returns-in-Err-clause-answer
returns-in-Err-clause-answer g c =
    refused_block _ c.args.index c.in-Err.error (λ (bytes : List ℕ). front_read c.args.count (static_reading bytes c.args.layout.now c.args.block)) _
    (front_error _ c.args.count c.in-Err.error (λ (bytes : List ℕ). static_reading bytes c.args.layout.now c.args.block) c.in-Err.ensures.answer)
    c.refuse_block.ensures.outcome c.refuse_block.ensures.not_shown
