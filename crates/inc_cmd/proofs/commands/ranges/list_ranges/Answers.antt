use Rattle.std.proofs.Common.{ℕ, List, refl}
use Rattle.inc_layout.specs.Backing.{laid_of}
use Rattle.inc_cmd.specs.Commands.Ranges.{ranges_laid_as}
use Rattle.inc_cmd.proofs.ReadLemmas.{refused_file}
use Rattle.inc_cmd.proofs.commands.ranges.list_ranges.Goals as goal

pub returns-in-Err-clause-answer : goal.returns-in-Err-clause-answer
returns-in-Err-clause-answer g c =
    refused_file _ c.args.name.now c.in-Err.fault laid_of (λ (bytes : List ℕ). ranges_laid_as c.args.name.now c.args.start c.args.end c.args.room) _ (λ (bytes : List ℕ). refl) c.in-Err.ensures.answer
    c.refuse_layout.ensures.outcome c.refuse_layout.ensures.refused
