use Rattle.std.proofs.Common.{List, ℕ, refl}
use Rattle.inc_layout.specs.Backing.{laid_of}
use Rattle.inc_mapped.specs.Mapping.{mapping_of}
use Rattle.inc_cmd.specs.Commands.{part_laid_as}
use Rattle.inc_cmd.specs.Commands.Parts.{EndsIn}
use Rattle.inc_cmd.proofs.PartLemmas.{whatever}
use Rattle.inc_cmd.proofs.ReadLemmas.{refused_file}
use Rattle.inc_cmd.proofs.commands.mapped.over_part.Goals as goal

pub returns-in-Err-clause-answer : goal.returns-in-Err-clause-answer
returns-in-Err-clause-answer g c =
    whatever _ (λ (bytes : List ℕ). EndsIn bytes (mapping_of c.args.header.now)) _
    (refused_file _ c.args.name.now c.in-Err.fault laid_of (λ (bytes : List ℕ). part_laid_as c.args.command c.args.name.now c.args.header.now.id (mapping_of c.args.header.now) bytes) _ (λ (bytes : List ℕ). refl)
    c.in-Err.ensures.answer c.refuse_layout.ensures.outcome c.refuse_layout.ensures.refused)
