use Rattle.inc_mapped.specs.Mapping.{mapping_of}
use Rattle.inc_cmd.proofs.NameLemmas.{part_answered}
use Rattle.inc_cmd.proofs.commands.mapped.over_original.Goals as goal

pub returns-clause-answer : goal.returns-clause-answer
returns-clause-answer g c =
    part_answered _ _ c.args.command c.args.name.now c.args.header.now.id (mapping_of c.args.header.now) c.in-Some.holder c.over_part-outcome.result c.requires.judged
    (rw c.in-Some.is at c.in_ok-holder.ensures.answer) (rw c.in_ok-holder.ensures.kept at (rw c.in-Some-2.is at c.in_ok-file.ensures.found))
    (rw c.in_ok-holder.ensures.kept at (rw c.in-Some-2.is at c.in_ok-file.ensures.reads)) c.over_part-outcome.ensures.answer
