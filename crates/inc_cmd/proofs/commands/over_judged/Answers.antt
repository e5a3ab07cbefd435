use Rattle.std.proofs.Common.{None}
use Rattle.inc_mapped.specs.Mapping.{Mapping}
use Rattle.inc_cmd.proofs.NameLemmas.{shows_own, shows_part, vouches_name}
use Rattle.inc_cmd.proofs.commands.over_judged.Goals as goal

pub returns-in-Plain-clause-shows : goal.returns-in-Plain-clause-shows
returns-in-Plain-clause-shows g c = shows_own _ c.args.command c.args.name.now _ _ c.over_own.result (rw c.in-Plain.is at c.requires.meaning) c.over_own.ensures.shows

pub returns-in-Plain-clause-vouched : goal.returns-in-Plain-clause-vouched
returns-in-Plain-clause-vouched g c = vouches_name c.args.command c.args.name.now None c.over_own.result c.over_own.ensures.vouched

pub returns-in-Mapped-clause-shows : goal.returns-in-Mapped-clause-shows
returns-in-Mapped-clause-shows g c =
    shows_part _ c.args.command c.args.name.now c.in-Mapped.original (let part : Mapping = record { offset = c.in-Mapped.offset; size = c.in-Mapped.size } in part) c.over_original.result
    (rw c.in-Mapped.is at c.requires.judged) c.over_original.ensures.shows
