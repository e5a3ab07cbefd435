use Rattle.inc_cmd.proofs.PartLemmas.{front_shows}
use Rattle.inc_cmd.proofs.commands.read.show_part.Goals as goal

pub returns-in-Some-clause-shows : goal.returns-in-Some-clause-shows
returns-in-Some-clause-shows g c = front_shows _ c.args.layout.now c.args.mapped.now c.args.index _ c.show_front.result c.in-Some.ensures.shows c.show_front.ensures.shows
