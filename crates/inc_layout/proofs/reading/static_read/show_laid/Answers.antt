use Rattle.inc_layout.proofs.block_read.ReadMeaning.{told_means}
use Rattle.inc_layout.proofs.reading.static_read.show_laid.Goals as goal

pub returns-clause-meaning : goal.returns-clause-meaning
returns-clause-meaning g c = told_means _ c.args.layout.now c.args.index c.requires.stands
