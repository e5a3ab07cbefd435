use Rattle.inc_filling.proofs.streams.Generated.{never_full}
use Rattle.inc_filling.proofs.generated.fill_generated.Goals as goal

pub returns-clause-room : goal.returns-clause-room
returns-clause-room g c = λ few. never_full c.args.cell.now c.fill_rest.new.cell c.args.window c.args.content.now c.fill_rest.result c.fill_rest.ensures.fills few
