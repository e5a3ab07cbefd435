use Rattle.inc_md.proofs.Reading.{told_map}
use Rattle.inc_md.proofs.walking.read_map.Goals as goal

pub returns-clause-value : goal.returns-clause-value
returns-clause-value g c = told_map _ c.args.at _ _ c.map_in.ensures.value c.in_ok-fill.ensures.filled
