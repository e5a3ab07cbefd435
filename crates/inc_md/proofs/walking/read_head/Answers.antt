use Rattle.inc_md.proofs.Reading.{told_head}
use Rattle.inc_md.proofs.walking.read_head.Goals as goal

pub returns-clause-value : goal.returns-clause-value
returns-clause-value g c = told_head _ c.args.at _ _ c.head_in.ensures.value c.in_ok-fill.ensures.filled
