use Rattle.inc_md.proofs.Reading.{told_status}
use Rattle.inc_md.proofs.walking.read_status.Goals as goal

pub returns-clause-value : goal.returns-clause-value
returns-clause-value g c = told_status _ c.args.at _ _ c.status_in.ensures.value c.in_ok-fill.ensures.filled
