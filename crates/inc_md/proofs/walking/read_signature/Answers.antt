use Rattle.inc_md.proofs.Reading.{told_signature}
use Rattle.inc_md.proofs.walking.read_signature.Goals as goal

pub returns-clause-value : goal.returns-clause-value
returns-clause-value g c = told_signature _ c.args.at _ _ c.signature_in.ensures.value c.in_ok-fill.ensures.filled
