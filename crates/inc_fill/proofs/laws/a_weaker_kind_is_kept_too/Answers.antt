use Rattle.inc_fill.proofs.Known.{weaker_keeps}
use Rattle.inc_fill.proofs.laws.a_weaker_kind_is_kept_too.Goals as goal

pub returns : goal.returns
returns c = record { kept = weaker_keeps }
