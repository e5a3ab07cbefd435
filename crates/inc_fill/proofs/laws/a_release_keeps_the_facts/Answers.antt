use Rattle.inc_fill.proofs.Settling.{release_keeps}
use Rattle.inc_fill.proofs.laws.a_release_keeps_the_facts.Goals as goal

pub returns : goal.returns
returns c = record { released = release_keeps }
