use Rattle.inc_model.proofs.lists.Presence.{length-presence, presence_at}
use Rattle.inc_model.proofs.laws.ranges_tell_the_map.Goals as goal

pub returns-clause-whole : goal.returns-clause-whole
returns-clause-whole c = length-presence

pub returns-clause-each : goal.returns-clause-each
returns-clause-each c = presence_at
