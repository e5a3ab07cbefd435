use Rattle.inc_model.proofs.runs.Worlds.{history_world, world_history, world_end}
use Rattle.inc_model.proofs.laws.histories_are_worlds.Goals as goal

pub returns-clause-world : goal.returns-clause-world
returns-clause-world c = history_world

pub returns-clause-history : goal.returns-clause-history
returns-clause-history c = world_history

pub returns-clause-end : goal.returns-clause-end
returns-clause-end c = world_end
