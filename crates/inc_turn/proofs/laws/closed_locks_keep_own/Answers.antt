use Rattle.inc_turn.proofs.SeatLemmas.{closed_own, closed_adds}
use Rattle.inc_turn.proofs.laws.closed_locks_keep_own.Goals as goal

pub returns-clause-seen : goal.returns-clause-seen
returns-clause-seen g c = closed_own g.M.Machine.history g.M.Machine.footing

pub returns-clause-added : goal.returns-clause-added
returns-clause-added g c = closed_adds g.M.Machine.history g.M.Machine.footing
