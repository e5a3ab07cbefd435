-- none of the blocks before the place was stored
use Rattle.std.proofs.Common.{◌≡◌, ◌+◌, drop}
use Rattle.inc_handle.specs.Outcomes.{ended_first}
use Rattle.inc_handle.proofs.fill.outcomes.count_ended.Given as goal

abbrev pub invariant-loop-place : goal.invariant-loop-place
invariant-loop-place l = ended_first l.ends ≡ l.place + ended_first (drop l.place l.ends)
