-- the entries before the place are legal, and leave the state
use Rattle.inc_history.proofs.Rounds.{RanSo}
use Rattle.inc_history.proofs.history_run.run_entries.Given as goal

abbrev pub invariant-loop-done : goal.invariant-loop-done
invariant-loop-done l = RanSo l.at l.fn.core.state l.entries l.done l.core.state
