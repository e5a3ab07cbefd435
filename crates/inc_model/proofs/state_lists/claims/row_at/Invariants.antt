-- the window has no row before the place
use Rattle.inc_model.proofs.lists.RowSlots.{NoneSame}
use Rattle.inc_model.proofs.state_lists.claims.row_at.Given as goal

abbrev pub invariant-loop-i : goal.invariant-loop-i
invariant-loop-i l = NoneSame l.claimed l.i l.window
