-- the windows before the place come before this one
use Rattle.inc_model.proofs.lists.RowSlots.{AllBefore}
use Rattle.inc_model.proofs.state_lists.claims.place_of.Given as goal

abbrev pub invariant-loop-i : goal.invariant-loop-i
invariant-loop-i l = AllBefore l.claimed l.i l.window
