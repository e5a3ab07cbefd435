use Rattle.std.proofs.Common.{sym, arith}
use Rattle.inc_model.proofs.lists.RowSlots.{window_at, no_window}
use Rattle.inc_model.proofs.state_lists.claims.row_at.Goals as goal

pub returns-then-is_same_window-clause-there : goal.returns-then-is_same_window-clause-there
returns-then-is_same_window-clause-there c = window_at c.args.window c.args.claimed.now c.loop-i.i _ c.loop-i-test.true c.loop-i.invariant (sym c.if-is_same_window.ensures.value)

pub returns-clause-missing : goal.returns-clause-missing
returns-clause-missing c = no_window c.args.window c.args.claimed.now c.loop-i.i (omega arith) c.loop-i.invariant
