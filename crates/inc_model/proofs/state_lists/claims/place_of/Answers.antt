use Rattle.std.proofs.Common.{sym, arith}
use Rattle.inc_model.proofs.lists.RowSlots.{before_more, claim_at, claim_slot, claim_last}
use Rattle.inc_model.proofs.state_lists.claims.place_of.Goals as goal

pub returns-then-comes_before-clause-missing : goal.returns-then-comes_before-clause-missing
returns-then-comes_before-clause-missing c = claim_slot c.args.window c.args.claimed.now c.loop-i.i _ c.loop-i-test.true c.loop-i.invariant (sym c.if-comes_before.ensures.value)

pub returns-then-is_same_window-clause-there : goal.returns-then-is_same_window-clause-there
returns-then-is_same_window-clause-there c = claim_at c.args.window c.args.claimed.now c.loop-i.i _ c.loop-i-test.true c.loop-i.invariant (sym c.if-comes_before.ensures.value) (sym c.if-is_same_window.ensures.value)

pub loop-i-preserved : goal.loop-i-preserved
loop-i-preserved c = before_more c.args.claimed.now c.loop-i.i c.args.window _ c.loop-i-test.true c.loop-i.invariant (sym c.if-comes_before.ensures.value) (sym c.if-is_same_window.ensures.value)

pub returns-clause-missing : goal.returns-clause-missing
returns-clause-missing c = claim_last c.args.window c.args.claimed.now c.loop-i.i (omega arith) c.loop-i.invariant
