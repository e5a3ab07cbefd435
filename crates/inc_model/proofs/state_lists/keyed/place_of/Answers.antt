use Rattle.std.proofs.Common.{arith}
use Rattle.inc_model.proofs.lists.KeySlots.{key_at, key_slot, key_last}
use Rattle.inc_model.proofs.state_lists.keyed.place_of.Goals as goal

pub returns-then-row-key-clause-there : goal.returns-then-row-key-clause-there
returns-then-row-key-clause-there g c = key_at c.args.key c.args.rows.now c.loop-i.i _ c.loop-i-test.true c.loop-i.invariant c.index-rows-i.is c.if-row-key.true

pub returns-then-key-row-clause-missing : goal.returns-then-key-row-clause-missing
returns-then-key-row-clause-missing g c = key_slot c.args.key c.args.rows.now c.loop-i.i _ c.loop-i-test.true c.loop-i.invariant c.index-rows-i.is c.if-key-row.true

pub returns-clause-missing : goal.returns-clause-missing
returns-clause-missing g c = key_last c.args.key c.args.rows.now c.loop-i.i (omega arith) c.loop-i.invariant
