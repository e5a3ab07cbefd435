use Rattle.inc_pending.proofs.TableLemmas.{holds_but}
use Rattle.inc_pending.proofs.table.Table.cancel.Goals as goal

pub invariant_of-self : goal.invariant_of-self
invariant_of-self c = rw c.drop_read.ensures.others (holds_but c.args.who c.args.serial _ _ c.self.invariant)
