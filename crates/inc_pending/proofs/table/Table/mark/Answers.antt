use Rattle.inc_pending.proofs.TableLemmas.{holds_marked}
use Rattle.inc_pending.proofs.table.Table.mark.Goals as goal

pub invariant_of-self : goal.invariant_of-self
invariant_of-self c = rw c.mark_reads.ensures.rows (holds_marked c.args.block _ _ c.self.invariant)
