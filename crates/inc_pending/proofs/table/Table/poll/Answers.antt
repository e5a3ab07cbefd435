use Rattle.std.proofs.Common.{sym, ◌∙◌}
use Rattle.inc_pending.proofs.ReadsLemmas.{only_answer}
use Rattle.inc_pending.proofs.TableLemmas.{holds_but}
use Rattle.inc_pending.proofs.table.Table.poll.Goals as goal

pub invariant_of-self : goal.invariant_of-self
invariant_of-self c = rw c.drop_read.ensures.others (holds_but c.args.who c.args.serial _ _ c.self.invariant)

pub returns-clause-only : goal.returns-clause-only
returns-clause-only c other =
    let decided = rw c.as_slice.ensures.value at c.look_at-decision.ensures.value in
    rw (← c.self.view_is) (λ right. only_answer c.self.inside.reads.items c.args.who c.args.serial c.args.now c.self.invariant.rising other right ∙ sym decided)
