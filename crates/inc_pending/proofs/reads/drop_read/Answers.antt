use Rattle.std.proofs.Common.{sym, ap}
use Rattle.std.specs.Prelude.{is_some}
use Rattle.inc_pending.proofs.ReadsLemmas.{found_none, but_none}
use Rattle.inc_pending.proofs.reads.drop_read.Goals as goal

pub returns-in-None-clause-value : goal.returns-in-None-clause-value
returns-in-None-clause-value c =
    let none = rw c.as_slice.ensures.value at c.in-None.ensures.value in
    sym (ap (λ found. is_some found) (found_none c.args.who c.args.serial c.args.rows.now.items (sym none)))

pub returns-in-None-clause-others : goal.returns-in-None-clause-others
returns-in-None-clause-others c =
    let none = rw c.as_slice.ensures.value at c.in-None.ensures.value in
    sym (but_none c.args.who c.args.serial c.args.rows.now.items (sym none))
