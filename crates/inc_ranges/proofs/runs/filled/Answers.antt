use Rattle.inc_ranges.proofs.Splitting.{tells}
use Rattle.inc_ranges.proofs.runs.filled.Goals as goal

pub returns-clause-left : goal.returns-clause-left
returns-clause-left g c =
    let says = c.in_ok-first_runs.ensures in
    (tells _ _ _ c.args.room _ _ _ says.list says.more says.next).left

pub returns-clause-first : goal.returns-clause-first
returns-clause-first g c =
    let says = c.in_ok-first_runs.ensures in
    (tells _ _ _ c.args.room _ _ _ says.list says.more says.next).first_left
