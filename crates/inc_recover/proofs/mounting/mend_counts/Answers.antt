use Rattle.inc_recover.proofs.MountLemmas.{none_mends, not_needed, some_mends, where_failed}
use Rattle.inc_recover.proofs.mounting.mend_counts.Goals as goal

pub returns-in-None-clause-mends : goal.returns-in-None-clause-mends
returns-in-None-clause-mends g c = none_mends c.args.opened.now _ (c.count_blocks.ensures.none c.in-None.is)

pub returns-in-Some-clause-unwritten : goal.returns-in-Some-clause-unwritten
returns-in-Some-clause-unwritten g c right =
    absurd (not_needed c.args.opened.now c.in-Some.status right (rw c.count_blocks.ensures.value at c.in-Some.ensures.some) c.in-Some.ensures.needed)

pub returns-in-Some-clause-mends : goal.returns-in-Some-clause-mends
returns-in-Some-clause-mends g c =
    let counts = rw c.count_blocks.ensures.value at c.in-Some.ensures.some in
    some_mends c.args.opened.now c.in-Some.status _ _ c.write_counts.result counts c.in-Some.ensures.needed c.in-Some.ensures.small.0 c.in-Some.ensures.small.1 c.write_counts.ensures.counts

pub returns-in-Some-clause-needed : goal.returns-in-Some-clause-needed
returns-in-Some-clause-needed g c =
    where_failed c.write_counts.result (λ right. not_needed c.args.opened.now c.in-Some.status right (rw c.count_blocks.ensures.value at c.in-Some.ensures.some) c.in-Some.ensures.needed)
