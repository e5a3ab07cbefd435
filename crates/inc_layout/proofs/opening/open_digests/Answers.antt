use Rattle.inc_layout.proofs.opened_file.OpeningSteps.{laid_told, opened_given, told_stands}
use Rattle.inc_layout.proofs.opening.open_digests.Goals as goal

pub returns-clause-answer : goal.returns-clause-answer
returns-clause-answer g c =
    opened_given _ c.args.layout c.in_ok-digests.digests.items c.opened.result (laid_told _ c.args.layout c.requires.stands)
    (rw (c.as_slice.ensures.value) at c.in_ok-digests.ensures.digests) c.opened.ensures.value

pub returns-clause-stands : goal.returns-clause-stands
returns-clause-stands g c = told_stands _ c.opened.result (returns-clause-answer g c)
