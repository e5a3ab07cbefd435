use Rattle.inc_cmd.proofs.answer.act.Goals as goal

pub returns-in-Fill-clause-settled : goal.returns-in-Fill-clause-settled
returns-in-Fill-clause-settled g c = rw c.in-Fill.is c.fill_name.ensures.settled

pub returns-in-Big-clause-settled : goal.returns-in-Big-clause-settled
returns-in-Big-clause-settled g c = rw c.in-Big.is c.make_big.ensures.settled

pub returns-in-Big-clause-moments : goal.returns-in-Big-clause-moments
returns-in-Big-clause-moments g c = rw c.in-Big.is c.make_big.ensures.moments
