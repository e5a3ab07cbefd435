use Rattle.std.proofs.Common.{arith}
use Rattle.inc_header.proofs.Spelling.{is_spelled, is_accepted, is_first}
use Rattle.inc_header.proofs.reading.read_header.Goals as goal

pub returns-clause-spelled : goal.returns-clause-spelled
returns-clause-spelled c = is_spelled c.args.b.now c.judged.result (λ i. omega (arith, c.type_inv.b i)) c.judged.ensures.value

pub returns-clause-accepted : goal.returns-clause-accepted
returns-clause-accepted c = is_accepted c.args.b.now c.judged.result c.judged.ensures.value

pub returns-clause-fault : goal.returns-clause-fault
returns-clause-fault c = is_first c.args.b.now c.judged.result c.judged.ensures.value
