use Rattle.std.proofs.Common.{arith}
use Rattle.inc_signature.proofs.Printing.{is_printed, is_short, is_accepted, is_first}
use Rattle.inc_signature.proofs.parsing.parse.Goals as goal

pub returns-clause-printed : goal.returns-clause-printed
returns-clause-printed c = is_printed c.args.b.now c.parsed.result (λ i. omega (arith, c.type_inv.b i)) c.parsed.ensures.value

pub returns-clause-accepted : goal.returns-clause-accepted
returns-clause-accepted c = is_accepted c.args.b.now c.parsed.result c.parsed.ensures.value

pub returns-clause-fault : goal.returns-clause-fault
returns-clause-fault c = is_first c.args.b.now c.parsed.result c.parsed.ensures.value

pub returns-clause-short : goal.returns-clause-short
returns-clause-short c = is_short c.args.b.now c.parsed.result c.parsed.ensures.value
