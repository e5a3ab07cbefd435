use Rattle.std.proofs.Common.{◌≡◌, true}
use Rattle.inc_bytes.specs.Decimals.{is_numeral}
use Rattle.inc_bytes.proofs.Numerals.{number_all}
use Rattle.inc_bytes.proofs.decimals.number_in.Goals as goal

pub returns-clause-value : goal.returns-clause-value
returns-clause-value c =
    let is : is_numeral c.args.word.now ≡ true = cc in
    number_all c.args.most c.args.word.now c.loop-rest.rest.now c.loop-rest.value is c.loop-rest.invariant.same c.in_default.len_below c.loop-rest.invariant.small
