use Rattle.std.proofs.Common.{◌≡◌, ◌≤◌, length}
use Rattle.inc_bytes.specs.Decimals.{numeral_from}
use Rattle.inc_bytes.proofs.decimals.number_in.Given as goal

abbrev pub invariant-loop-rest : goal.invariant-loop-rest
invariant-loop-rest l = record {
  same : numeral_from l.value l.rest ≡ numeral_from 0 l.word;
  small : l.value ≤ l.most;
}

abbrev pub decreases-loop-rest : goal.decreases-loop-rest
decreases-loop-rest l = length l.rest
