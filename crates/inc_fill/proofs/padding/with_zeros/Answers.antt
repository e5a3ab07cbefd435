use Rattle.std.proofs.Common.{ℕ, ◌-◌, length, arith, rules}
use Rattle.std.proofs.lemmas.List.{take-replicate}
use Rattle.inc_fill.proofs.padding.with_zeros.Goals as goal

pub returns : goal.returns
returns c = rw (← take-replicate {X = ℕ} (4096 - length c.args.bytes.now) 4096 0 (omega arith)) search rules
