use Rattle.std.proofs.Common.{◌++◌, drop, List, ℕ, ap, ◌∙◌}
use Rattle.inc_recover.specs.Making.{blank}
use Rattle.inc_recover.proofs.Made.{magic_filled}
use Rattle.inc_recover.proofs.making.magic_of.Goals as goal

pub returns : goal.returns
returns c = record { value = ap (λ (b : List ℕ). b ++ drop c.min-count.result blank) c.copy_from_slice.ensures.after ∙ magic_filled c.args.front.now c.min-count.result c.min-count.ensures }
