use Rattle.std.proofs.Common.{◌*◌, ◌∙◌, ℕ, ap, drop, take, arith, ◌≡◌}
use Rattle.inc_tree.proofs.RootLemmas.{take_to_end}
use Rattle.inc_tree.proofs.content_tree.block_of.Goals as goal

pub returns-clause-value : goal.returns-clause-value
returns-clause-value c =
    let from : c.args.index * 4096 ≡ 4096 * c.args.index = omega arith in
    take_to_end c.args.content.now (c.args.index * 4096) c.min-to.result 4096 c.min-to.ensures (omega arith)
    ∙ ap (λ (n : ℕ). take 4096 (drop n c.args.content.now)) from
