use Rattle.std.proofs.Common.{◌≤◌, ◌+◌, length, sym, ◌∙◌, add-one, arith}
use Rattle.inc_tree.proofs.PathLemmas.{wanted_root}
use Rattle.inc_cache.proofs.cache.paths.digest_on.Goals as goal

pub returns-else-above-depth : goal.returns-else-above-depth
returns-else-above-depth c =
    let good = c.args.block.now.good in
    let last : length c.args.block.now.path ≤ c.args.level + 1 = omega (arith, good.full, c.if-above-depth.false, c.depth-depth.ensures.value) in
    let top : c.args.level + 1 ≤ length c.args.block.now.path = omega (arith, good.full, c.requires.within) in
    record {
      value = sym (rw add-one at (good.each (c.args.level + 1) top ∙ wanted_root _ _ _ _ last));
    }
