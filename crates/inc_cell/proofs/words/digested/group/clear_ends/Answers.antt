use Rattle.std.proofs.Common.{◌≡◌, ◌≢◌, ℕ, ◌<◌, List, [], get_or, length, arith, below_more, subst, ◌∙◌}
use Rattle.std.proofs.lemmas.List.{get_or-set_other, get_or-set_same, get_or_default}
use Rattle.inc_cell.specs.device.Digested.{IsCleared}
use Rattle.inc_cell.proofs.words.digested.group.clear_ends.Goals as goal

pub loop-index-preserved : goal.loop-index-preserved
loop-index-preserved c =
    let at : ℕ = c.loop-index.index in
    let here : at < length c.loop-index.blocks = omega arith in
    let old : get_or c.loop-index.blocks at c.index-blocks-index.result ≡ get_or c.args.blocks.now at [] =
    get_or_default c.loop-index.blocks at c.index-blocks-index.result [] here ∙ c.loop-index.invariant.rest at (omega arith) in
    record {
      cleared = below_more _ _
          (λ i h. let ne : i ≢ c.loop-index.index = omega arith in rw get_or-set_other (c.loop-index.invariant.cleared i h))
          (rw get_or-set_same (subst (λ (before : List ℕ). IsCleared before (get_or c.args.lens.now at 0) c.clear_end.new.block) old c.clear_end.ensures));
      rest = λ i h. let ne : i ≢ c.loop-index.index = omega arith in rw get_or-set_other (c.loop-index.invariant.rest i (omega arith));
    }
