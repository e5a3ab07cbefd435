use Rattle.std.proofs.Common.{◌≤◌, ◌<◌, ◌∙◌, ◌++◌, ℕ, List, ap, sym, length, arith}
use Rattle.inc_tree.specs.content_tree.HashLevel.{KeepsDigests}
use Rattle.inc_tree.proofs.GrowthLemmas.{next_digests, root_done, area_done, grow_more}
use Rattle.inc_tree.proofs.content_tree.growth.+grow.Goals as goal

pub returns-then-count-le1 : goal.returns-then-count-le1
returns-then-count-le1 t c = record {
  value = λ most digests keeps few.
      let done : length digests ≤ 1 = omega (arith, keeps.count_is) in
      record {
        root_is = c.only.ensures.value digests keeps ∙ sym (root_done most digests done);
        area_is = c.new.ensures.items ∙ sym (area_done most digests done);
      };
}

pub returns : goal.returns
returns t c = record {
  value = λ most digests keeps few.
      let more : 1 < length digests = omega (arith, keeps.count_is) in
      let next : KeepsDigests (next_digests digests) c.in_ok-above.above = rw keeps.blocks_are at c.in_ok-above.ensures.value in
      let grown = grow_more most digests c.in_ok-grown.grown.root c.in_ok-grown.grown.blocks.items c.args.level.blocks.items more few keeps.blocks_are
      (λ m bound. let over = c.in_ok-grown.ensures.value m (next_digests digests) next bound in (over.root_is, over.area_is)) in
      record {
        root_is = grown.0;
        area_is =
            c.in_ok-append.ensures.items
            ∙ (ap (λ (bs : List (List ℕ)). c.in_ok-grown.grown.blocks.items ++ bs) c.into_blocks-blocks.ensures.value ∙ grown.1);
      };
}
