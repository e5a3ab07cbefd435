use Rattle.std.proofs.Common.{◌≡◌, ℕ, ◌+◌, List, [], ◌∷◌, ◌++◌, length, get_or, map, take, sym, ap, ◌∙◌, arith, rules}
use Rattle.std.specs.List.{zip}
use Rattle.std.proofs.lemmas.Iterator.Adapters.{YieldsList-from_vec}
use Rattle.std.proofs.lemmas.Iterator.Consumers.{YieldsList-end, YieldsList-turn}
use Rattle.std.proofs.lemmas.List.{length_push}
use Rattle.inc_filling.specs.declared.filling.Filling.{Filling}
use Rattle.inc_filling.proofs.lemmas.HashLemmas.{filling_of, joined_more, joined_whole}
use Rattle.inc_filling.proofs.filling.group.join_fillings.Goals as goal

pub loop-block-preserved : goal.loop-block-preserved
loop-block-preserved c =
    let gives = c.into_iter-block-iterator.ensures.into_iter_gives in
    let blocks = c.args.blocks.items in
    let indices = c.args.indices.now in
    let count : c.into_iter-block-iterator.result.rest.len ≡ length blocks = gives.1 ∙ search rules in
    let turn = YieldsList-turn (YieldsList-from_vec {s = c.into_iter-block-iterator.result} blocks gives.0 count) c.loop-block.yielded c.loop-block.block-iterator c.loop-block.yielded_by c.next.result c.next.new.self c.in-Some.block c.in-Some.is c.next.ensures.steps in
    let n : ℕ = length c.loop-block.yielded in
    let pushed : length (c.loop-block.yielded ++ c.in-Some.block ∷ []) ≡ n + 1 = length_push c.loop-block.yielded c.in-Some.block in
    let at_is : c.len.result ≡ n = omega (arith, c.len.ensures, c.loop-block.invariant.count) in
    let more = joined_more indices blocks n c.in-Some.block (omega (arith, turn.0, c.requires.each)) turn.0 turn.1 in
    record {
      items = c.in_ok-push.ensures.items
          ∙ ap (λ (front : List Filling). front ++ filling_of (get_or indices c.len.result 0, c.in-Some.block) ∷ []) c.loop-block.invariant.items
          ∙ ap (λ (k : ℕ). map filling_of (take n (zip indices blocks)) ++ filling_of (get_or indices k 0, c.in-Some.block) ∷ []) at_is
          ∙ sym more
          ∙ ap (λ (k : ℕ). map filling_of (take k (zip indices blocks))) (sym pushed);
      count = omega (arith, c.in_ok-push.ensures.len, pushed);
    }

pub returns : goal.returns
returns c =
    let gives = c.into_iter-block-iterator.ensures.into_iter_gives in
    let blocks = c.args.blocks.items in
    let indices = c.args.indices.now in
    let count : c.into_iter-block-iterator.result.rest.len ≡ length blocks = gives.1 ∙ search rules in
    let end = YieldsList-end (YieldsList-from_vec {s = c.into_iter-block-iterator.result} blocks gives.0 count) c.loop-block.yielded c.loop-block.block-iterator c.loop-block.yielded_by c.next.result c.next.new.self c.in-None.is c.next.ensures.steps in
    record { value = c.loop-block.invariant.items ∙ ap (λ (k : ℕ). map filling_of (take k (zip indices blocks))) end.1 ∙ joined_whole indices blocks c.requires.each }
