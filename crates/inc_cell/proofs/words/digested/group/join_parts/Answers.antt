use Rattle.std.proofs.Common.{◌≡◌, ℕ, ◌+◌, List, [], ◌∷◌, ◌++◌, length, get_or, map, take, sym, ap, ◌∙◌, arith, rules}
use Rattle.std.specs.List.{zip}
use Rattle.std.proofs.lemmas.Iterator.Adapters.{YieldsList-from_vec}
use Rattle.std.proofs.lemmas.Iterator.Consumers.{YieldsList-end, YieldsList-turn}
use Rattle.std.proofs.lemmas.List.{length_push}
use Rattle.inc_cell.specs.device.Digested.{DigestedBlock, digested}
use Rattle.inc_cell.proofs.handing.GroupLemmas.{each_more, each_whole}
use Rattle.inc_cell.proofs.words.digested.group.join_parts.Goals as goal

pub loop-block-preserved : goal.loop-block-preserved
loop-block-preserved c =
    let gives = c.into_iter-block-iterator.ensures.into_iter_gives in
    let blocks = c.args.blocks.items in
    let lens = c.args.lens.now in
    let count : c.into_iter-block-iterator.result.rest.len ≡ length blocks = gives.1 ∙ search rules in
    let turn = YieldsList-turn (YieldsList-from_vec {s = c.into_iter-block-iterator.result} blocks gives.0 count) c.loop-block.yielded c.loop-block.block-iterator c.loop-block.yielded_by c.next.result c.next.new.self c.in-Some.block c.in-Some.is c.next.ensures.steps in
    let n : ℕ = length c.loop-block.yielded in
    let joined : c.hashed.result ≡ digested c.in-Some.block (get_or lens n 0) = search rules in
    let pushed : length (c.loop-block.yielded ++ c.in-Some.block ∷ []) ≡ n + 1 = length_push c.loop-block.yielded c.in-Some.block in
    let f : List ℕ × ℕ → DigestedBlock = λ pair. digested pair.0 pair.1 in
    let more = each_more blocks lens n c.in-Some.block turn.0 (omega (arith, turn.0)) turn.1 in
    record {
      items = c.in_ok-push.ensures.items
          ∙ ap (λ (front : List DigestedBlock). front ++ c.hashed.result ∷ []) c.loop-block.invariant.items
          ∙ ap (λ (last : DigestedBlock). map f (take n (zip blocks lens)) ++ last ∷ []) joined
          ∙ sym more
          ∙ ap (λ (k : ℕ). map f (take k (zip blocks lens))) (sym pushed);
      count = omega (arith, c.in_ok-push.ensures.len, pushed);
    }

pub returns : goal.returns
returns c =
    let gives = c.into_iter-block-iterator.ensures.into_iter_gives in
    let blocks = c.args.blocks.items in
    let lens = c.args.lens.now in
    let count : c.into_iter-block-iterator.result.rest.len ≡ length blocks = gives.1 ∙ search rules in
    let end = YieldsList-end (YieldsList-from_vec {s = c.into_iter-block-iterator.result} blocks gives.0 count) c.loop-block.yielded c.loop-block.block-iterator c.loop-block.yielded_by c.next.result c.next.new.self c.in-None.is c.next.ensures.steps in
    let f : List ℕ × ℕ → DigestedBlock = λ pair. digested pair.0 pair.1 in
    record { value = c.loop-block.invariant.items ∙ ap (λ (k : ℕ). map f (take k (zip blocks lens))) end.1 ∙ each_whole blocks lens c.requires.each }
