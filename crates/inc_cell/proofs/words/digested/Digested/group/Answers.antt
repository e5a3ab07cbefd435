use Rattle.std.proofs.Common.{◌≡◌, ℕ, List, ◌++◌, length, take, drop, ap, subst, ◌∙◌, arith, rules}
use Rattle.std.specs.Prelude.{IfOk}
use Rattle.inc_cell.specs.device.Digested.{DigestedBlock, digested_each}
use Rattle.inc_cell.proofs.handing.GroupLemmas.{cleared_each, kept_whole}
use Rattle.inc_cell.proofs.words.digested.Digested.group.Goals as goal

pub returns : goal.returns
returns c =
    let lens = c.args.lens.now in
    let new = c.clear_ends.new.blocks in
    let same : length c.as_mut_slice.result.now ≡ length new = omega (arith, c.clear_ends.auto.blocks) in
    let each : digested_each new lens ≡ digested_each c.as_mut_slice.result.now lens =
    cleared_each c.as_mut_slice.result.now new lens same (λ i lt. c.requires.most i lt) (λ i lt. c.clear_ends.ensures.cleared i lt) in
    let kept : List (List ℕ) = take c.args.blocks.len (new ++ drop (length new) c.args.blocks.items) in
    let count : c.args.blocks.len ≡ length new = search rules in
    let is_new : kept ≡ new = kept_whole c.args.blocks.len new (drop (length new) c.args.blocks.items) count in
    let whole : digested_each kept lens ≡ digested_each c.args.blocks.items lens =
    ap (λ (blocks : List (List ℕ)). digested_each blocks lens) is_new ∙ each ∙ ap (λ (blocks : List (List ℕ)). digested_each blocks lens) c.as_mut_slice.ensures.value in
    let joined : IfOk c.join_parts.result (λ group. group.items ≡ digested_each kept lens) = c.join_parts.ensures.value in
    record { value = subst (λ (wanted : List DigestedBlock). IfOk c.join_parts.result (λ group. group.items ≡ wanted)) whole joined }
