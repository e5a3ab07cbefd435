use Rattle.std.proofs.Common.{◌≡◌, ◌∙◌, ◌++◌, ◌∷◌, [], ℕ, List, length, map, ap, sym, subst, arith}
use Rattle.std.specs.List.{range_with_len}
use Rattle.std.proofs.lemmas.List.FromFn.{length-map-range_with_len, map-range_with_len_more}
use Rattle.inc_tree.specs.shape.Geometry.{blocks_of}
use Rattle.inc_tree.specs.content_tree.HashLevel.{KeepsDigests}
use Rattle.inc_tree.specs.read_block.Path.{block_digest}
use Rattle.inc_tree.specs.content_tree.Root.{content_block, leaf_digests}
use Rattle.inc_loader.specs.Content.{generated_content}
use Rattle.inc_loader.proofs.ContentLemmas.{length-generated_content}
use Rattle.inc_loader.proofs.gen_loader.content.generated_tree.Goals as goal

pub push-requires : goal.push-requires
push-requires c = record {
  room = omega (
    arith,
    c.loop-index.invariant.digests.count_is,
    length-map-range_with_len (λ i. block_digest (content_block (generated_content c.args.number c.args.geometry.size) i)) 0 c.loop-index.index,
    c.data_blocks-index-end.ensures.small,
  );
}

pub loop-index-preserved : goal.loop-index-preserved
loop-index-preserved c =
    let digest = λ (i : ℕ). block_digest (content_block (generated_content c.args.number c.args.geometry.size) i) in
    let more = map-range_with_len_more digest 0 c.loop-index.index c.loop-index.index (omega arith) in
    record {
      digests = subst (λ (ds : List (List ℕ)). KeepsDigests ds c.push.new.self)
          (ap (λ (d : List ℕ). map digest (range_with_len 0 c.loop-index.index) ++ d ∷ []) c.leaf_digest.ensures.value ∙ sym more)
          (c.in_ok-push.ensures.put (map digest (range_with_len 0 c.loop-index.index)) c.loop-index.invariant.digests);
      room = c.loop-index.invariant.room;
    }

pub returns : goal.returns
returns c =
    let content : List ℕ = generated_content c.args.number c.args.geometry.size in
    let count : c.loop-index.index ≡ blocks_of (length content) =
    omega (arith, c.data_blocks-index-end.ensures.value, ap blocks_of (length-generated_content c.args.number c.args.geometry.size), c.loop-index.auto.index-end, c.loop-index-test.false) in
    let kept : KeepsDigests (leaf_digests content) c.loop-index.leaves =
    subst (λ (n : ℕ). KeepsDigests (map (λ i. block_digest (content_block content i)) (range_with_len 0 n)) c.loop-index.leaves) count c.loop-index.invariant.digests in
    record {
      root = c.in_ok-tree.ensures.root (leaf_digests content) kept;
      area = c.in_ok-tree.ensures.area (leaf_digests content) kept;
    }
