use Rattle.std.proofs.Common.{◌≡◌, ◌∙◌, ◌++◌, ◌∷◌, [], ℕ, List, length, map, ap, sym, subst, arith}
use Rattle.std.specs.List.{range_with_len}
use Rattle.std.proofs.lemmas.List.FromFn.{length-map-range_with_len, map-range_with_len_more}
use Rattle.inc_tree.specs.shape.Geometry.{tree_of, blocks_of, data_blocks, hash_blocks}
use Rattle.inc_tree.specs.content_tree.HashLevel.{KeepsDigests}
use Rattle.inc_tree.specs.read_block.Path.{block_digest}
use Rattle.inc_tree.specs.content_tree.Root.{content_block, leaf_digests, area_of}
use Rattle.inc_tree.proofs.GrowthLemmas.{length-area_of, tree_paths}
use Rattle.inc_tree.proofs.content_tree.build.Goals as goal

pub push-requires : goal.push-requires
push-requires c = record {
  room = omega (
    arith,
    c.loop-index.invariant.count_is,
    length-map-range_with_len (λ i. block_digest (content_block c.args.content.now i)) 0 c.loop-index.index,
    c.data_blocks-index-end.ensures.small,
  );
}

pub loop-index-preserved : goal.loop-index-preserved
loop-index-preserved c =
    let digest = λ (i : ℕ). block_digest (content_block c.args.content.now i) in
    let last : c.digest_block.result ≡ digest c.loop-index.index = c.digest_block.ensures.value ∙ ap block_digest c.block_of.ensures.value in
    let more = map-range_with_len_more digest 0 c.loop-index.index c.loop-index.index (omega arith) in
    subst (λ (ds : List (List ℕ)). KeepsDigests ds c.push.new.self)
    (ap (λ (d : List ℕ). map digest (range_with_len 0 c.loop-index.index) ++ d ∷ []) last ∙ sym more)
    (c.in_ok-push.ensures.put (map digest (range_with_len 0 c.loop-index.index)) c.loop-index.invariant)

-- the digests are those of the whole content
all_leaves : (c : goal.In_ok-tree_over) → KeepsDigests (leaf_digests c.args.content.now) c.loop-index.leaves
all_leaves c =
    let count : c.loop-index.index ≡ blocks_of (length c.args.content.now) =
    omega (arith, c.data_blocks-index-end.ensures.value, ap data_blocks c.in_ok-geometry.ensures.value, c.loop-index.auto.index-end, c.loop-index-test.false) in
    subst (λ (n : ℕ). KeepsDigests (map (λ i. block_digest (content_block c.args.content.now i)) (range_with_len 0 n)) c.loop-index.leaves) count c.loop-index.invariant

shape_is : (c : goal.In_ok-tree_over) → c.in_ok-tree_over.field-0.geometry ≡ tree_of (length c.args.content.now)
shape_is c = c.in_ok-tree_over.ensures.geometry ∙ c.in_ok-geometry.ensures.value

area_is : (c : goal.In_ok-tree_over) → c.in_ok-tree_over.field-0.hash_blocks ≡ area_of c.args.content.now
area_is c = c.in_ok-tree_over.ensures.area (leaf_digests c.args.content.now) (all_leaves c)

pub returns-clause-count : goal.returns-clause-count
returns-clause-count c = ap length (area_is c) ∙ (length-area_of c.args.content.now ∙ ap hash_blocks (sym (shape_is c)))

pub returns-clause-paths : goal.returns-clause-paths
returns-clause-paths c =
    tree_paths c.args.content.now c.in_ok-tree_over.field-0.root c.in_ok-tree_over.field-0.hash_blocks c.in_ok-tree_over.field-0.geometry (shape_is c)
    (c.in_ok-tree_over.ensures.root (leaf_digests c.args.content.now) (all_leaves c)) (area_is c) c.in_ok-geometry.ensures.fits
