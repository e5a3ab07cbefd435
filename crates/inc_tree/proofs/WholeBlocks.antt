-- Each hash block over a content is whole, and each block of it has its own length.
use Rattle.std.proofs.Common.{◌≡◌, ℕ, zero, suc, ◌-◌, ◌*◌, ◌<◌, ◌≤◌, ⊎_elim, min, List, length, take, drop, replicate, get_or, sym, subst, ◌∙◌, arith, length-append}
use Rattle.std.specs.Prelude.{All}
use Rattle.std.specs.List.{concat, range_with_len}
use Rattle.std.proofs.lemmas.Bool.{cases_lt}
use Rattle.std.proofs.lemmas.List.{length-drop, length-replicate, length-take}
use Rattle.std.proofs.lemmas.List.Elements.{All-append, All-drop, All-map, All-nil, All-take}
use Rattle.inc_tree.specs.shape.Geometry.{block_len, blocks_above, blocks_of, tree_of}
use Rattle.inc_tree.specs.content_tree.Root.{AreDigests, area_of, area_over, content_block, joined_block, leaf_digests, level_over}
use Rattle.inc_tree.proofs.GrowthLemmas.{area_done, area_more, content_sized, next_digests, next_sized}
use Rattle.inc_tree.proofs.RootLemmas.{length-concat}

abbrev IsWhole : List ℕ → Type 0
IsWhole block = length block ≡ 4096

joined_whole : (digests : List (List ℕ)) (k : ℕ) → AreDigests digests → length (joined_block digests k) ≡ 4096
joined_whole digests k all =
    let group : List (List ℕ) = take 128 (drop (128 * k) digests) in
    let front : List ℕ = concat group in
    let long : length front ≡ 32 * length group = length-concat group (All-take (λ d. length d ≡ 32) 128 (drop (128 * k) digests) (All-drop (λ d. length d ≡ 32) (128 * k) digests all)) in
    omega (arith, long, length-take 128 (drop (128 * k) digests), length-append front (replicate (4096 - length front) 0), length-replicate {A = ℕ} (4096 - length front) 0)

level_whole : (digests : List (List ℕ)) → AreDigests digests → All IsWhole (level_over digests)
level_whole digests all =
    All-map IsWhole (joined_block digests) (range_with_len 0 (blocks_above (length digests))) (λ k d lt. joined_whole digests (get_or (range_with_len 0 (blocks_above (length digests))) k d) all)

area_whole : (most : ℕ) (digests : List (List ℕ)) → AreDigests digests → All IsWhole (area_over most digests)
unfolding area_over
area_whole zero digests all = All-nil IsWhole
area_whole (suc most) digests all =
    ⊎_elim
    (λ (more : 1 < length digests).
    subst (λ (blocks : List (List ℕ)). All IsWhole blocks) (sym (area_more most digests more))
    (All-append IsWhole (area_over most (next_digests digests)) (level_over digests) (area_whole most (next_digests digests) (next_sized digests)) (level_whole digests all)))
    (λ (done : length digests ≤ 1). subst (λ (blocks : List (List ℕ)). All IsWhole blocks) (sym (area_done (suc most) digests done)) (All-nil IsWhole)) (cases_lt 1 (length digests))

pub hash_whole : (content : List ℕ) (k : ℕ) (d : List ℕ) → k < length (area_of content) → length (get_or (area_of content) k d) ≡ 4096
hash_whole content k d lt = area_whole 9 (leaf_digests content) (content_sized content) k d lt

own_length : (size k : ℕ) → k < blocks_of size → block_len (tree_of size) k ≡ min 4096 (size - 4096 * k)
own_length size k lt = grind (arith, lt)

pub data_long : (content : List ℕ) (k : ℕ) → k < blocks_of (length content) → length (content_block content k) ≡ block_len (tree_of (length content)) k
data_long content k lt =
    let cut : length (content_block content k) ≡ min 4096 (length content - 4096 * k) = omega (arith, length-take 4096 (drop (4096 * k) content), length-drop (4096 * k) content) in
    cut ∙ sym (own_length (length content) k lt)
