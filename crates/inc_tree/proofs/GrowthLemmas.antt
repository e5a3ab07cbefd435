-- From a level's digests to the root: the recursion step by step, how many hash blocks it makes, and the path of each digest through them.
use Rattle.std.proofs.Common.{◌≡◌, ℕ, zero, suc, ◌+◌, ◌-◌, ◌/◌, ◌%◌, ◌^◌, ◌<◌, ◌≤◌, if◌then◌else◌, List, [], ◌∷◌, ◌++◌, length, map, drop, replicate, get_or, refl, sym, ap, ◌∙◌, subst, ⊎_elim, arith, length-append}
use Rattle.std.specs.Prelude.{nat_lt}
use Rattle.std.proofs.Math.Nat.{pow-succ', div-div-eq-div-mul}
use Rattle.std.proofs.Math.Seq.{get_or-append_right}
use Rattle.std.proofs.lemmas.Bool.{le-leb, lt-leb, lt-ltb, le-ltb, cases_lt}
use Rattle.std.proofs.lemmas.List.{get_or-map, get_or_default, length-map, get_or_append_left}
use Rattle.std.proofs.lemmas.List.FromFn.{length-map-range_with_len, get_or-map-range_with_len}
use Rattle.sha2.specs.Sha256.{sha256}
use Rattle.sha2.proofs.Facts256.{length-sha256}
use Rattle.inc_tree.specs.shape.Geometry.{Shape, tree_of, blocks_of, data_blocks, blocks_above, levels, level_counts, depth, total, hash_blocks, path_block, path_slot}
use Rattle.inc_tree.specs.read_block.Path.{block_at, block_digest, padded, slot_of, digest_below, digest_wanted, IsProof}
use Rattle.inc_tree.specs.shape.Limits.{most_size}
use Rattle.inc_tree.specs.content_tree.Root.{AreDigests, joined_block, level_over, root_over, area_over, root_of, area_of, leaf_digests, content_block, path_through}
use Rattle.inc_tree.proofs.LevelLemmas.{levels_zero, levels_done, levels_more, above_bound, above_within, total_from, total_rest_le}
use Rattle.inc_tree.proofs.PathLemmas.{wanted_root}
use Rattle.inc_tree.proofs.RootLemmas.{length-level_over, slot-joined_block}

-- the digests of the level above
abbrev pub next_digests : List (List ℕ) → List (List ℕ)
next_digests ds = map sha256 (level_over ds)

pub root_done : (most : ℕ) (ds : List (List ℕ)) → length ds ≤ 1 → root_over most ds ≡ get_or ds 0 (replicate 32 0)
unfolding root_over
root_done zero ds h = refl
root_done (suc most) ds h = rw (le-leb (length ds) 1 h) refl

pub root_more : (most : ℕ) (ds : List (List ℕ)) → 1 < length ds → root_over (suc most) ds ≡ root_over most (next_digests ds)
unfolding root_over
root_more most ds h = rw (lt-leb (length ds) 1 h) refl

area_zero : (ds : List (List ℕ)) → area_over zero ds ≡ []
unfolding area_over
area_zero ds = refl

pub area_done : (most : ℕ) (ds : List (List ℕ)) → length ds ≤ 1 → area_over most ds ≡ []
unfolding area_over
area_done zero ds h = refl
area_done (suc most) ds h = rw (le-leb (length ds) 1 h) refl

pub area_more : (most : ℕ) (ds : List (List ℕ)) → 1 < length ds → area_over (suc most) ds ≡ area_over most (next_digests ds) ++ level_over ds
unfolding area_over
area_more most ds h = rw (lt-leb (length ds) 1 h) refl

pub length-next_digests : (ds : List (List ℕ)) → length (next_digests ds) ≡ blocks_above (length ds)
length-next_digests ds = length-map (level_over ds) sha256 ∙ length-level_over ds

-- as many hash blocks as the shape says
pub length-area_over : (most : ℕ) (ds : List (List ℕ)) → length (area_over most ds) ≡ total (levels most (length ds))
length-area_over zero ds = rw (area_zero ds, levels_zero (length ds)) refl
length-area_over (suc most) ds =
    ⊎_elim
    (λ (more : 1 < length ds).
    rw (area_more most ds more, levels_more most (length ds) more)
    (omega (
      arith,
      length-append (area_over most (next_digests ds)) (level_over ds),
      length-level_over ds,
      length-area_over most (next_digests ds),
      ap (λ (n : ℕ). total (levels most n)) (length-next_digests ds),
    )))
    (λ (done : length ds ≤ 1). rw (area_done (suc most) ds done, levels_done (suc most) (length ds) done) refl)
    (cases_lt 1 (length ds))

-- one level further up
pub grow_more : (most : ℕ) (ds : List (List ℕ)) (root : List ℕ) (above level_blocks : List (List ℕ)) → 1 < length ds → length ds ≤ 128 ^ most
    → level_blocks ≡ level_over ds
    → ((m : ℕ) → length (next_digests ds) ≤ 128 ^ m → (root ≡ root_over m (next_digests ds)) × (above ≡ area_over m (next_digests ds)))
    → (root ≡ root_over most ds) × (above ++ level_blocks ≡ area_over most ds)
grow_more zero ds root above level_blocks more few is grown = absurd (omega arith)
grow_more (suc most) ds root above level_blocks more few is grown =
    let next : (root ≡ root_over most (next_digests ds)) × (above ≡ area_over most (next_digests ds)) =
    grown most (omega (arith, length-next_digests ds, above_bound most (length ds) few)) in (
      next.0 ∙ sym (root_more most ds more),
      ap (λ (bs : List (List ℕ)). bs ++ level_blocks) next.1 ∙ (ap (λ (bs : List (List ℕ)). area_over most (next_digests ds) ++ bs) is ∙ sym (area_more most ds more)),
    )

-- the hash block at a level of the path from digest `index` on, in an area with these counts
abbrev pub path_at : List (List ℕ) → List ℕ → ℕ → ℕ → List ℕ
path_at area counts index level = get_or area (total (drop (level + 1) counts) + index / 128 ^ (level + 1)) []

-- the digest that a level has to prove, and what stands for it
abbrev pub rises_from : List (List ℕ) → List (List ℕ) → List ℕ → ℕ → ℕ → List ℕ
rises_from ds area counts index zero = get_or ds index []
rises_from ds area counts index (suc level) = sha256 (path_at area counts index level)

abbrev pub rises_to : List ℕ → List (List ℕ) → List ℕ → ℕ → ℕ → List ℕ
rises_to root area counts index level = if nat_lt level (length counts) then slot_of (path_at area counts index level) (path_slot index level) else root

to_slot : (root : List ℕ) (area : List (List ℕ)) (counts : List ℕ) (index level : ℕ) → level < length counts
    → rises_to root area counts index level ≡ slot_of (path_at area counts index level) (path_slot index level)
to_slot root area counts index level lt = rw (lt-ltb level (length counts) lt) refl

to_root : (root : List ℕ) (area : List (List ℕ)) (counts : List ℕ) (index level : ℕ) → length counts ≤ level
    → rises_to root area counts index level ≡ root
to_root root area counts index level le = rw (le-ltb level (length counts) le) refl

index_over : (level index : ℕ) → index / 128 / 128 ^ (level + 1) ≡ index / 128 ^ (suc level + 1)
index_over level index =
    let up : suc level + 1 ≡ suc (level + 1) = omega arith in
    rw up (div-div-eq-div-mul index 128 (128 ^ (level + 1)) ∙ ap (λ n. index / n) (sym (pow-succ' 128 (level + 1))))

slot_over : (level index : ℕ) → path_slot index (suc level) ≡ path_slot (index / 128) level
slot_over level index =
    ap (λ n. n % 128) (ap (λ n. index / n) (pow-succ' 128 level) ∙ sym (div-div-eq-div-mul index 128 (128 ^ level)))

-- of a level and those above it: the blocks of the path above the first one are those of the path above
path_over : (above level_blocks : List (List ℕ)) (count : ℕ) (counts : List ℕ) (index level : ℕ) → length above ≡ total counts
    → level < length counts → index / 128 / 128 ^ (level + 1) < get_or counts level 0
    → path_at (above ++ level_blocks) (count ∷ counts) index (suc level) ≡ path_at above counts (index / 128) level
path_over above level_blocks count counts index level long there within =
    let up : suc level + 1 ≡ suc (level + 1) = omega arith in
    let place : ℕ = total (drop (level + 1) counts) + index / 128 / 128 ^ (level + 1) in
    let inside : place < length above = omega (arith, total_from level counts there, total_rest_le level counts) in
    let same : total (drop (suc level + 1) (count ∷ counts)) + index / 128 ^ (suc level + 1) ≡ place =
    rw (up) (ap (λ (n : ℕ). total (drop (level + 1) counts) + n) (ap (λ (n : ℕ). index / 128 ^ n) (sym up) ∙ sym (index_over level index))) in
    ap (λ (n : ℕ). get_or (above ++ level_blocks) n []) same ∙ get_or_append_left above level_blocks [] place inside

-- and the first one is the level's own
path_first : (above level_blocks : List (List ℕ)) (count : ℕ) (counts : List ℕ) (index : ℕ) → length above ≡ total counts
    → path_at (above ++ level_blocks) (count ∷ counts) index 0 ≡ get_or level_blocks (index / 128) []
path_first above level_blocks count counts index long =
    let here : total counts + index / 128 ≡ length above + index / 128 = omega arith in
    let behind : length above + index / 128 - length above ≡ index / 128 = omega arith in
    ap (λ (n : ℕ). get_or (above ++ level_blocks) n []) here
    ∙ (get_or-append_right above level_blocks (length above + index / 128) [] (omega arith) ∙ ap (λ (n : ℕ). get_or level_blocks n []) behind)

-- what stands for a digest is the same in the area above
to_over : (root : List ℕ) (above level_blocks : List (List ℕ)) (count : ℕ) (counts : List ℕ) (index level : ℕ) → length above ≡ total counts
    → ((l : ℕ) → l < length counts → index / 128 / 128 ^ (l + 1) < get_or counts l 0)
    → rises_to root (above ++ level_blocks) (count ∷ counts) index (suc level) ≡ rises_to root above counts (index / 128) level
to_over root above level_blocks count counts index level long within =
    ⊎_elim
    (λ (lower : level < length counts).
    to_slot root (above ++ level_blocks) (count ∷ counts) index (suc level) (omega arith)
    ∙ (ap (λ (b : List ℕ). slot_of b (path_slot index (suc level))) (path_over above level_blocks count counts index level long lower (within level lower))
    ∙ (ap (λ (s : ℕ). slot_of (path_at above counts (index / 128) level) s) (slot_over level index)
    ∙ sym (to_slot root above counts (index / 128) level lower))))
    (λ (top : length counts ≤ level).
    to_root root (above ++ level_blocks) (count ∷ counts) index (suc level) (omega arith) ∙ sym (to_root root above counts (index / 128) level top))
    (cases_lt level (length counts))

pub digest_above : (ds : List (List ℕ)) (place : ℕ) → place < blocks_above (length ds) → get_or (next_digests ds) place [] ≡ sha256 (get_or (level_over ds) place [])
digest_above ds place lt = get_or-map sha256 (level_over ds) place [] [] (omega (arith, length-level_over ds))

block_above : (ds : List (List ℕ)) (place : ℕ) → place < blocks_above (length ds) → get_or (level_over ds) place [] ≡ joined_block ds place
block_above ds place lt = get_or-map-range_with_len (joined_block ds) 0 (blocks_above (length ds)) place place [] lt (omega arith)

pub next_sized : (ds : List (List ℕ)) → AreDigests (next_digests ds)
next_sized ds k d lt =
    rw (get_or-map sha256 (level_over ds) k [] d (omega (arith, length-map (level_over ds) sha256))) (length-sha256 (get_or (level_over ds) k []))

-- a path that is good above is good from the level on
path_step : (root : List ℕ) (ds above : List (List ℕ)) (count : ℕ) (counts : List ℕ) (index : ℕ) → AreDigests ds → index < length ds → length above ≡ total counts
    → ((l : ℕ) → l < length counts → index / 128 / 128 ^ (l + 1) < get_or counts l 0)
    → ((l : ℕ) → l ≤ length counts → rises_from (next_digests ds) above counts (index / 128) l ≡ rises_to root above counts (index / 128) l)
    → (level : ℕ) → level ≤ suc (length counts)
    → rises_from ds (above ++ level_over ds) (count ∷ counts) index level ≡ rises_to root (above ++ level_over ds) (count ∷ counts) index level
path_step root ds above count counts index all here long within good zero le =
    let place : index / 128 < blocks_above (length ds) = omega arith in
    let one : index / 128 ^ 0 ≡ index = omega arith in
    let block : path_at (above ++ level_over ds) (count ∷ counts) index 0 ≡ joined_block ds (index / 128) =
    path_first above (level_over ds) count counts index long ∙ block_above ds (index / 128) place in
    sym (
    to_slot root (above ++ level_over ds) (count ∷ counts) index 0 (omega arith)
    ∙ (ap (λ (b : List ℕ). slot_of b (path_slot index 0)) block
    ∙ (ap (λ (n : ℕ). slot_of (joined_block ds (index / 128)) (n % 128)) one ∙ slot-joined_block ds index all here)))
path_step root ds above count counts index all here long within good (suc zero) le =
    let place : index / 128 < blocks_above (length ds) = omega arith in
    ap sha256 (path_first above (level_over ds) count counts index long)
    ∙ (sym (digest_above ds (index / 128) place)
    ∙ (good 0 (omega arith) ∙ sym (to_over root above (level_over ds) count counts index 0 long within)))
path_step root ds above count counts index all here long within good (suc (suc l)) le =
    let lower : l < length counts = omega arith in
    ap sha256 (path_over above (level_over ds) count counts index l long lower (within l lower))
    ∙ (good (suc l) (omega arith) ∙ sym (to_over root above (level_over ds) count counts index (suc l) long within))

path_done : (most : ℕ) (ds : List (List ℕ)) (index : ℕ) → index < length ds → length ds ≤ 1
    → (level : ℕ) → level ≤ length (levels most (length ds))
    → rises_from ds (area_over most ds) (levels most (length ds)) index level ≡ rises_to (root_over most ds) (area_over most ds) (levels most (length ds)) index level
path_done most ds index here done level le =
    let bottom : level ≡ 0 = omega (arith, ap length (levels_done most (length ds) done)) in
    let first : index ≡ 0 = omega arith in
    rw (bottom, first, levels_done most (length ds) done, root_done most ds done) (get_or_default ds 0 [] (replicate 32 0) (omega arith))

-- each digest's path through the hash blocks over it is good
pub path_good : (most : ℕ) (ds : List (List ℕ)) (index : ℕ) → AreDigests ds → index < length ds → length ds ≤ 128 ^ most
    → (level : ℕ) → level ≤ length (levels most (length ds))
    → rises_from ds (area_over most ds) (levels most (length ds)) index level ≡ rises_to (root_over most ds) (area_over most ds) (levels most (length ds)) index level
path_good zero ds index all here few level le = path_done zero ds index here (omega arith) level le
path_good (suc most) ds index all here few level le =
    ⊎_elim
    (λ (more : 1 < length ds).
    let counted : length (next_digests ds) ≡ blocks_above (length ds) = length-next_digests ds in
    let above_few : blocks_above (length ds) ≤ 128 ^ most = above_bound most (length ds) few in
    let counts : List ℕ = levels most (blocks_above (length ds)) in
    let long : length (area_over most (next_digests ds)) ≡ total counts = length-area_over most (next_digests ds) ∙ ap (λ (n : ℕ). total (levels most n)) counted in
    let place : index / 128 < blocks_above (length ds) = omega arith in
    rw (area_more most ds more, levels_more most (length ds) more, root_more most ds more) (
    path_step (root_over most (next_digests ds)) ds (area_over most (next_digests ds)) (blocks_above (length ds)) counts index all here long
    (λ l lt. above_within most (blocks_above (length ds)) l (index / 128) place lt)
    (λ l lt. subst (λ (n : ℕ). rises_from (next_digests ds) (area_over most (next_digests ds)) (levels most n) (index / 128) l
    ≡ rises_to (root_over most (next_digests ds)) (area_over most (next_digests ds)) (levels most n) (index / 128) l) counted
    (path_good most (next_digests ds) (index / 128) (next_sized ds) (omega arith) (omega arith) l (subst (λ (n : ℕ). l ≤ length (levels most n)) (sym counted) lt)))
    level (subst (λ (cs : List ℕ). level ≤ length cs) (levels_more most (length ds) more) le)))
    (λ (done : length ds ≤ 1). path_done (suc most) ds index here done level le)
    (cases_lt 1 (length ds))

from_below : (root bytes : List ℕ) (index : ℕ) (ds area : List (List ℕ)) (counts : List ℕ) (path : List (List ℕ)) → block_digest bytes ≡ get_or ds index []
    → ((l : ℕ) → l < length counts → block_at path l ≡ path_at area counts index l)
    → (level : ℕ) → level ≤ length counts → digest_below bytes path level ≡ rises_from ds area counts index level
from_below root bytes index ds area counts path leaf block zero le = leaf
from_below root bytes index ds area counts path leaf block (suc l) le = ap sha256 (block l (omega arith))

pub wanted_here : (root : List ℕ) (index : ℕ) (path : List (List ℕ)) (level : ℕ) → level < length path
    → digest_wanted root index path level ≡ slot_of (block_at path level) (path_slot index level)
wanted_here root index path level lt = rw (lt-ltb level (length path) lt) refl

to_wanted : (root : List ℕ) (index : ℕ) (area : List (List ℕ)) (counts : List ℕ) (path : List (List ℕ)) → length path ≡ length counts
    → ((l : ℕ) → l < length counts → block_at path l ≡ path_at area counts index l)
    → (level : ℕ) → level ≤ length counts → rises_to root area counts index level ≡ digest_wanted root index path level
to_wanted root index area counts path long block level le =
    ⊎_elim
    (λ (lower : level < length counts).
    to_slot root area counts index level lower
    ∙ sym (wanted_here root index path level (omega arith) ∙ ap (λ (b : List ℕ). slot_of b (path_slot index level)) (block level lower)))
    (λ (top : length counts ≤ level). to_root root area counts index level top ∙ sym (wanted_root root index path level (omega arith)))
    (cases_lt level (length counts))

length-leaf_digests : (content : List ℕ) → length (leaf_digests content) ≡ blocks_of (length content)
length-leaf_digests content = length-map-range_with_len (λ index. block_digest (content_block content index)) 0 (blocks_of (length content))

-- a path of good steps proves the block, in the words of a proof
good_is_proof : (root bytes : List ℕ) (shape : Shape) (index : ℕ) (ds area : List (List ℕ)) (counts : List ℕ) → level_counts shape ≡ counts
    → block_digest bytes ≡ get_or ds index []
    → ((level : ℕ) → level ≤ length counts → rises_from ds area counts index level ≡ rises_to root area counts index level)
    → IsProof root shape index bytes (path_through shape area index)
good_is_proof root bytes shape index ds area counts is leaf good =
    let path : List (List ℕ) = path_through shape area index in
    let deep : depth shape ≡ length counts = ap length is in
    let long : length path ≡ length counts = length-map-range_with_len (λ level. get_or area (path_block shape index level) []) 0 (depth shape) ∙ deep in
    let block : (l : ℕ) → l < length counts → block_at path l ≡ path_at area counts index l = λ l lt.
    get_or-map-range_with_len (λ level. get_or area (path_block shape index level) []) 0 (depth shape) l l [] (omega arith) (omega arith)
    ∙ ap (λ (cs : List ℕ). get_or area (total (drop (l + 1) cs) + index / 128 ^ (l + 1)) []) is in
    record {
      full = long ∙ sym deep;
      each = λ level le. from_below root bytes index ds area counts path leaf block level (omega arith) ∙ (good level (omega arith) ∙ to_wanted root index area counts path long block level (omega arith));
    }

pub content_sized : (content : List ℕ) → AreDigests (leaf_digests content)
content_sized content k d lt =
    let here : k < blocks_of (length content) = omega (arith, length-leaf_digests content) in
    rw (get_or-map-range_with_len (λ index. block_digest (content_block content index)) 0 (blocks_of (length content)) k k d here (omega arith))
    (length-sha256 (padded (content_block content k)))

-- each block of a content has a good path in the content's hash blocks
pub content_paths : (content : List ℕ) (index : ℕ) → length content ≤ most_size → index < blocks_of (length content)
    → IsProof (root_of content) (tree_of (length content)) index (content_block content index) (path_through (tree_of (length content)) (area_of content) index)
unfolding level_counts
content_paths content index small here =
    let ds : List (List ℕ) = leaf_digests content in
    let counted : length ds ≡ blocks_of (length content) = length-leaf_digests content in
    let few : length ds ≤ 128 ^ 9 = omega arith in
    good_is_proof (root_of content) (content_block content index) (tree_of (length content)) index ds (area_of content) (levels 9 (length ds))
    (ap (levels 9) (sym counted))
    (sym (get_or-map-range_with_len (λ i. block_digest (content_block content i)) 0 (blocks_of (length content)) index index [] here (omega arith)))
    (λ level le. path_good 9 ds index (content_sized content) (omega arith) few level le)

pub length-area_of : (content : List ℕ) → length (area_of content) ≡ hash_blocks (tree_of (length content))
unfolding level_counts
length-area_of content = length-area_over 9 (leaf_digests content) ∙ ap (λ (n : ℕ). total (levels 9 n)) (length-leaf_digests content)

-- the same of a tree that is the content's
pub tree_paths : (content root : List ℕ) (area : List (List ℕ)) (shape : Shape) → shape ≡ tree_of (length content) → root ≡ root_of content → area ≡ area_of content
    → length content ≤ most_size → (index : ℕ) → index < data_blocks shape → IsProof root shape index (content_block content index) (path_through shape area index)
tree_paths content root area shape shape_is root_is area_is small index here =
    let inside : index < blocks_of (length content) = subst (λ (s : Shape). index < data_blocks s) shape_is here in
    subst (λ (s : Shape). IsProof root s index (content_block content index) (path_through s area index)) (sym shape_is)
    (subst (λ (r : List ℕ). IsProof r (tree_of (length content)) index (content_block content index) (path_through (tree_of (length content)) area index)) (sym root_is)
    (subst (λ (bs : List (List ℕ)). IsProof (root_of content) (tree_of (length content)) index (content_block content index) (path_through (tree_of (length content)) bs index)) (sym area_is)
    (content_paths content index small inside)))
