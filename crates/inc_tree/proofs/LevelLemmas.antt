-- The counts of a tree's levels: how they are found one by one, how large they are, and which blocks a path goes through.
use Rattle.std.proofs.Common.{◌≡◌, ℕ, zero, suc, ◌+◌, ◌-◌, ◌*◌, ◌/◌, ◌^◌, ◌<◌, ◌≤◌, Bool, true, false, if◌then◌else◌, List, [], ◌∷◌, ◌++◌, length, take, drop, set, replicate, get_or, refl, sym, ap, ◌∙◌, subst, ⊎_elim, arith, lit<}
use Rattle.std.proofs.Math.Nat.{pow-suc, pow-succ', one-le-pow, pow-le-pow_right, div-div-eq-div-mul}
use Rattle.std.proofs.lemmas.Bool.{le-leb, lt-leb, cases_lt}
use Rattle.std.proofs.lemmas.List.{append-nil, append_assoc, take_more_set, take-append-drop, drop-set-lt, drop-drop, drop_more, length-take-le, get_or_append_left}
use Rattle.std.proofs.Math.ListN.{length-set}
use Rattle.inc_tree.specs.shape.Geometry.{Shape, tree_of, flat_of, blocks_of, data_blocks, blocks_above, IsLevels, levels, level_counts, depth, total, hash_blocks, level_count, level_start}
use Rattle.inc_tree.specs.shape.Limits.{most_size, most_levels}
use Rattle.inc_tree.specs.shape.Cached.{Holds, padded_counts, shape_with}

pub levels_done : (most below : ℕ) → below ≤ 1 → levels most below ≡ []
unfolding levels
levels_done zero below h = refl
levels_done (suc most) below h = rw (le-leb below 1 h)

pub levels_more : (most below : ℕ) → 1 < below → levels (suc most) below ≡ blocks_above below ∷ levels most (blocks_above below)
unfolding levels
levels_more most below h = rw (lt-leb below 1 h)

-- a level's count is 128 times smaller
pub above_bound : (k below : ℕ) → below ≤ 128 ^ suc k → blocks_above below ≤ 128 ^ k
above_bound k below h = omega (arith, pow-suc 128 k)

-- the recursion finds the levels
pub levels_are : (most below : ℕ) → below ≤ 128 ^ most → IsLevels below (levels most below)
levels_are zero below h = rw (levels_done zero below (omega arith)) (omega arith)
levels_are (suc most) below h =
    ⊎_elim
    (λ (more : 1 < below). rw (levels_more most below more) (more, refl, levels_are most (blocks_above below) (above_bound most below h)))
    (λ (done : below ≤ 1). rw (levels_done (suc most) below done) done)
    (cases_lt 1 below)

-- what the levels add up to
pub total_done : (most below : ℕ) → below ≤ 1 → total (levels most below) ≤ 0
total_done most below h = rw (levels_done most below h) (omega arith)

pub total_more : (most count rest below : ℕ) → ((next : ℕ) → next ≤ count → total (levels most next) ≤ rest) → below ≤ 128 * count → total (levels (suc most) below) ≤ count + rest
total_more most count rest below bound h =
    ⊎_elim
    (λ (more : 1 < below). rw (levels_more most below more) (let fits : blocks_above below ≤ count = omega arith in omega (arith, bound (blocks_above below) fits)))
    (λ (done : below ≤ 1). omega (arith, total_done (suc most) below done))
    (cases_lt 1 below)

levels_small : (blocks : ℕ) → blocks ≤ 2 ^ 22 → total (levels 9 blocks) ≤ 33027
levels_small blocks h =
    total_more 8 32768 259 blocks (λ b hb.
    total_more 7 256 3 b (λ c hc.
    total_more 6 2 1 c (λ d hd.
    total_more 5 1 0 d (λ e he. total_done 5 e he) (omega arith)) (omega arith)) (omega arith)) (omega arith)

flat_small : (flat : Bool) (counts : List ℕ) (most : ℕ) → total counts ≤ most → total (if flat then [] else counts) ≤ most
flat_small true counts most h = omega arith
flat_small false counts most h = h

pub hash_small : (shape : Shape) → shape.size ≤ most_size → total (level_counts shape) ≤ 33027
unfolding level_counts
hash_small shape h = flat_small shape.flat (levels 9 (data_blocks shape)) 33027 (levels_small (data_blocks shape) (omega arith))

pub total_rest_le : (k : ℕ) (counts : List ℕ) → total (drop k counts) ≤ total counts
total_rest_le zero counts = omega arith
total_rest_le (suc k) [] = omega arith
total_rest_le (suc k) (count ∷ counts) = omega (arith, total_rest_le k counts)

pub total_from : (k : ℕ) (counts : List ℕ) → k < length counts → total (drop k counts) ≡ get_or counts k 0 + total (drop (k + 1) counts)
total_from k counts h = ap total (drop_more counts k 0 h)

pub total_end : (k : ℕ) (counts : List ℕ) → length counts ≤ k → total (drop k counts) ≡ 0
total_end zero [] h = refl
total_end zero (count ∷ counts) h = absurd (omega arith)
total_end (suc k) [] h = refl
total_end (suc k) (count ∷ counts) h = total_end k counts (omega arith)

pub levels_zero : (below : ℕ) → levels zero below ≡ []
unfolding levels
levels_zero below = refl

index_up : (level index : ℕ) → index / 128 / 128 ^ (level + 1) ≡ index / 128 ^ suc (level + 1)
index_up level index = div-div-eq-div-mul index 128 (128 ^ (level + 1)) ∙ ap (λ n. index / n) (sym (pow-succ' 128 (level + 1)))

-- what holds of the levels above the first one holds one level up
at_level : (next level index : ℕ) (above : List ℕ) → index / 128 < next
    → ((l : ℕ) → l < length above → index / 128 / 128 ^ (l + 1) < get_or above l 0)
    → level < suc (length above) → index / 128 ^ (level + 1) < get_or (next ∷ above) level 0
at_level next zero index above here higher there = here
at_level next (suc level) index above here higher there =
    let up : suc level + 1 ≡ suc (level + 1) = omega arith in
    let below : index / 128 / 128 ^ (level + 1) < get_or above level 0 = higher level (omega arith) in
    rw (up, ← index_up level index) below

-- a block below a level has its hash block among the level's
pub above_within : (most below level index : ℕ) → index < below → level < length (levels most below)
    → index / 128 ^ (level + 1) < get_or (levels most below) level 0
above_within zero below level index here there = absurd (omega (arith, ap length (levels_zero below)))
above_within (suc most) below level index here there =
    ⊎_elim
    (λ (more : 1 < below).
    let counted : length (levels (suc most) below) ≡ suc (length (levels most (blocks_above below))) = ap length (levels_more most below more) in
    rw (levels_more most below more) (
    at_level (blocks_above below) level index (levels most (blocks_above below)) (omega arith)
    (λ l t. above_within most (blocks_above below) l (index / 128) (omega arith) t) (omega arith)))
    (λ (done : below ≤ 1). absurd (omega (arith, ap length (levels_done (suc most) below done))))
    (cases_lt 1 below)

-- how far the levels are found: `below` blocks lie under those that are still to come
pub record LevelsSoFar (blocks below height : ℕ) (counts : List ℕ) : Type 0 where
  pub low : height ≤ most_levels
  pub bound : below ≤ 128 ^ (most_levels - height)
  pub places : length counts ≡ most_levels
  pub found : take height counts ++ levels (9 - height) below ≡ levels 9 blocks
  pub rest : drop height counts ≡ replicate (most_levels - height) 0

pub levels_start : (blocks : ℕ) → blocks ≤ 2 ^ 22 → LevelsSoFar blocks blocks 0 (replicate most_levels 0)
levels_start blocks h = record { low = omega arith; bound = omega arith; places = refl; found = refl; rest = refl }

pub height_low : (below height : ℕ) → height ≤ most_levels → below ≤ 128 ^ (most_levels - height) → 1 < below → height < most_levels
height_low below height low bound more =
    ⊎_elim
    (λ (less : height < most_levels). less)
    (λ (top : most_levels ≤ height). let none : most_levels - height ≡ 0 = omega arith in
    let one : below ≤ 128 ^ 0 = subst (λ (n : ℕ). below ≤ 128 ^ n) none bound in absurd (omega arith))
    (cases_lt height most_levels)

pub levels_step : (blocks below height : ℕ) (counts : List ℕ) → LevelsSoFar blocks below height counts → 1 < below
    → LevelsSoFar blocks (blocks_above below) (height + 1) (set counts height (blocks_above below))
levels_step blocks below height counts so more =
    let less : height < most_levels = height_low below height so.low so.bound more in
    let there : height < length counts = omega (arith, so.places) in
    let up : most_levels - height ≡ suc (most_levels - (height + 1)) = omega arith in
    let fuel : 9 - height ≡ suc (9 - (height + 1)) = omega arith in
    record {
      low = omega arith;
      bound = above_bound (most_levels - (height + 1)) below (subst (λ (n : ℕ). below ≤ 128 ^ n) up so.bound);
      places = length-set counts height (blocks_above below) ∙ so.places;
      found =
          rw (take_more_set counts height (blocks_above below) there, append_assoc)
          (ap (λ (above : List ℕ). take height counts ++ above) (sym (levels_more (9 - (height + 1)) below more))
          ∙ (ap (λ (most : ℕ). take height counts ++ levels most below) (sym fuel) ∙ so.found));
      rest =
          rw (drop-set-lt (height + 1) counts height (blocks_above below) (omega arith), ← drop-drop 1 height counts, so.rest, up)
          refl;
    }

pub levels_of : (size : ℕ) → size ≤ most_size → IsLevels (data_blocks (tree_of size)) (level_counts (tree_of size))
unfolding level_counts
levels_of size small = levels_are 9 (blocks_of size) (omega arith)

pub levels_found : (size below height : ℕ) (counts : List ℕ) → LevelsSoFar (blocks_of size) below height counts → below ≤ 1
    → size ≤ most_size → Holds size false (blocks_of size) height counts
unfolding level_counts padded_counts
levels_found size below height counts so done small =
    let all : take height counts ≡ levels 9 (blocks_of size) =
    sym (append-nil (take height counts)) ∙ (ap (λ (above : List ℕ). take height counts ++ above) (sym (levels_done (9 - height) below done)) ∙ so.found) in
    let high : height ≡ length (levels 9 (blocks_of size)) =
    sym (length-take-le height counts (omega (arith, so.places))) ∙ ap length all in
    record {
      small = small;
      blocks_are = refl;
      height_is = high;
      low = omega (arith, so.low);
      counts_are = sym (take-append-drop height counts) ∙ (
          ap (λ (front : List ℕ). front ++ drop height counts) all
          ∙ ap (λ (back : List ℕ). levels 9 (blocks_of size) ++ back)
          (so.rest ∙ ap (λ (n : ℕ). replicate (most_levels - n) 0) high));
    }

-- a flat shape has no level
pub flat_levels : (size : ℕ) → level_counts (flat_of size) ≡ []
unfolding level_counts
flat_levels size = refl

pub flat_holds : (size : ℕ) → size ≤ most_size → Holds size true (blocks_of size) 0 (replicate most_levels 0)
unfolding level_counts padded_counts
flat_holds size small = record { small = small; blocks_are = refl; height_is = refl; low = omega arith; counts_are = refl }

-- a reader's look-up
pub count_at : (size : ℕ) (flat : Bool) (blocks height level : ℕ) (counts : List ℕ) → Holds size flat blocks height counts
    → level < depth (shape_with size flat) → get_or counts level 0 ≡ level_count (shape_with size flat) level
unfolding padded_counts
count_at size flat blocks height level counts holds there =
    let shape : Shape = shape_with size flat in
    rw holds.counts_are (get_or_append_left (level_counts shape) (replicate (most_levels - depth shape) 0) 0 level there)

pub rest_small : (shape : Shape) (level : ℕ) → shape.size ≤ most_size → total (drop level (level_counts shape)) ≤ 33027
rest_small shape level h = omega (arith, total_rest_le level (level_counts shape), hash_small shape h)

pub rest_more : (size : ℕ) (flat : Bool) (blocks height level : ℕ) (counts : List ℕ) → Holds size flat blocks height counts
    → level < depth (shape_with size flat)
    → total (drop level (level_counts (shape_with size flat))) ≡ get_or counts level 0 + total (drop (level + 1) (level_counts (shape_with size flat)))
rest_more size flat blocks height level counts holds there =
    rw (count_at size flat blocks height level counts holds there) (total_from level (level_counts (shape_with size flat)) there)

pub start_within : (shape : Shape) (level : ℕ) → level < depth shape → level_start shape level + level_count shape level ≤ hash_blocks shape
start_within shape level there =
    omega (arith, total_from level (level_counts shape) there, total_rest_le level (level_counts shape))

flat_within : (flat : Bool) (counts : List ℕ) (level place : ℕ) → (level < length counts → place < get_or counts level 0)
    → level < length (if flat then [] else counts) → place < get_or (if flat then [] else counts) level 0
flat_within true counts level place h there = absurd (omega arith)
flat_within false counts level place h there = h there

pub path_within : (shape : Shape) (index level : ℕ) → index < data_blocks shape → level < depth shape → index / 128 ^ (level + 1) < level_count shape level
unfolding level_counts
path_within shape index level here there =
    flat_within shape.flat (levels 9 (data_blocks shape)) level (index / 128 ^ (level + 1)) (λ t. above_within 9 (data_blocks shape) level index here t) there

pub power_small : (level : ℕ) → level < most_levels → 128 ^ (level + 1) ≤ 2 ^ 28
power_small level h = let low : level + 1 ≤ most_levels = omega arith in pow-le-pow_right {n = 128} (lit< tt) low

pub power_positive : (level : ℕ) → 0 < 128 ^ level
power_positive level = one-le-pow level 128 (lit< tt)

pub slot_power_small : (level : ℕ) → level < most_levels → 128 ^ level ≤ 2 ^ 28
slot_power_small level h = let low : level ≤ most_levels = omega arith in pow-le-pow_right {n = 128} (lit< tt) low
