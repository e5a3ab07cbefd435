-- What follows from a shape's numbers of data and hash blocks alone: its levels, and so the path of each block.
use Rattle.std.proofs.Common.{◌≡◌, ℕ, ◌*◌, ◌<◌, ◌≤◌, Bool, true, false, if◌then◌else◌, [], length, refl, ap, ⊎_elim, arith}
use Rattle.std.specs.Prelude.{nat_eq}
use Rattle.std.proofs.lemmas.Bool.{cases_lt, false_from_ne_true}
use Rattle.inc_tree.specs.shape.Geometry.{Shape, shape_of, blocks_of, data_blocks, levels, level_counts, depth, total, hash_blocks, path_block}
use Rattle.inc_tree.proofs.LevelLemmas.{levels_done, levels_more}

some_above : (below : ℕ) → 1 < below → 0 < total (levels 9 below)
some_above below more = rw (levels_more 8 below more) (omega arith)

-- a tree that has hash blocks isn't flat, and one that has none has no level either way
same_levels : (flat : Bool) (n m : ℕ) → m ≡ total (if flat then [] else levels 9 n)
    → (if nat_eq m 0 then [] else levels 9 n) ≡ (if flat then [] else levels 9 n)
same_levels true n m is = rw is refl
same_levels false n m is =
    ⊎_elim
    (λ (more : 1 < n).
    let some : nat_eq m 0 ≡ false = false_from_ne_true (nat_eq m 0) (λ e. grind (arith, is, some_above n more)) in
    rw some refl)
    (λ (done : n ≤ 1). rw (is, levels_done 9 n done) refl)
    (cases_lt 1 n)

pub level_counts-shape_of : (shape : Shape) → level_counts (shape_of (data_blocks shape) (hash_blocks shape)) ≡ level_counts shape
unfolding level_counts
level_counts-shape_of shape =
    let n : ℕ = data_blocks shape in
    let same : blocks_of (4096 * n) ≡ n = omega arith in
    rw same (same_levels shape.flat n (hash_blocks shape) refl)

pub depth-shape_of : (shape : Shape) → depth (shape_of (data_blocks shape) (hash_blocks shape)) ≡ depth shape
depth-shape_of shape = ap length (level_counts-shape_of shape)

pub path_block-shape_of : (shape : Shape) (index level : ℕ) → path_block (shape_of (data_blocks shape) (hash_blocks shape)) index level ≡ path_block shape index level
path_block-shape_of shape index level = rw (level_counts-shape_of shape) refl
