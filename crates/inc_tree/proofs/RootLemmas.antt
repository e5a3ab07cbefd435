-- Digests joined into hash blocks: each is found in its slot, one more goes into the first free slot, and a level's digests lead to the next.
use Rattle.std.proofs.Common.{◌≡◌, ℕ, zero, suc, ◌+◌, ◌-◌, ◌*◌, ◌/◌, ◌%◌, ◌<◌, ◌≤◌, min, List, [], ◌∷◌, ◌++◌, length, map, take, drop, set, replicate, get_or, refl, sym, ap, ◌∙◌, subst, ⊎_elim, arith, length-append, length-drop}
use Rattle.std.specs.List.{concat, range_with_len}
use Rattle.std.proofs.Math.Seq.{take-append_seam, drop-append-add, set-append_seam}
use Rattle.std.proofs.lemmas.Bool.{cases_lt}
use Rattle.std.proofs.lemmas.List.{append_assoc, append-nil, drop_all, take-append-le, drop-append-le, take_all, drop-replicate, get_or-take, get_or-drop, get_or_default, get_or_past, length-take, same_lists, get_or_push}
use Rattle.std.proofs.lemmas.List.Elements.{All-append, All-take, All-drop}
use Rattle.std.proofs.lemmas.List.Folds.{concat-append}
use Rattle.std.proofs.lemmas.List.FromFn.{length-map-range_with_len, get_or-map-range_with_len, map-range_with_len_more}
use Rattle.inc_tree.specs.shape.Geometry.{blocks_above}
use Rattle.inc_tree.specs.read_block.Path.{padded, slot_of}
use Rattle.inc_tree.specs.content_tree.Root.{AreDigests, joined_block, level_over}

pub length-concat : (ds : List (List ℕ)) → AreDigests ds → length (concat ds) ≡ 32 * length ds
length-concat [] all = refl
length-concat (d ∷ ds) all =
    let front : length d ≡ 32 = all 0 [] (omega arith) in
    omega (arith, length-append d (concat ds), length-concat ds (λ k e lt. all (suc k) e (omega arith)))

-- a digest among joined ones
pub slot-concat : (ds : List (List ℕ)) (s : ℕ) (rest : List ℕ) → AreDigests ds → s < length ds → take 32 (drop (32 * s) (concat ds ++ rest)) ≡ get_or ds s []
slot-concat [] s rest all lt = absurd (omega arith)
slot-concat (d ∷ ds) zero rest all lt =
    let front : length d ≡ 32 = all 0 [] (omega arith) in
    rw (append_assoc d (concat ds) rest, ← front) (take-append_seam d (concat ds ++ rest))
slot-concat (d ∷ ds) (suc s) rest all lt =
    let front : length d ≡ 32 = all 0 [] (omega arith) in
    let on : 32 * suc s ≡ length d + 32 * s = omega arith in
    rw (append_assoc d (concat ds) rest, on, drop-append-add d (concat ds ++ rest) (32 * s))
    (slot-concat ds s rest (λ k e l. all (suc k) e (omega arith)) (omega arith))

-- a digest in its slot of its hash block
pub slot-joined_block : (ds : List (List ℕ)) (i : ℕ) → AreDigests ds → i < length ds → slot_of (joined_block ds (i / 128)) (i % 128) ≡ get_or ds i []
slot-joined_block ds i all lt =
    let from : ℕ = 128 * (i / 128) in
    let group : List (List ℕ) = take 128 (drop from ds) in
    let there : i % 128 < length group = omega (arith, length-take 128 (drop from ds), length-drop from ds) in
    let place : from + i % 128 ≡ i = omega arith in
    slot-concat group (i % 128) (replicate (4096 - length (concat group)) 0) (All-take (λ d. length d ≡ 32) 128 (drop from ds) (All-drop (λ d. length d ≡ 32) from ds all)) there
    ∙ (get_or-take 128 (drop from ds) (i % 128) [] (omega arith) ∙ (get_or-drop from ds (i % 128) [] ∙ ap (λ (n : ℕ). get_or ds n []) place))

-- a digest put behind the front of a block that is filled up with zeros
put_behind : (front d : List ℕ) (at : ℕ) → length front ≡ at → length d ≡ 32 → at + 32 ≤ 4096
    → take at (padded front) ++ (d ++ drop (at + 32) (padded front)) ≡ padded (front ++ d)
put_behind front d at is sized fits =
    let zeros : ℕ = 4096 - length front in
    let left : zeros - 32 ≡ 4096 - length (front ++ d) = omega (arith, length-append front d) in
    let head : take at (padded front) ≡ front = subst (λ (n : ℕ). take n (padded front) ≡ front) is (take-append_seam front (replicate zeros 0)) in
    let behind : drop (at + 32) (padded front) ≡ replicate (4096 - length (front ++ d)) 0 =
    subst (λ (n : ℕ). drop (n + 32) (padded front) ≡ replicate (4096 - length (front ++ d)) 0) is
    (drop-append-add front (replicate zeros 0) 32 ∙ (drop-replicate 32 zeros 0 ∙ ap (λ (n : ℕ). replicate n 0) left)) in
    rw (head, behind) (sym (append_assoc front d (replicate (4096 - length (front ++ d)) 0)))

-- a full hash block stays as it is
joined_below : (ds : List (List ℕ)) (d : List ℕ) (k : ℕ) → 128 * k + 128 ≤ length ds → joined_block (ds ++ d ∷ []) k ≡ joined_block ds k
joined_below ds d k full =
    ap (λ (group : List (List ℕ)). padded (concat group)) (
    ap (take 128) (drop-append-le (128 * k) ds (d ∷ []) (omega arith))
    ∙ take-append-le 128 (drop (128 * k) ds) (d ∷ []) (omega (arith, length-drop (128 * k) ds)))

-- the last hash block takes the digest into its first free slot
pub joined_last : (ds : List (List ℕ)) (d : List ℕ) (k s : ℕ) → k ≡ length ds / 128 → s ≡ length ds % 128 → AreDigests ds → length d ≡ 32
    → take (32 * s) (joined_block ds k) ++ (d ++ drop (32 * s + 32) (joined_block ds k)) ≡ joined_block (ds ++ d ∷ []) k
joined_last ds d k s k_is s_is all sized =
    let from : ℕ = 128 * k in
    let group : List (List ℕ) = drop from ds in
    let few : length group ≡ s = omega (arith, length-drop from ds) in
    let alone : take 128 group ≡ group = take_all 128 group (omega arith) in
    let more : take 128 (drop from (ds ++ d ∷ [])) ≡ group ++ d ∷ [] =
    ap (take 128) (drop-append-le from ds (d ∷ []) (omega arith)) ∙ take_all 128 (group ++ d ∷ []) (omega (arith, length-append group (d ∷ []))) in
    let joined : concat (group ++ d ∷ []) ≡ concat group ++ d = concat-append group (d ∷ []) ∙ ap (λ (x : List ℕ). concat group ++ x) (append-nil d) in
    let long : length (concat group) ≡ 32 * s = length-concat group (All-drop (λ x. length x ≡ 32) from ds all) ∙ ap (λ (n : ℕ). 32 * n) few in
    rw (alone, more, joined) (put_behind (concat group) d (32 * s) long sized (omega arith))

-- a hash block that has no digest yet
pub joined_empty : (ds : List (List ℕ)) (k : ℕ) → length ds ≤ 128 * k → joined_block ds k ≡ replicate 4096 0
joined_empty ds k past =
    let none : drop (128 * k) ds ≡ [] = drop_all (128 * k) ds past in rw none refl

same_made : (f g : ℕ → List ℕ) (n : ℕ) → ((k : ℕ) → k < n → f k ≡ g k) → map f (range_with_len 0 n) ≡ map g (range_with_len 0 n)
same_made f g n same =
    same_lists (map f (range_with_len 0 n)) (map g (range_with_len 0 n)) (length-map-range_with_len f 0 n ∙ sym (length-map-range_with_len g 0 n))
    (λ k d lt.
    let here : k < n = omega (arith, length-map-range_with_len f 0 n) in
    get_or-map-range_with_len f 0 n k k d here (omega arith) ∙ (same k here ∙ sym (get_or-map-range_with_len g 0 n k k d here (omega arith))))

-- the level with one more digest, from its full hash blocks and the last one
level_more : (ds : List (List ℕ)) (d : List ℕ) (k : ℕ) → k ≡ length ds / 128
    → level_over (ds ++ d ∷ []) ≡ map (joined_block ds) (range_with_len 0 k) ++ joined_block (ds ++ d ∷ []) k ∷ []
level_more ds d k is =
    let count : blocks_above (length (ds ++ d ∷ [])) ≡ k + 1 = omega (arith, length-append ds (d ∷ [])) in
    rw count (map-range_with_len_more (joined_block (ds ++ d ∷ [])) 0 k k (omega arith)
    ∙ ap (λ (front : List (List ℕ)). front ++ joined_block (ds ++ d ∷ []) k ∷ [])
    (same_made (joined_block (ds ++ d ∷ [])) (joined_block ds) k (λ j lt. joined_below ds d j (omega arith))))

-- a level's hash blocks up to the one with the first free slot
abbrev pub open_level : List (List ℕ) → ℕ → List (List ℕ)
open_level ds k = map (joined_block ds) (range_with_len 0 k) ++ joined_block ds k ∷ []

-- where all are full a block of zeros is the open one
pub opened_by_zeros : (ds : List (List ℕ)) (k : ℕ) → k ≡ length ds / 128 → length ds % 128 ≡ 0 → level_over ds ++ replicate 4096 0 ∷ [] ≡ open_level ds k
opened_by_zeros ds k is full =
    let count : blocks_above (length ds) ≡ k = omega arith in
    rw (count, joined_empty ds k (omega arith)) refl

pub open_already : (ds : List (List ℕ)) (k : ℕ) → k ≡ length ds / 128 → 0 < length ds % 128 → level_over ds ≡ open_level ds k
open_already ds k is some =
    let count : blocks_above (length ds) ≡ k + 1 = omega arith in
    rw count (map-range_with_len_more (joined_block ds) 0 k k (omega arith))

-- one more digest in the open block
pub open_put : (ds : List (List ℕ)) (d : List ℕ) (blocks : List (List ℕ)) (old new : List ℕ) (k s : ℕ) → blocks ≡ open_level ds k → k ≡ length ds / 128 → s ≡ length ds % 128
    → AreDigests ds → length d ≡ 32 → old ≡ get_or blocks k old → new ≡ take (32 * s) old ++ (d ++ drop (32 * s + 32) old)
    → set blocks k new ≡ level_over (ds ++ d ∷ [])
open_put ds d blocks old new k s is k_is s_is all sized old_is new_is =
    let front : List (List ℕ) = map (joined_block ds) (range_with_len 0 k) in
    let long : length front ≡ k = length-map-range_with_len (joined_block ds) 0 k in
    let old_last : old ≡ joined_block ds k = old_is ∙ (ap (λ (bs : List (List ℕ)). get_or bs k old) is ∙ get_or_push front (joined_block ds k) old k long) in
    let new_last : new ≡ joined_block (ds ++ d ∷ []) k =
    new_is ∙ (ap (λ (b : List ℕ). take (32 * s) b ++ (d ++ drop (32 * s + 32) b)) old_last ∙ joined_last ds d k s k_is s_is all sized) in
    ap (λ (bs : List (List ℕ)). set bs k new) is
    ∙ (subst (λ (n : ℕ). set (front ++ joined_block ds k ∷ []) n new ≡ front ++ new ∷ []) long (set-append_seam front (joined_block ds k) [] new)
    ∙ (ap (λ (b : List ℕ). front ++ b ∷ []) new_last ∙ sym (level_more ds d k k_is)))

pub digests_more : (ds : List (List ℕ)) (d : List ℕ) → AreDigests ds → length d ≡ 32 → AreDigests (ds ++ d ∷ [])
digests_more ds d all sized = All-append (λ x. length x ≡ 32) ds (d ∷ []) all (λ k e lt. let first : k ≡ 0 = omega arith in rw first sized)

pub length-level_over : (ds : List (List ℕ)) → length (level_over ds) ≡ blocks_above (length ds)
length-level_over ds = length-map-range_with_len (joined_block ds) 0 (blocks_above (length ds))

-- the one digest of a level that has a hash block
pub only_digest : (ds blocks : List (List ℕ)) (block got : List ℕ) → blocks ≡ level_over ds → AreDigests ds → length ds ≤ 1 → 0 < length blocks → block ≡ get_or blocks 0 block
    → got ≡ slot_of block 0 → got ≡ get_or ds 0 (replicate 32 0)
only_digest ds blocks block got is all few some read got_is =
    let count : 0 < blocks_above (length ds) = omega (arith, ap length is, length-level_over ds) in
    let there : 0 < length ds = omega arith in
    let first : block ≡ joined_block ds 0 =
    read ∙ (ap (λ (bs : List (List ℕ)). get_or bs 0 block) is ∙ get_or-map-range_with_len (joined_block ds) 0 (blocks_above (length ds)) 0 0 block count (omega arith)) in
    got_is ∙ (ap (λ (b : List ℕ). slot_of b 0) first ∙ (slot-joined_block ds 0 all there ∙ get_or_default ds 0 [] (replicate 32 0) there))

pub no_digest : (ds : List (List ℕ)) → length (level_over ds) ≡ 0 → get_or ds 0 (replicate 32 0) ≡ replicate 32 0
no_digest ds none = get_or_past ds 0 (replicate 32 0) (omega (arith, length-level_over ds))

-- a part that ends where the list ends
pub take_to_end : (xs : List ℕ) (from to size : ℕ) → to ≡ min (length xs) (from + size) → from ≤ length xs → take (to - from) (drop from xs) ≡ take size (drop from xs)
take_to_end xs from to size is inside =
    ⊎_elim
    (λ (short : length xs < from + size).
    take_all (to - from) (drop from xs) (omega (arith, length-drop from xs)) ∙ sym (take_all size (drop from xs) (omega (arith, length-drop from xs))))
    (λ (whole : from + size ≤ length xs). let same : to - from ≡ size = omega arith in ap (λ (n : ℕ). take n (drop from xs)) same)
    (cases_lt (length xs) (from + size))
