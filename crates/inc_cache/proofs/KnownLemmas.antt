-- What is known of a path, level by level, and the numbers of its hash blocks.
use Rattle.std.proofs.Common.{◌≡◌, ℕ, zero, suc, ◌+◌, ◌-◌, ◌<◌, ◌≤◌, Bool, true, false, cond, filter, is_some, is_none, count_by, List, [], ◌∷◌, ◌++◌, map, take, drop, nat_eq, Option, Some, None, Result, Ok, Err, OnOk, OnErr, refl, sym, ap, ◌∙◌, inl, inr, arith, zero-add, ⊎_elim}
use Rattle.std.specs.List.{range_with_len}
use Rattle.std.specs.Map.{keys_of, remove_entry}
use Rattle.std.specs.Set.{remove_key}
use Rattle.std.proofs.lemmas.Bool.{eqb-true, false_from_ne_true}
use Rattle.std.proofs.lemmas.List.{drop-drop, take-take}
use Rattle.std.proofs.lemmas.List.Sums.{sum_by-cons}
use Rattle.std.proofs.lemmas.List.FromFn.{filter_of_map_range_with_len_more, map-range_with_len_more}
use Rattle.inc_tree.specs.shape.Geometry.{Shape, data_blocks, depth, level_counts, path_block, total}
use Rattle.inc_tree.specs.read_block.Path.{block_at}
use Rattle.inc_tree.proofs.LevelLemmas.{path_within, total_from, total_rest_le}
use Rattle.inc_cache.specs.Known.{AddsPath, IsOnPath, missing_levels, numbers_down}
use Rattle.inc_cache.specs.Used.{after_uses, kept_at, others, used_again, used_first}
use Rattle.inc_cache.proofs.UsedLemmas.{kept_at-used}

-- one level more
pub numbers_more : (shape tree : Shape) (index : ℕ) (kept : List (ℕ × List ℕ)) (level number : ℕ) (there : Bool) (before after : List ℕ) → tree ≡ shape
    → before ≡ filter (λ n. is_some (kept_at n kept)) (map (path_block shape index) (range_with_len 0 level)) → number ≡ path_block tree index level
    → there ≡ is_some (kept_at number kept) → after ≡ before ++ cond there (number ∷ []) []
    → after ≡ filter (λ n. is_some (kept_at n kept)) (map (path_block shape index) (range_with_len 0 (level + 1)))
numbers_more shape tree index kept level number there before after same is number_is there_is next =
    let here : number ≡ path_block shape index level = number_is ∙ ap (λ (s : Shape). path_block s index level) same in
    let all = filter_of_map_range_with_len_more (λ n. is_some (kept_at n kept)) (path_block shape index) 0 level level (zero-add level) in
    next ∙ (ap (λ (c : Bool). before ++ cond c (number ∷ []) []) there_is ∙ rw (here, is) (sym all))

pub map_more : {X : Type 0} (f : ℕ → X) (n : ℕ) (x : X) (before after : List X) → before ≡ map f (range_with_len 0 n) → x ≡ f n → after ≡ before ++ x ∷ []
    → after ≡ map f (range_with_len 0 (n + 1))
map_more f n x before after is here next = rw (next, is, here) (sym (map-range_with_len_more f 0 n n (zero-add n)))

pub missing_is_count : (levels : List (Option (List ℕ))) → missing_levels levels ≡ count_by (λ known. is_none known) levels
missing_is_count [] = refl
missing_is_count (Some block ∷ levels) =
    let more = sum_by-cons (λ (known : Option (List ℕ)). cond (is_none known) 1 0) (Some block) levels in omega (arith, missing_is_count levels, more)
missing_is_count (None ∷ levels) =
    let more = sum_by-cons (λ (known : Option (List ℕ)). cond (is_none known) 1 0) None levels in omega (arith, missing_is_count levels, more)

-- ---- the numbers of what is kept

module _ {V : Type 0} where
  keys-take : (n : ℕ) (es : List (ℕ × V)) → keys_of (take n es) ≡ take n (keys_of es)
  keys-take zero es = refl
  keys-take (suc n) [] = refl
  keys-take (suc n) (e ∷ es) = ap (λ l. e.0 ∷ l) (keys-take n es)

  keys-remove : (k : ℕ) (es : List (ℕ × V)) → keys_of (remove_entry (nat_eq k) es) ≡ remove_key (nat_eq k) (keys_of es)
  keys-remove k [] = refl
  keys-remove k (e ∷ es) = (elim (nat_eq k e.0) as (λ y. nat_eq k e.0 ≡ y → keys_of (remove_entry (nat_eq k) (e ∷ es)) ≡ remove_key (nat_eq k) (keys_of (e ∷ es))) [
    | true ↦ λ t. rw t
    | false ↦ λ t. rw t (ap (λ l. e.0 ∷ l) (keys-remove k es))
  ]) refl

  pub keys-used : (room k : ℕ) (v : V) (es : List (ℕ × V)) → keys_of (used_first room k v es) ≡ take room (k ∷ remove_key (nat_eq k) (keys_of es))
  keys-used room k v es = keys-take room ((k, v) ∷ remove_entry (nat_eq k) es) ∙ ap (λ l. take room (k ∷ l)) (keys-remove k es)

  pub keys-again : (room k : ℕ) (o : Option V) (es : List (ℕ × V)) → is_some o ≡ true → keys_of (used_again room k o es) ≡ take room (k ∷ remove_key (nat_eq k) (keys_of es))
  keys-again room k None es h = cc
  keys-again room k (Some v) es h = keys-used room k v es

-- what has no room goes, whether the number is taken out before or after
remove-take : (n k : ℕ) (ks : List ℕ) → take n (remove_key (nat_eq k) (take (suc n) ks)) ≡ take n (remove_key (nat_eq k) ks)
remove-take zero k ks = refl
remove-take (suc n) k [] = refl
remove-take (suc n) k (x ∷ ks) = (elim (nat_eq k x) as (λ y. nat_eq k x ≡ y → take (suc n) (remove_key (nat_eq k) (take (suc (suc n)) (x ∷ ks))) ≡ take (suc n) (remove_key (nat_eq k) (x ∷ ks))) [
  | true ↦ λ t. rw t (take-take (suc n) (suc n) ks (omega arith))
  | false ↦ λ t. rw t (ap (λ l. x ∷ l) (remove-take n k ks))
]) refl

first-take : (n k : ℕ) (ks : List ℕ) → take n (k ∷ remove_key (nat_eq k) (take n ks)) ≡ take n (k ∷ remove_key (nat_eq k) ks)
first-take zero k ks = refl
first-take (suc n) k ks = ap (λ l. k ∷ l) (remove-take n k ks)

-- none of the numbers is this one
abbrev pub IsApart : ℕ → List ℕ → Type 0
IsApart k [] = Unit {0}
IsApart k (x ∷ ks) = (nat_eq k x ≡ false) × IsApart k ks

remove-behind : (k : ℕ) (front ks : List ℕ) → IsApart k front → remove_key (nat_eq k) (front ++ ks) ≡ front ++ remove_key (nat_eq k) ks
remove-behind k [] ks h = refl
remove-behind k (x ∷ front) ks h = let apart = h.0 in rw apart (ap (λ l. x ∷ l) (remove-behind k front ks h.1))

-- one use more
pub one_more_use : (room k : ℕ) (used before now : List ℕ) (ks : List ℕ) → IsApart k used → before ≡ after_uses room used ks
    → now ≡ take room (k ∷ remove_key (nat_eq k) before) → now ≡ after_uses room (k ∷ used) ks
one_more_use room k used before now ks apart before_is now_is =
    now_is ∙ rw before_is (first-take room k (used ++ others used ks) ∙ ap (λ l. take room (k ∷ l)) (remove-behind k used (others used ks) apart))

-- ---- the numbers on a path

-- a level's number is below those of the levels under it
below_the_lower : (shape : Shape) (index lower level : ℕ) → index < data_blocks shape → level < depth shape → lower < level
    → path_block shape index level < path_block shape index lower
below_the_lower shape index lower level here within under =
    let counts = level_counts shape in
    let part = path_within shape index level here within in
    let whole = total_from level counts within in
    let rest = total_rest_le (level - (lower + 1)) (drop (lower + 1) counts) in
    let split : lower + 1 + (level - (lower + 1)) ≡ level = omega arith in
    let same : total (drop (level - (lower + 1)) (drop (lower + 1) counts)) ≡ total (drop level counts) =
    ap total (drop-drop (level - (lower + 1)) (lower + 1) counts) ∙ ap (λ n. total (drop n counts)) split in
    omega (arith, part, whole, rest, same)

is_other : (a b : ℕ) → a < b → nat_eq a b ≡ false
is_other a b less = false_from_ne_true (nat_eq a b) (λ e. let same : a ≡ b = eqb-true a b e in omega arith)

apart_from_lower : (shape : Shape) (index level lower : ℕ) → index < data_blocks shape → level < depth shape → lower ≤ level
    → IsApart (path_block shape index level) (numbers_down shape index lower)
apart_from_lower shape index level zero here within under = tt
apart_from_lower shape index level (suc lower) here within under =
    let less = below_the_lower shape index lower level here within (omega arith) in
    (is_other (path_block shape index level) (path_block shape index lower) less, apart_from_lower shape index level lower here within (omega arith))

pub level_apart : (shape : Shape) (index level : ℕ) → index < data_blocks shape → level < depth shape
    → IsApart (path_block shape index level) (numbers_down shape index level)
level_apart shape index level here within = apart_from_lower shape index level level here within (omega arith)

-- ---- one block more

pub keep_only : (shape : Shape) (index level hash : ℕ) (path : List (List ℕ)) (block : List ℕ) (room : ℕ) (before now : List (ℕ × List ℕ)) → level < depth shape
    → hash ≡ path_block shape index level → block_at path level ≡ block → now ≡ used_first room hash block before → AddsPath shape index path before now
keep_only shape index level hash path block room before now within number at_level now_is other found h =
    ⊎_elim
    (λ (same : (hash ≡ other) × (block ≡ found)). inr (record { level = level; within = within; number = sym number ∙ same.0; at_level = at_level ∙ same.1 }))
    (λ (there : kept_at other before ≡ Some found). inl there)
    (kept_at-used room other hash block before found (rw now_is at h))

pub kept_or_same : {T E : Type 0} (r : Result T E) (shape : Shape) (index level hash : ℕ) (path : List (List ℕ)) (block : List ℕ) (room : ℕ) (before now : List (ℕ × List ℕ)) → level < depth shape
    → hash ≡ path_block shape index level → block_at path level ≡ block → OnOk r (now ≡ used_first room hash block before) → OnErr r (now ≡ before)
    → AddsPath shape index path before now
kept_or_same (Ok x) shape index level hash path block room before now within number at_level ok err = keep_only shape index level hash path block room before now within number at_level ok
kept_or_same (Err x) shape index level hash path block room before now within number at_level ok err = λ other found h. inl (rw err at h)

pub adds_more : (shape : Shape) (index : ℕ) (path : List (List ℕ)) (first before now : List (ℕ × List ℕ)) → AddsPath shape index path first before
    → AddsPath shape index path before now → AddsPath shape index path first now
adds_more shape index path first before now earlier later hash block h =
    ⊎_elim (λ (there : kept_at hash before ≡ Some block). earlier hash block there) (λ (new : IsOnPath shape index path hash block). inr new) (later hash block h)
