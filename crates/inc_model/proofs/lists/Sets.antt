-- The lists of a state after one more key: who is in, what holds of each, and that they rise.
use Rattle.std.proofs.Common.{◌≡◌, ℕ, suc, ◌<◌, Bool, true, false, ◌||◌, cond, eqb, ltb, List, [], ◌∷◌, get_or, Option, Some, None, refl, ap, ◌∙◌, arith}
use Rattle.std.specs.Prelude.{All, AllPairs, is_some, map}
use Rattle.std.proofs.lemmas.Bool.{eq-eqb, cond_both, ltb-true, ltb-false, eqb-false}
use Rattle.std.proofs.lemmas.Bool.Decides.{nat_tests}
use Rattle.std.proofs.lemmas.List.Elements.{All-nil, All-cons, All-head, All-tail}
use Rattle.std.proofs.lemmas.List.Kept.{AllPairs-cons}
use Rattle.inc_pending.specs.Keyed.{lookup, insert}
use Rattle.inc_pending.proofs.KeyedLemmas.{lookup_insert}
use Rattle.inc_model.specs.relation.State.{is_in, has, with_index, Rise}

-- ---- the first of a rising list, and the rest

module _ {X : Type 0} (R : X → X → Type 0) where
  pub pairs_head : (x : X) (xs : List X) → AllPairs R (x ∷ xs) → All (R x) xs
  pairs_head x xs h = λ k d lt. h 0 (suc k) d (omega arith) (omega arith)

  pub pairs_tail : (x : X) (xs : List X) → AllPairs R (x ∷ xs) → AllPairs R xs
  pairs_tail x xs h = λ i j d lt inside. h (suc i) (suc j) d (omega arith) (omega arith)

  pub pairs_none : AllPairs R []
  pairs_none = λ i j d lt inside. absurd (omega arith)

-- two facts of each
pub both : {X : Type 0} (P Q R : X → Type 0) → ((x : X) → P x → Q x → R x) → (xs : List X) → All P xs → All Q xs → All R xs
both P Q R f xs p q = λ k d lt. f (get_or xs k d) (p k d lt) (q k d lt)

-- ---- sets of indices

pub has_add : (q i : ℕ) (xs : List ℕ) → has q (with_index i xs) ≡ (eqb q i || has q xs)
has_add q i [] = refl
has_add q i (x ∷ xs) = grind (arith, nat_tests, has_add q i xs)

pub add_all : (P : ℕ → Type 0) (i : ℕ) (xs : List ℕ) → P i → All P xs → All P (with_index i xs)
add_all P i [] p h = All-cons P i [] p h
add_all P i (x ∷ xs) p h =
    let first = All-head P x xs h in
    let rest = All-tail P x xs h in
    cond_both (ltb i x) (i ∷ x ∷ xs) (cond (eqb i x) (x ∷ xs) (x ∷ with_index i xs)) (All P) (λ _. All-cons P i (x ∷ xs) p h)
    (λ _. cond_both (eqb i x) (x ∷ xs) (x ∷ with_index i xs) (All P) (λ _. h) (λ _. All-cons P x (with_index i xs) first (add_all P i xs p rest)))

pub add_rises : (i : ℕ) (xs : List ℕ) → Rise xs → Rise (with_index i xs)
add_rises i [] h = AllPairs-cons (λ (a b : ℕ). a < b) i [] (All-nil (λ b. i < b)) h
add_rises i (x ∷ xs) h =
    let R : ℕ → ℕ → Type 0 = λ a b. a < b in
    let above = pairs_head R x xs h in
    let rest = pairs_tail R x xs h in
    cond_both (ltb i x) (i ∷ x ∷ xs) (cond (eqb i x) (x ∷ xs) (x ∷ with_index i xs)) Rise
    (λ t. let lt = ltb-true i x t in AllPairs-cons R i (x ∷ xs) (All-cons (R i) x xs lt (λ k d inside. let past : x < get_or xs k d = above k d inside in omega arith)) h)
    (λ f. cond_both (eqb i x) (x ∷ xs) (x ∷ with_index i xs) Rise (λ _. h)
    (λ ne. let le = ltb-false i x f in let apart = eqb-false i x ne in AllPairs-cons R x (with_index i xs) (add_all (R x) i xs (omega arith) above) (add_rises i xs rest)))

-- ---- maps

module _ {V : Type 0} where
  -- the keys are the indices that are in
  pub has_keys : (q : ℕ) (rows : List (ℕ × V)) → has q (map (λ row. row.0) rows) ≡ is_in q rows
  has_keys q [] = refl
  has_keys q (row ∷ rows) = step (eqb q row.0) (lookup q rows) (has q (map (λ r. r.0) rows)) (has_keys q rows)
    where
      step : (b : Bool) (found : Option V) (rest : Bool) → rest ≡ is_some found → (b || rest) ≡ is_some (cond b (Some row.1) found)
      step true found rest e = refl
      step false found rest e = e

  pub insert_all : (P : ℕ × V → Type 0) (key : ℕ) (value : V) (rows : List (ℕ × V)) → P (key, value) → All P rows → All P (insert key value rows)
  insert_all P key value [] p h = All-cons P (key, value) [] p h
  insert_all P key value (row ∷ rows) p h =
      let first = All-head P row rows h in
      let rest = All-tail P row rows h in
      cond_both (ltb key row.0) ((key, value) ∷ row ∷ rows) (cond (eqb key row.0) ((key, value) ∷ rows) (row ∷ insert key value rows)) (All P) (λ _. All-cons P (key, value) (row ∷ rows) p h)
      (λ _. cond_both (eqb key row.0) ((key, value) ∷ rows) (row ∷ insert key value rows) (All P) (λ _. All-cons P (key, value) rows p rest) (λ _. All-cons P row (insert key value rows) first (insert_all P key value rows p rest)))

  pub in_insert : (q key : ℕ) (value : V) (rows : List (ℕ × V)) → is_in q (insert key value rows) ≡ (eqb q key || is_in q rows)
  in_insert q key value rows = ap (λ (found : Option V). is_some found) (lookup_insert q key value rows) ∙ step (eqb q key) (lookup q rows)
    where
      step : (b : Bool) (found : Option V) → is_some (cond b (Some value) found) ≡ (b || is_some found)
      step true found = refl
      step false found = refl

  -- at the key itself, and at another
  pub lookup_new : (key : ℕ) (value : V) (rows : List (ℕ × V)) → lookup key (insert key value rows) ≡ Some value
  lookup_new key value rows = rw (lookup_insert key key value rows, eq-eqb key key refl) refl

  pub lookup_other : (q key : ℕ) (value : V) (rows : List (ℕ × V)) → eqb q key ≡ false → lookup q (insert key value rows) ≡ lookup q rows
  lookup_other q key value rows ne = rw (lookup_insert q key value rows, ne) refl

  -- what is found is in
  pub found_in : (q : ℕ) (value : V) (rows : List (ℕ × V)) → lookup q rows ≡ Some value → is_in q rows ≡ true
  found_in q value rows e = ap (λ (found : Option V). is_some found) e

  pub none_found : (q : ℕ) (rows : List (ℕ × V)) → is_in q rows ≡ false → lookup q rows ≡ None
  none_found q rows e = step (lookup q rows) e
    where
      step : (found : Option V) → is_some found ≡ false → found ≡ None
      step (Some v) e = absurd (cc)
      step None e = refl
