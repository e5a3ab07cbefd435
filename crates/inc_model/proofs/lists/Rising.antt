-- Rising lists with the same members are equal.
use Rattle.std.proofs.Common.{◌≡◌, ℕ, ◌<◌, ◌≤◌, true, false, ◌||◌, cond, List, [], ◌∷◌, Option, Some, None, refl, sym, ap, ◌∙◌, arith, inl, inr}
use Rattle.std.specs.Prelude.{All, is_some}
use Rattle.std.proofs.lemmas.Bool.{cases_lt, eq-eqb, ne_eqb, false≢true}
use Rattle.std.proofs.lemmas.List.Elements.{All-head, All-tail}
use Rattle.inc_pending.specs.Keyed.{lookup, KeysRise}
use Rattle.inc_model.specs.relation.State.{has, Rise}
use Rattle.inc_model.proofs.lists.Sets.{pairs_head, pairs_tail}

-- ---- indices

none_above : (x : ℕ) (xs : List ℕ) → All (λ (y : ℕ). x < y) xs → (q : ℕ) → q ≤ x → has q xs ≡ false
none_above x [] h q le = refl
none_above x (y ∷ ys) h q le =
    let first : x < y = All-head (λ (z : ℕ). x < z) y ys h in
    ap (λ b. b || has q ys) (ne_eqb q y (λ e. absurd (omega arith))) ∙ none_above x ys (All-tail (λ (z : ℕ). x < z) y ys h) q le

has_itself : (x : ℕ) (xs : List ℕ) → has x (x ∷ xs) ≡ true
has_itself x xs = ap (λ b. b || has x xs) (eq-eqb x x refl)

-- the first of one list isn't below that of the other
not_below : (x y : ℕ) (xs ys : List ℕ) → All (λ (z : ℕ). y < z) ys → ((q : ℕ) → has q (x ∷ xs) ≡ has q (y ∷ ys)) → x < y → ⊥
not_below x y xs ys above same lt =
    false≢true (sym (ap (λ b. b || has x ys) (ne_eqb x y (λ e. absurd (omega arith))) ∙ none_above y ys above x (omega arith)) ∙ sym (same x) ∙ has_itself x xs)

pub same_indices : (a b : List ℕ) → Rise a → Rise b → ((q : ℕ) → has q a ≡ has q b) → a ≡ b
same_indices [] [] ra rb same = refl
same_indices [] (y ∷ ys) ra rb same = absurd (false≢true (same y ∙ has_itself y ys))
same_indices (x ∷ xs) [] ra rb same = absurd (false≢true (sym (same x) ∙ has_itself x xs))
same_indices (x ∷ xs) (y ∷ ys) ra rb same =
    let R : ℕ → ℕ → Type 0 = λ a b. a < b in
    let above_x = pairs_head R x xs ra in
    let above_y = pairs_head R y ys rb in
    let e = first_is (not_below x y xs ys above_y same) (not_below y x ys xs above_x (λ q. sym (same q))) in
    ap (λ z. z ∷ xs) e ∙ ap (λ (l : List ℕ). y ∷ l) (same_indices xs ys (pairs_tail R x xs ra) (pairs_tail R y ys rb) (rest above_x above_y e))
  where
    first_is : (x < y → ⊥) → (y < x → ⊥) → x ≡ y
    first_is a b = elim (cases_lt x y) [ inl lt ↦ absurd (a lt) | inr ge ↦ elim (cases_lt y x) [ inl lt ↦ absurd (b lt) | inr le ↦ omega arith ] ]

    rest : All (λ (z : ℕ). x < z) xs → All (λ (z : ℕ). y < z) ys → x ≡ y → (q : ℕ) → has q xs ≡ has q ys
    rest above_x above_y e q = elim (cases_lt x q) [
      | inl lt ↦
          sym (ap (λ b. b || has q xs) (ne_eqb q x (λ s. absurd (omega arith)))) ∙ same q ∙ ap (λ b. b || has q ys) (ne_eqb q y (λ s. absurd (omega arith)))
      | inr le ↦ none_above x xs above_x q le ∙ sym (none_above y ys above_y q (omega arith))
    ]

-- ---- rows

module _ {V : Type 0} where
  absent_above : (x : ℕ) (rows : List (ℕ × V)) → All (λ (r : (ℕ × V)). x < r.0) rows → (q : ℕ) → q ≤ x → lookup q rows ≡ None
  absent_above x [] h q le = refl
  absent_above x (row ∷ rows) h q le =
      let first : x < row.0 = All-head (λ (r : (ℕ × V)). x < r.0) row rows h in
      ap (λ b. cond b (Some row.1) (lookup q rows)) (ne_eqb q row.0 (λ e. absurd (omega arith))) ∙ absent_above x rows (All-tail (λ (r : (ℕ × V)). x < r.0) row rows h) q le

  finds_itself : (row : (ℕ × V)) (rows : List (ℕ × V)) → lookup row.0 (row ∷ rows) ≡ Some row.1
  finds_itself row rows = ap (λ b. cond b (Some row.1) (lookup row.0 rows)) (eq-eqb row.0 row.0 refl)

  none_some : (v : V) → None ≡ Some v → ⊥
  none_some v e = false≢true (ap (λ (o : Option V). is_some o) e)

  key_not_below : (x y : (ℕ × V)) (xs ys : List (ℕ × V)) → All (λ (r : (ℕ × V)). y.0 < r.0) ys → ((q : ℕ) → lookup q (x ∷ xs) ≡ lookup q (y ∷ ys)) → x.0 < y.0 → ⊥
  key_not_below x y xs ys above same lt =
      none_some x.1 (sym (ap (λ b. cond b (Some y.1) (lookup x.0 ys)) (ne_eqb x.0 y.0 (λ e. absurd (omega arith))) ∙ absent_above y.0 ys above x.0 (omega arith)) ∙ sym (same x.0) ∙ finds_itself x xs)

  pub same_rows : (a b : List (ℕ × V)) → KeysRise a → KeysRise b → ((q : ℕ) → lookup q a ≡ lookup q b) → a ≡ b
  same_rows [] [] ra rb same = refl
  same_rows [] (y ∷ ys) ra rb same = absurd (none_some y.1 (same y.0 ∙ finds_itself y ys))
  same_rows (x ∷ xs) [] ra rb same = absurd (none_some x.1 (sym (same x.0) ∙ finds_itself x xs))
  same_rows (x ∷ xs) (y ∷ ys) ra rb same =
      let R : (ℕ × V) → (ℕ × V) → Type 0 = λ a b. a.0 < b.0 in
      let above_x = pairs_head R x xs ra in
      let above_y = pairs_head R y ys rb in
      let e = first_is (key_not_below x y xs ys above_y same) (key_not_below y x ys xs above_x (λ q. sym (same q))) in
      ap (λ k. (k, x.1) ∷ xs) e ∙ ap (λ v. (y.0, v) ∷ xs) (value e) ∙ ap (λ (l : List (ℕ × V)). y ∷ l) (same_rows xs ys (pairs_tail R x xs ra) (pairs_tail R y ys rb) (rest above_x above_y e))
    where
      first_is : (x.0 < y.0 → ⊥) → (y.0 < x.0 → ⊥) → x.0 ≡ y.0
      first_is a b = elim (cases_lt x.0 y.0) [ inl lt ↦ absurd (a lt) | inr ge ↦ elim (cases_lt y.0 x.0) [ inl lt ↦ absurd (b lt) | inr le ↦ omega arith ] ]

      value : x.0 ≡ y.0 → x.1 ≡ y.1
      value e =
          let found : Some x.1 ≡ Some y.1 = sym (finds_itself x xs) ∙ same x.0 ∙ ap (λ b. cond b (Some y.1) (lookup x.0 ys)) (eq-eqb x.0 y.0 e) in
          ap (λ (o : Option V). elim o as (λ _. V) [ Some v ↦ v | None ↦ x.1 ]) found

      rest : All (λ (r : (ℕ × V)). x.0 < r.0) xs → All (λ (r : (ℕ × V)). y.0 < r.0) ys → x.0 ≡ y.0 → (q : ℕ) → lookup q xs ≡ lookup q ys
      rest above_x above_y e q = elim (cases_lt x.0 q) [
        | inl lt ↦
            sym (ap (λ b. cond b (Some x.1) (lookup q xs)) (ne_eqb q x.0 (λ s. absurd (omega arith)))) ∙ same q ∙ ap (λ b. cond b (Some y.1) (lookup q ys)) (ne_eqb q y.0 (λ s. absurd (omega arith)))
        | inr le ↦ absent_above x.0 xs above_x q le ∙ sym (absent_above y.0 ys above_y q (omega arith))
      ]
