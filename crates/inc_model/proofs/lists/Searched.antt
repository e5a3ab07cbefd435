-- A binary search over a set finds exactly its members.
use Rattle.std.proofs.Common.{◌≡◌, ℕ, zero, suc, ◌<◌, ◌≤◌, Bool, eqb, true, false, ◌||◌, List, [], ◌∷◌, length, get_or, refl, ap, ◌∙◌, arith, inl, inr, sym, nat_cmp}
use Rattle.std.specs.Prelude.{is_ok, Result, Ok, Err}
use Rattle.std.specs.List.Sorted.{IsBinarySearchResult}
use Rattle.std.proofs.lemmas.Bool.{cases_lt, eq-eqb, ne_eqb}
use Rattle.std.proofs.lemmas.List.Sorted.{searched}
use Rattle.inc_model.specs.relation.State.{has, Rise}

or_true : (b c : Bool) → c ≡ true → (b || c) ≡ true
or_true true c h = refl
or_true false c h = h

has_at : (index : ℕ) (xs : List ℕ) (i : ℕ) → i < length xs → get_or xs i 0 ≡ index → has index xs ≡ true
has_at index [] i lt e = absurd (omega arith)
has_at index (x ∷ xs) zero lt e = let same : index ≡ x = (let e' : x ≡ index = e in omega arith) in ap (λ b. b || has index xs) (eq-eqb index x same)
has_at index (x ∷ xs) (suc i) lt e = or_true (eqb index x) (has index xs) (has_at index xs i (omega arith) e)

has_none : (index : ℕ) (xs : List ℕ) → ((k : ℕ) → k < length xs → get_or xs k 0 ≡ index → ⊥) → has index xs ≡ false
has_none index [] h = refl
has_none index (x ∷ xs) h = ap (λ b. b || has index xs) (ne_eqb index x (λ e. h 0 (omega arith) (let e' : index ≡ x = e in omega arith))) ∙ has_none index xs (λ k lt e. h (suc k) (omega arith) e)

rises : (xs : List ℕ) → Rise xs → (i j : ℕ) → i ≤ j → j < length xs → get_or xs i 0 ≤ get_or xs j 0
rises xs rise i j le lt = elim (cases_lt i j) [
  | inl before ↦ let less : get_or xs i 0 < get_or xs j 0 = rise i j 0 before lt in omega arith
  | inr after ↦ let same : i ≡ j = omega arith in let e = ap (λ k. get_or xs k 0) same in omega arith
]

pub held_by : (index : ℕ) (xs : List ℕ) (r : Result ℕ ℕ) → Rise xs → IsBinarySearchResult (λ y. nat_cmp y index) xs r → is_ok r ≡ has index xs
held_by index xs (Ok at) rise found = let there = searched xs index (Ok at) found (rises xs rise) in sym (has_at index xs at there.0 there.1)
held_by index xs (Err at) rise found =
    let apart = searched xs index (Err at) found (rises xs rise) in
    sym (has_none index xs (λ k lt e. elim (cases_lt k at) [
      | inl before ↦ let less = apart.1 k before in absurd (omega arith)
      | inr after ↦ let more = apart.2 k after lt in absurd (omega arith)
    ]))
