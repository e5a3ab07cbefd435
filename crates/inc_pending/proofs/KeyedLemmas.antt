-- A list by rising keys, at the place where a key stands or would.
use Rattle.std.proofs.Common.{◌≡◌, ℕ, zero, suc, ◌<◌, cond, eqb, List, [], ◌∷◌, ◌++◌, get_or, set, take, drop, Some, None, refl, sym, ap, arith, inl, inr}
use Rattle.std.specs.Prelude.{All}
use Rattle.std.proofs.lemmas.Bool.{cases_order, lt-ltb, le-ltb, eq-eqb, ne_eqb}
use Rattle.std.proofs.lemmas.Bool.Decides.{nat_tests}
use Rattle.std.proofs.lemmas.List.Elements.{All-nil, All-cons, All-head, All-tail}
use Rattle.std.proofs.lemmas.List.Kept.{AllPairs-cons}
use Rattle.inc_pending.specs.Keyed.{lookup, insert, KeysRise, Below, Stands, Lacks}

module _ {V : Type 0} where
  -- ---- what another key has stays

  pub lookup_insert : (other key : ℕ) (value : V) (rows : List (ℕ × V)) → lookup other (insert key value rows) ≡ cond (eqb other key) (Some value) (lookup other rows)
  lookup_insert other key value [] = refl
  lookup_insert other key value (row ∷ rows) = grind (arith, nat_tests, lookup_insert other key value rows)

  -- ---- keys that rise

  rise_head : (row : ℕ × V) (rows : List (ℕ × V)) → KeysRise (row ∷ rows) → All (λ later. row.0 < later.0) rows
  rise_head row rows h = λ k d lt. h 0 (suc k) d (omega arith) (omega arith)

  rise_tail : (row : ℕ × V) (rows : List (ℕ × V)) → KeysRise (row ∷ rows) → KeysRise rows
  rise_tail row rows h = λ i j d lt inside. h (suc i) (suc j) d (omega arith) (omega arith)

  above_insert : (low key : ℕ) (value : V) (rows : List (ℕ × V)) → low < key → All (λ later. low < later.0) rows → All (λ later. low < later.0) (insert key value rows)
  above_insert low key value [] lt h = All-cons (λ later. low < later.0) (key, value) [] lt h
  above_insert low key value (row ∷ rows) lt h =
      let first = All-head (λ later. low < later.0) row rows h in
      let rest = All-tail (λ later. low < later.0) row rows h in
      elim (cases_order key row.0) [
        | inl same ↦ rw (le-ltb key row.0 (omega arith), eq-eqb key row.0 same) (All-cons (λ later. low < later.0) (key, value) rows lt rest)
        | inr order ↦ elim order [
          | inl before ↦ rw (lt-ltb key row.0 before) (All-cons (λ later. low < later.0) (key, value) (row ∷ rows) lt h)
          | inr after ↦ rw (le-ltb key row.0 (omega arith), ne_eqb key row.0 (λ e. absurd (omega arith))) (All-cons (λ later. low < later.0) row (insert key value rows) first (above_insert low key value rows lt rest))
        ]
      ]

  pub rise_insert : (key : ℕ) (value : V) (rows : List (ℕ × V)) → KeysRise rows → KeysRise (insert key value rows)
  rise_insert key value [] h = AllPairs-cons (λ earlier later. earlier.0 < later.0) (key, value) [] (All-nil (λ later. key < later.0)) h
  rise_insert key value (row ∷ rows) h =
      let later = rise_head row rows h in
      let rest = rise_tail row rows h in
      elim (cases_order key row.0) [
        | inl same ↦ rw (le-ltb key row.0 (omega arith), eq-eqb key row.0 same) (AllPairs-cons (λ earlier later. earlier.0 < later.0) (key, value) rows (λ k d lt. let past = later k d lt in omega arith) rest)
        | inr order ↦ elim order [
          | inl before ↦ rw (lt-ltb key row.0 before) (AllPairs-cons (λ earlier later. earlier.0 < later.0) (key, value) (row ∷ rows) (All-cons (λ later. key < later.0) row rows before (λ k d lt. let past = later k d lt in omega arith)) h)
          | inr after ↦ rw (le-ltb key row.0 (omega arith), ne_eqb key row.0 (λ e. absurd (omega arith))) (AllPairs-cons (λ earlier later. earlier.0 < later.0) row (insert key value rows) (above_insert row.0 key value rows after later) (rise_insert key value rows rest))
        ]
      ]

  -- ---- the place of a key: all keys before it are below

  below_tail : (row : ℕ × V) (rows : List (ℕ × V)) (at key : ℕ) → Below (row ∷ rows) (suc at) key → Below rows at key
  below_tail row rows at key h = λ k d lt. h (suc k) d (omega arith)

  stands_tail : (row : ℕ × V) (rows : List (ℕ × V)) (at key : ℕ) → Stands (row ∷ rows) (suc at) key → Stands rows at key
  stands_tail row rows at key h = record { within = let lt = h.within in omega arith; below = below_tail row rows at key h.below; here = h.here }

  pub lookup_stands : (rows : List (ℕ × V)) (at key : ℕ) (d : ℕ × V) → Stands rows at key → lookup key rows ≡ Some (get_or rows at d).1
  lookup_stands [] at key d h = absurd (let lt = h.within in omega arith)
  lookup_stands (row ∷ rows) zero key d h = let e : row.0 ≡ key = h.here d in rw (eq-eqb key row.0 (sym e)) refl
  lookup_stands (row ∷ rows) (suc at) key d h =
      let lt : row.0 < key = h.below 0 d (omega arith) in
      rw (ne_eqb key row.0 (λ e. absurd (omega arith))) (lookup_stands rows at key d (stands_tail row rows at key h))

  pub insert_stands : (rows : List (ℕ × V)) (at key : ℕ) (value : V) → Stands rows at key → insert key value rows ≡ set rows at (key, value)
  insert_stands [] at key value h = absurd (let lt = h.within in omega arith)
  insert_stands (row ∷ rows) zero key value h =
      let e : row.0 ≡ key = h.here row in
      rw (le-ltb key row.0 (omega arith), eq-eqb key row.0 (sym e)) refl
  insert_stands (row ∷ rows) (suc at) key value h =
      let lt : row.0 < key = h.below 0 row (omega arith) in
      rw (le-ltb key row.0 (omega arith), ne_eqb key row.0 (λ e. absurd (omega arith))) (ap (λ rest. row ∷ rest) (insert_stands rows at key value (stands_tail row rows at key h)))

  lacks_tail : (row : ℕ × V) (rows : List (ℕ × V)) (at key : ℕ) → Lacks (row ∷ rows) (suc at) key → Lacks rows at key
  lacks_tail row rows at key h = record { within = let le = h.within in omega arith; below = below_tail row rows at key h.below; above = λ d lt. h.above d (omega arith) }

  lookup_above : (key : ℕ) (rows : List (ℕ × V)) → All (λ row. key < row.0) rows → lookup key rows ≡ None
  lookup_above key [] h = refl
  lookup_above key (row ∷ rows) h =
      let lt = All-head (λ r. key < r.0) row rows h in
      rw (ne_eqb key row.0 (λ e. absurd (omega arith))) (lookup_above key rows (All-tail (λ r. key < r.0) row rows h))

  pub lookup_lacks : (rows : List (ℕ × V)) (at key : ℕ) → KeysRise rows → Lacks rows at key → lookup key rows ≡ None
  lookup_lacks [] at key rise h = refl
  lookup_lacks (row ∷ rows) zero key rise h =
      let lt : key < row.0 = h.above row (omega arith) in
      lookup_above key (row ∷ rows) (All-cons (λ r. key < r.0) row rows lt (λ k d inside. let past = rise_head row rows rise k d inside in omega arith))
  lookup_lacks (row ∷ rows) (suc at) key rise h =
      let lt : row.0 < key = h.below 0 row (omega arith) in
      rw (ne_eqb key row.0 (λ e. absurd (omega arith))) (lookup_lacks rows at key (rise_tail row rows rise) (lacks_tail row rows at key h))

  pub insert_lacks : (rows : List (ℕ × V)) (at key : ℕ) (value : V) → Lacks rows at key → insert key value rows ≡ take at rows ++ (key, value) ∷ drop at rows
  insert_lacks [] zero key value h = refl
  insert_lacks [] (suc at) key value h = absurd (let le = h.within in omega arith)
  insert_lacks (row ∷ rows) zero key value h =
      let lt : key < row.0 = h.above row (omega arith) in
      rw (lt-ltb key row.0 lt) refl
  insert_lacks (row ∷ rows) (suc at) key value h =
      let lt : row.0 < key = h.below 0 row (omega arith) in
      rw (le-ltb key row.0 (omega arith), ne_eqb key row.0 (λ e. absurd (omega arith))) (ap (λ rest. row ∷ rest) (insert_lacks rows at key value (lacks_tail row rows at key h)))
