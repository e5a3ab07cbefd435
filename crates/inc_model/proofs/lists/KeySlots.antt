-- The place of a row in a list by rising keys: all before it are lower.
use Rattle.std.proofs.Common.{◌≡◌, ℕ, zero, suc, ◌<◌, ◌≤◌, List, [], ◌∷◌, length, get_or, set, refl, sym, ap, subst, ◌∙◌, arith}
use Rattle.std.proofs.lemmas.Bool.{lt-ltb, le-ltb, eq-eqb, ne_eqb}
use Rattle.inc_pending.specs.Keyed.{insert}
use Rattle.inc_model.specs.relation.State.{with_index}
use Rattle.inc_model.specs.executed.Places.{with_at, IsKeyAt, IsKeySlot, IsSlot}

-- ---- the place of a key: every row before it has a lower one

module _ {V : Type 0} where
  abbrev pub AllBelow : List (ℕ × V) → ℕ → ℕ → Type 0
  AllBelow rows i key = (k : ℕ) (d : ℕ × V) → k < i → (get_or rows k d).0 < key

  below_tail : (row : ℕ × V) (rows : List (ℕ × V)) (i key : ℕ) → AllBelow (row ∷ rows) (suc i) key → AllBelow rows i key
  below_tail row rows i key h = λ k d lt. h (suc k) d (omega arith)

  pub key_at : (key : ℕ) (rows : List (ℕ × V)) (i : ℕ) (d : ℕ × V) → i < length rows → AllBelow rows i key → d ≡ get_or rows i d → d.0 ≡ key → IsKeyAt rows key i
  key_at key rows i d lt h is e = record { within = lt; replaced = λ value. step key value rows i lt h (sym (ap (λ (row : ℕ × V). row.0) is) ∙ e) }
    where
      step : (key : ℕ) (value : V) (rows : List (ℕ × V)) (i : ℕ) → i < length rows → AllBelow rows i key → (get_or rows i d).0 ≡ key → insert key value rows ≡ set rows i (key, value)
      step key value [] i lt h e = absurd (omega arith)
      step key value (row ∷ rows) zero lt h e = let e' : row.0 ≡ key = e in rw (le-ltb key row.0 (omega arith), eq-eqb key row.0 (sym e')) refl
      step key value (row ∷ rows) (suc i) lt h e =
          let less : row.0 < key = h 0 row (omega arith) in
          rw (le-ltb key row.0 (omega arith), ne_eqb key row.0 (λ e. absurd (omega arith))) (ap (λ rest. row ∷ rest) (step key value rows i (omega arith) (below_tail row rows i key h) e))

  pub key_slot : (key : ℕ) (rows : List (ℕ × V)) (i : ℕ) (d : ℕ × V) → i < length rows → AllBelow rows i key → d ≡ get_or rows i d → key < d.0 → IsKeySlot rows key i
  key_slot key rows i d lt h is less = record { within = (omega arith); put = λ value. step key value rows i lt h (subst (λ (row : ℕ × V). key < row.0) is less) }
    where
      step : (key : ℕ) (value : V) (rows : List (ℕ × V)) (i : ℕ) → i < length rows → AllBelow rows i key → key < (get_or rows i d).0 → insert key value rows ≡ with_at i (key, value) rows
      step key value [] i lt h less = absurd (omega arith)
      step key value (row ∷ rows) zero lt h less = let less' : key < row.0 = less in rw (lt-ltb key row.0 less') refl
      step key value (row ∷ rows) (suc i) lt h less =
          let low : row.0 < key = h 0 row (omega arith) in
          rw (le-ltb key row.0 (omega arith), ne_eqb key row.0 (λ e. absurd (omega arith))) (ap (λ rest. row ∷ rest) (step key value rows i (omega arith) (below_tail row rows i key h) less))

  pub key_last : (key : ℕ) (rows : List (ℕ × V)) (i : ℕ) → length rows ≤ i → AllBelow rows i key → IsKeySlot rows key (length rows)
  key_last key rows i le h = record { within = (omega arith); put = λ value. step key value rows (length rows) refl (λ k d lt. h k d (omega arith)) }
    where
      step : (key : ℕ) (value : V) (rows : List (ℕ × V)) (i : ℕ) → i ≡ length rows → AllBelow rows i key → insert key value rows ≡ with_at i (key, value) rows
      step key value [] zero e h = refl
      step key value [] (suc i) e h = absurd (omega arith)
      step key value (row ∷ rows) zero e h = absurd (omega arith)
      step key value (row ∷ rows) (suc i) e h =
          let low : row.0 < key = h 0 row (omega arith) in
          rw (le-ltb key row.0 (omega arith), ne_eqb key row.0 (λ e. absurd (omega arith))) (ap (λ rest. row ∷ rest) (step key value rows i (omega arith) (below_tail row rows i key h)))

-- ---- the place of an index in a set

abbrev pub LowerBelow : List ℕ → ℕ → ℕ → Type 0
LowerBelow xs i index = (k d : ℕ) → k < i → get_or xs k d < index

lower_tail : (x : ℕ) (xs : List ℕ) (i index : ℕ) → LowerBelow (x ∷ xs) (suc i) index → LowerBelow xs i index
lower_tail x xs i index h = λ k d lt. h (suc k) d (omega arith)

pub add_there : (index : ℕ) (xs : List ℕ) (i d : ℕ) → i < length xs → LowerBelow xs i index → get_or xs i d ≡ index → with_index index xs ≡ xs
add_there index [] i d lt h e = absurd (omega arith)
add_there index (x ∷ xs) zero d lt h e = let e' : x ≡ index = e in rw (le-ltb index x (omega arith), eq-eqb index x (sym e')) refl
add_there index (x ∷ xs) (suc i) d lt h e =
    let less : x < index = h 0 x (omega arith) in
    rw (le-ltb index x (omega arith), ne_eqb index x (λ e. absurd (omega arith))) (ap (λ rest. x ∷ rest) (add_there index xs i d (omega arith) (lower_tail x xs i index h) e))

pub slot_here : (index : ℕ) (xs : List ℕ) (i d : ℕ) → i < length xs → LowerBelow xs i index → index < get_or xs i d → IsSlot xs index i
slot_here index xs i d lt h less = record { within = (omega arith); put = step index xs i lt h less }
  where
    step : (index : ℕ) (xs : List ℕ) (i : ℕ) → i < length xs → LowerBelow xs i index → index < get_or xs i d → with_index index xs ≡ with_at i index xs
    step index [] i lt h less = absurd (omega arith)
    step index (x ∷ xs) zero lt h less = let less' : index < x = less in rw (lt-ltb index x less') refl
    step index (x ∷ xs) (suc i) lt h less =
        let low : x < index = h 0 x (omega arith) in
        rw (le-ltb index x (omega arith), ne_eqb index x (λ e. absurd (omega arith))) (ap (λ rest. x ∷ rest) (step index xs i (omega arith) (lower_tail x xs i index h) less))

pub slot_last : (index : ℕ) (xs : List ℕ) (i : ℕ) → length xs ≤ i → LowerBelow xs i index → IsSlot xs index (length xs)
slot_last index xs i le h = record { within = (omega arith); put = step index xs (length xs) refl (λ k d lt. h k d (omega arith)) }
  where
    step : (index : ℕ) (xs : List ℕ) (i : ℕ) → i ≡ length xs → LowerBelow xs i index → with_index index xs ≡ with_at i index xs
    step index [] zero e h = refl
    step index [] (suc i) e h = absurd (omega arith)
    step index (x ∷ xs) zero e h = absurd (omega arith)
    step index (x ∷ xs) (suc i) e h =
        let low : x < index = h 0 x (omega arith) in
        rw (le-ltb index x (omega arith), ne_eqb index x (λ e. absurd (omega arith))) (ap (λ rest. x ∷ rest) (step index xs i (omega arith) (lower_tail x xs i index h)))
