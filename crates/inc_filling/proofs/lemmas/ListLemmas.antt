-- Indices of a list: which stand before which, and their stages.
use Rattle.std.proofs.Common.{◌≡◌, ℕ, zero, suc, ◌+◌, ◌<◌, ◌≤◌, Bool, true, false, ◌||◌, eqb, ltb, List, [], ◌∷◌, ◌++◌, length, take, refl, sym, ap, subst, ◌∙◌, arith, length-append}
use Rattle.std.specs.Prelude.{slice_index}
use Rattle.std.proofs.lemmas.Bool.{eq-eqb, ltb-false, ltb-true}
use Rattle.std.proofs.Math.Seq.{get_or-append_seam, take-append_seam}
use Rattle.std.proofs.lemmas.List.{get_or_append_left, take-append-le, take_more}
use Rattle.inc_model.specs.relation.State.{has}
use Rattle.inc_filling.specs.Grouped.{AreDistinct}

pub has_last : (i x : ℕ) (xs : List ℕ) → has i (xs ++ x ∷ []) ≡ (has i xs || eqb i x)
has_last i x [] = or_end (eqb i x)
  where
    or_end : (b : Bool) → (b || false) ≡ (false || b)
    or_end true = refl
    or_end false = refl
has_last i x (y ∷ ys) = ap (λ b. eqb i y || b) (has_last i x ys) ∙ joined (eqb i y) (has i ys) (eqb i x)
  where
    joined : (a b c : Bool) → (a || (b || c)) ≡ ((a || b) || c)
    joined true b c = refl
    joined false b c = refl

pub has_own : (xs : List ℕ) (k : ℕ) → k < length xs → has (slice_index xs k) xs ≡ true
has_own [] k lt = absurd (omega arith)
has_own (x ∷ xs) zero lt = ap (λ b. b || has x xs) (eq-eqb x x refl)
has_own (x ∷ xs) (suc k) lt = step (eqb (slice_index xs k) x) (has_own xs k (omega arith))
  where
    step : (b : Bool) → has (slice_index xs k) xs ≡ true → (b || has (slice_index xs k) xs) ≡ true
    step true h = refl
    step false h = h

-- one more index of the first ones
pub has_more_first : (i : ℕ) (xs : List ℕ) (k : ℕ) → k < length xs → has i (take (k + 1) xs) ≡ (has i (take k xs) || eqb i (slice_index xs k))
has_more_first i xs k lt = ap (has i) (take_more xs k 0 lt) ∙ has_last i (slice_index xs k) (take k xs)

-- one more index that isn't there
pub distinct_last : (xs : List ℕ) (x : ℕ) → AreDistinct xs → has x xs ≡ false → AreDistinct (xs ++ x ∷ [])
distinct_last xs x h new k lt = step (ltb k (length xs)) refl
  where
    last : k ≡ length xs → has (slice_index (xs ++ x ∷ []) k) (take k (xs ++ x ∷ [])) ≡ false
    last e =
        subst (λ (n : ℕ). has (slice_index (xs ++ x ∷ []) n) (take n (xs ++ x ∷ [])) ≡ false) (sym e)
        (ap (λ (i : ℕ). has i (take (length xs) (xs ++ x ∷ []))) (get_or-append_seam xs x [] 0) ∙ ap (has x) (take-append_seam xs (x ∷ [])) ∙ new)

    step : (b : Bool) → ltb k (length xs) ≡ b → has (slice_index (xs ++ x ∷ []) k) (take k (xs ++ x ∷ [])) ≡ false
    step true t =
        let below : k < length xs = ltb-true k (length xs) t in
        ap (λ (i : ℕ). has i (take k (xs ++ x ∷ []))) (get_or_append_left xs (x ∷ []) 0 k below) ∙ ap (has (slice_index xs k)) (take-append-le k xs (x ∷ []) (omega arith)) ∙ h k below
    step false f =
        let above : length xs ≤ k = ltb-false k (length xs) f in
        last (omega (arith, length-append xs (x ∷ [])))
