-- What holds of four lanes, and a lane of a vector's shift and rotation.
use Rattle.std.proofs.Common.{◌≡◌, ℕ, zero, suc, ◌-◌, ◌*◌, ◌/◌, ◌%◌, ◌^◌, ◌<◌, List, [], ◌∷◌, length, slice_index, bit_or, arith, refl, w32}
use Rattle.std.specs.Int.{rotate_right}
use Rattle.std.specs.Simd.Lanes.{zip2}
use Rattle.inc_tree.specs.Lanes.{EachLane}

pub each_of_four : (P : ℕ → Type 0) → P 0 → P 1 → P 2 → P 3 → EachLane P
each_of_four P p q r s zero h = p
each_of_four P p q r s (suc zero) h = q
each_of_four P p q r s (suc (suc zero)) h = r
each_of_four P p q r s (suc (suc (suc zero))) h = s
each_of_four P p q r s (suc (suc (suc (suc n)))) h = absurd (omega arith)

-- what holds of each vector of four lanes
pub of_four : (P : List ℕ → Type 0) → ((a b c d : ℕ) → P (a ∷ b ∷ c ∷ d ∷ [])) → (xs : List ℕ) → length xs ≡ 4 → P xs
of_four P p (a ∷ b ∷ c ∷ d ∷ []) h = p a b c d
of_four P p [] h = absurd (omega arith)
of_four P p (a ∷ []) h = absurd (omega arith)
of_four P p (a ∷ b ∷ []) h = absurd (omega arith)
of_four P p (a ∷ b ∷ c ∷ []) h = absurd (omega arith)
of_four P p (a ∷ b ∷ c ∷ d ∷ e ∷ xs) h = absurd (omega arith)

abbrev Shifts : ℕ → List ℕ → Type 0
Shifts k x = EachLane (λ j. slice_index (zip2 (λ x n. x / 2 ^ n) x (k ∷ k ∷ k ∷ k ∷ [])) j ≡ slice_index x j / 2 ^ k)

pub shifted_lane : (k : ℕ) → k < 32 → (x : List ℕ) → length x ≡ 4 → Shifts k x
shifted_lane k below = of_four (Shifts k) (λ a b c d. each_of_four _ refl refl refl refl)

-- two shifts and an or are a rotation
abbrev Rotates : ℕ → List ℕ → Type 0
Rotates k x = EachLane (λ j.
    slice_index (zip2 bit_or
    (zip2 (λ x n. x / 2 ^ n) x (k ∷ k ∷ k ∷ k ∷ []))
    (zip2 (λ x n. x * 2 ^ n % 2 ^ 32) x ((32 - k) ∷ (32 - k) ∷ (32 - k) ∷ (32 - k) ∷ []))) j
    ≡ rotate_right w32 (slice_index x j) k)

pub rotated_lane : (k : ℕ) → 0 < k → k < 32 → (x : List ℕ) → length x ≡ 4 → Rotates k x
rotated_lane k some below =
    let right : k % 32 ≡ k = omega arith in
    let left : (32 - k) % 32 ≡ 32 - k = omega arith in
    of_four (Rotates k) (λ a b c d. each_of_four _ (rw (right, left) refl) (rw (right, left) refl) (rw (right, left) refl) (rw (right, left) refl))
