-- Values that belong to the numbers below a count, and the least number below a count that passes a test.
use Rattle.std.specs.Prelude.{◌≡◌, ℕ, zero, suc, ◌<◌, Bool, true, false, List, [], ◌∷◌, ◌++◌, Option, Some, None}

unfoldable pub listed : {T : Type 0} → (ℕ → T) → ℕ → List T
listed value zero = []
listed value (suc count) = listed value count ++ value count ∷ []

abbrev pub found_or : Option ℕ → ℕ → Bool → Option ℕ
found_or (Some found) at here = Some found
found_or None at true = Some at
found_or None at false = None

unfoldable pub first_below : ℕ → (ℕ → Bool) → Option ℕ
first_below zero passes = None
first_below (suc count) passes = found_or (first_below count passes) count (passes count)

-- in words
pub record IsFirst (count : ℕ) (passes : ℕ → Bool) (found : ℕ) : Type 0 where
  pub within : found < count
  pub here : passes found ≡ true
  pub first : (lower : ℕ) → lower < found → passes lower ≡ false
