-- The runs of a list of truth values between a start and an end: the half-open intervals of true places that can't
-- be made longer inside these bounds, in order. A true place stands for a filled index.
use Rattle.std.specs.Prelude.{◌≡◌, ◌⊎◌, ℕ, zero, suc, ◌+◌, ◌-◌, ◌<◌, ◌≤◌, Bool, true, false, List, [], ◌∷◌, ◌==◌, if◌then◌else◌, slice_index_or, All}

abbrev pub is_filled : List Bool → ℕ → Bool
is_filled present i = slice_index_or present i false

-- ---- what runs are

pub record IsRun (present : List Bool) (start end : ℕ) (run : ℕ × ℕ) : Type 0 where
  pub from : start ≤ run.0
  pub some : run.0 < run.1
  pub to : run.1 ≤ end
  pub filled : (i : ℕ) → run.0 ≤ i → i < run.1 → is_filled present i ≡ true
  -- it can't be made longer at either side
  pub before : (i : ℕ) → start ≤ i → i + 1 ≡ run.0 → is_filled present i ≡ false
  pub after : run.1 < end → is_filled present run.1 ≡ false

-- each ends before the later ones begin
abbrev pub AreInOrder : List (ℕ × ℕ) → Type 0
AreInOrder [] = Unit {0}
AreInOrder (run ∷ runs) = All (λ later. run.1 < later.0) runs × AreInOrder runs

-- one of the intervals has the index
abbrev pub Covers : List (ℕ × ℕ) → ℕ → Type 0
Covers [] i = ⊥
Covers (run ∷ runs) i = ((run.0 ≤ i) × (i < run.1)) ⊎ Covers runs i

pub record AreRuns (present : List Bool) (start end : ℕ) (runs : List (ℕ × ℕ)) : Type 0 where
  pub each : All (IsRun present start end) runs
  pub order : AreInOrder runs
  pub all : (i : ℕ) → start ≤ i → i < end → is_filled present i ≡ true → Covers runs i

-- ---- the list of them

-- a filled index before these runs makes the first of them longer, where that begins right after it
abbrev pub joined : ℕ → List (ℕ × ℕ) → List (ℕ × ℕ)
joined at [] = (at, at + 1) ∷ []
joined at (run ∷ runs) = if run.0 == at + 1 then (at, run.1) ∷ runs else (at, at + 1) ∷ run ∷ runs

-- the runs of this many places from one on
unfoldable pub runs_from : List Bool → ℕ → ℕ → List (ℕ × ℕ)
runs_from present zero at = []
runs_from present (suc count) at =
    if is_filled present at then joined at (runs_from present count (at + 1)) else runs_from present count (at + 1)

abbrev pub runs_of : List Bool → ℕ → ℕ → List (ℕ × ℕ)
runs_of present start end = runs_from present (end - start) start

-- ---- what is left after a list of them

-- a filled index that is in none of the intervals
pub record IsLeft (present : List Bool) (start end : ℕ) (runs : List (ℕ × ℕ)) (i : ℕ) : Type 0 where
  pub from : start ≤ i
  pub to : i < end
  pub filled : is_filled present i ≡ true
  pub out : Covers runs i → ⊥

pub record IsFirstLeft (present : List Bool) (start end : ℕ) (runs : List (ℕ × ℕ)) (i : ℕ) : Type 0 where
  pub left : IsLeft present start end runs i
  pub first : (j : ℕ) → IsLeft present start end runs j → i ≤ j

-- where the first of the runs begins
abbrev pub start_or : ℕ → List (ℕ × ℕ) → ℕ
start_or end [] = end
start_or end (run ∷ runs) = run.0
