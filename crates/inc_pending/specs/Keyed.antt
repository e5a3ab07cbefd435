-- Lists of a number and a value, by rising number.
use Rattle.std.specs.Prelude.{◌≡◌, ℕ, ◌<◌, ◌≤◌, List, [], ◌∷◌, length, slice_index_or, Option, Some, None, ◌==◌, nat_lt, if◌then◌else◌, AllPairs}

module _ {V : Type 0} where
  -- the value of a key
  abbrev pub lookup : ℕ → List (ℕ × V) → Option V
  lookup key [] = None
  lookup key (row ∷ rows) = if key == row.0 then Some row.1 else lookup key rows

  -- the list with this value for a key, in place of what it had
  abbrev pub insert : ℕ → V → List (ℕ × V) → List (ℕ × V)
  insert key value [] = (key, value) ∷ []
  insert key value (row ∷ rows) = if nat_lt key row.0 then (key, value) ∷ row ∷ rows else if key == row.0 then (key, value) ∷ rows else row ∷ insert key value rows

  abbrev pub KeysRise : List (ℕ × V) → Type 0
  KeysRise rows = AllPairs (λ earlier later. earlier.0 < later.0) rows

  -- ---- the place of a key: the keys before it are below

  abbrev pub Below : List (ℕ × V) → ℕ → ℕ → Type 0
  Below rows at key = (k : ℕ) (d : ℕ × V) → k < at → (slice_index_or rows k d).0 < key

  -- the key stands there
  pub record Stands (rows : List (ℕ × V)) (at key : ℕ) : Type 0 where
    pub within : at < length rows
    pub below : Below rows at key
    pub here : (d : ℕ × V) → (slice_index_or rows at d).0 ≡ key

  -- the key isn't there, and would stand there
  pub record Lacks (rows : List (ℕ × V)) (at key : ℕ) : Type 0 where
    pub within : at ≤ length rows
    pub below : Below rows at key
    pub above : (d : ℕ × V) → at < length rows → key < (slice_index_or rows at d).0
