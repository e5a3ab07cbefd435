-- The order in which what is kept was used: the most recently used stands first, and past the room the last one goes.
use Rattle.std.specs.Prelude.{ℕ, List, [], ◌∷◌, ◌++◌, take, nat_eq, Option, Some, None}
use Rattle.std.specs.Map.{lookup, remove_entry}
use Rattle.std.specs.Set.{remove_key}

-- what is kept under a number
abbrev pub kept_at : {V : Type 0} → ℕ → List (ℕ × V) → Option V
kept_at number kept = lookup (nat_eq number) kept

-- after this one was used: it stands first, and what has no room behind it is gone
abbrev pub used_first : {V : Type 0} → ℕ → ℕ → V → List (ℕ × V) → List (ℕ × V)
used_first room number value kept = take room ((number, value) ∷ remove_entry (nat_eq number) kept)

-- after what is kept under this number was used, if anything is
abbrev pub used_again : {V : Type 0} → ℕ → ℕ → Option V → List (ℕ × V) → List (ℕ × V)
used_again room number None kept = kept
used_again room number (Some value) kept = used_first room number value kept

-- those of the numbers that aren't among these
abbrev pub others : List ℕ → List ℕ → List ℕ
others [] numbers = numbers
others (number ∷ used) numbers = remove_key (nat_eq number) (others used numbers)

-- the numbers of what is kept after these were used, the first of them last: they stand in front, and of the others those go that have no room
abbrev pub after_uses : ℕ → List ℕ → List ℕ → List ℕ
after_uses room used numbers = take room (used ++ others used numbers)
