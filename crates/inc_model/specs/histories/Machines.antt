-- What every machine's history does in one step.
use Rattle.std.specs.Prelude.{◌≡◌, ℕ, List, [], ◌∷◌, ◌++◌, Option, Some, None}
use Rattle.inc_model.specs.declared.words.reply.Entry.{Entry}

-- the entries of a step: one, or none where it leaves no trace
abbrev pub added : Option Entry → List Entry
added None = []
added (Some entry) = entry ∷ []

abbrev pub IsOf : ℕ → Option Entry → Type 0
IsOf who None = Unit {0}
IsOf who (Some entry) = entry.who ≡ who

-- at most one entry more, at the end, and of the one who asked
pub record Grows (who : ℕ) (before after : List Entry) : Type 0 where
  pub entry : Option Entry
  pub own : IsOf who entry
  pub joined : after ≡ before ++ added entry
