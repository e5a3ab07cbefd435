-- What a disk has its file do: the calls that wrote a piece, and those that settled it.
use Rattle.std.specs.Prelude.{◌≡◌, ◌+◌, ℕ, List, [], ◌∷◌, ◌++◌, length, take, Option, Some, IfSome, Result, Ok, Err, option_map}
use Rattle.inc_real.specs.declared.file.FileCall.{FileCall}
use Rattle.inc_real.specs.declared.file.FileCall.TheVariants.{Wrote, SyncedAll}

-- one call more, where it was done
abbrev pub Took : {E : Type 0} → ℕ → List ℕ → Option (List FileCall) → Option (List FileCall) → Result ℕ E → Type 0
Took at piece before after (Ok count) = after ≡ option_map (λ calls. calls ++ Wrote at (take count piece) ∷ []) before
Took at piece before after (Err error) = after ≡ before

abbrev pub Synced : {T E : Type 0} → Option (List FileCall) → Option (List FileCall) → Result T E → Type 0
Synced before after (Ok done) = after ≡ option_map (λ calls. calls ++ SyncedAll ∷ []) before
Synced before after (Err error) = after ≡ before

-- these calls wrote the piece from a place on, one front after the other, and nothing else
abbrev pub AreWritesOf : ℕ → List ℕ → List FileCall → Type 0
AreWritesOf at piece [] = piece ≡ []
AreWritesOf at piece (Wrote place front ∷ calls) = (place ≡ at) × ((rest : List ℕ) × (piece ≡ front ++ rest) × AreWritesOf (at + length front) rest calls)
AreWritesOf at piece (SyncedAll ∷ calls) = ⊥

-- a file that told its calls has done those of this piece besides
abbrev pub HasWritten : ℕ → List ℕ → Option (List FileCall) → Option (List FileCall) → Type 0
HasWritten at piece before after = IfSome before (λ calls. (more : List FileCall) × (after ≡ Some (calls ++ more)) × AreWritesOf at piece more)
