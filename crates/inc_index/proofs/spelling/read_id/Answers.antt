use Rattle.std.proofs.Common.{◌≡◌, ℕ, List, Option, Some, None, true, false, refl}
use Rattle.inc_index.proofs.spelling.read_id.Goals as goal

-- a text of which no id is read spells none
spells_none : (told : Option (List ℕ)) → (((id : List ℕ) × (told ≡ Some id)) → false ≡ true) → ◌≡◌ {A = Option (List ℕ)} None told
spells_none None read = refl
spells_none (Some id) read = absurd (let e : false ≡ true = read (id, refl) in cc)

pub returns-in-Err : goal.returns-in-Err
returns-in-Err c = record { value = spells_none _ c.in-Err.ensures.ok.1 }
