use Rattle.std.proofs.Common.{◌≡◌, ℕ, List, Option, Some, None, true, false, refl}
use Rattle.inc_words.specs.Words.Make.{id_word}
use Rattle.inc_words.proofs.words.make.id_of.Goals as goal

-- where no id is read there is none
not_read : (told : Option (List ℕ)) → (((id : List ℕ) × (told ≡ Some id)) → false ≡ true) → ◌≡◌ {A = Option (List ℕ)} None told
not_read None read = refl
not_read (Some id) read = absurd (let e : false ≡ true = read (id, refl) in cc)

pub returns-in-Err : goal.returns-in-Err
unfolding id_word
returns-in-Err c = record { value = not_read _ c.in-Err.ensures.ok.1 }
