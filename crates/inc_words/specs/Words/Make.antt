-- `make NAME SIZE ID`. SIZE is a u64, ID a UUID in one of its text forms; then `--unsigned` may stand.
use Rattle.std.specs.Prelude.{ℕ, ◌-◌, ◌^◌, true, false, if◌then◌else◌, List, [], ◌∷◌, Option, Some, None, codes, bytes_eq}
use Rattle.uuid.specs.Text.{parsed}
use Rattle.inc_bytes.specs.Decimals.{numeral_of}
use Rattle.inc_io.specs.Names.{is_name}
use Rattle.inc_words.specs.Command.{Command, Make, Misfit}

unfoldable pub make_word : List ℕ
make_word = codes "make"

-- the 16 bytes of a UUID in one of its text forms
unfoldable pub id_word : List ℕ → Option (List ℕ)
id_word word = parsed word

unfoldable pub unsigned_word : List ℕ
unsigned_word = codes "--unsigned"

abbrev pub make_last : List ℕ → ℕ → List ℕ → List (List ℕ) → Command
make_last name size id [] = Make name size id true
make_last name size id (word ∷ words) = Misfit 5

abbrev pub make_after : List ℕ → ℕ → List ℕ → List (List ℕ) → Command
make_after name size id [] = Make name size id false
make_after name size id (word ∷ words) = if bytes_eq word unsigned_word then make_last name size id words else Misfit 4

abbrev pub make_end : List ℕ → ℕ → List (List ℕ) → Option (List ℕ) → Command
make_end name size words None = Misfit 3
make_end name size words (Some id) = make_after name size id words

abbrev pub make_id : List ℕ → ℕ → List (List ℕ) → Command
make_id name size [] = Misfit 3
make_id name size (word ∷ words) = make_end name size words (id_word word)

abbrev pub make_with : List ℕ → List (List ℕ) → Option ℕ → Command
make_with name words None = Misfit 2
make_with name words (Some size) = make_id name size words

abbrev pub make_size : List ℕ → List (List ℕ) → Command
make_size name [] = Misfit 2
make_size name (word ∷ words) = make_with name words (numeral_of (2 ^ 64 - 1) word)

abbrev pub make_name : List (List ℕ) → Command
make_name [] = Misfit 1
make_name (word ∷ words) = if is_name word then make_size word words else Misfit 1
