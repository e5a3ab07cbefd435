-- `big NAME NUMBER SIZE`. NUMBER and SIZE are u64s.
use Rattle.std.specs.Prelude.{ℕ, ◌-◌, ◌^◌, if◌then◌else◌, List, [], ◌∷◌, Option, Some, None, codes}
use Rattle.inc_bytes.specs.Decimals.{numeral_of}
use Rattle.inc_io.specs.Names.{is_name}
use Rattle.inc_words.specs.Command.{Big, Command, Misfit}

unfoldable pub big_word : List ℕ
big_word = codes "big"

abbrev pub big_last : List ℕ → ℕ → ℕ → List (List ℕ) → Command
big_last name number size [] = Big name number size
big_last name number size (word ∷ words) = Misfit 4

abbrev pub big_with : List ℕ → ℕ → List (List ℕ) → Option ℕ → Command
big_with name number words None = Misfit 3
big_with name number words (Some size) = big_last name number size words

abbrev pub big_size : List ℕ → ℕ → List (List ℕ) → Command
big_size name number [] = Misfit 3
big_size name number (word ∷ words) = big_with name number words (numeral_of (2 ^ 64 - 1) word)

abbrev pub number_given : List ℕ → List (List ℕ) → Option ℕ → Command
number_given name words None = Misfit 2
number_given name words (Some number) = big_size name number words

abbrev pub big_number : List ℕ → List (List ℕ) → Command
big_number name [] = Misfit 2
big_number name (word ∷ words) = number_given name words (numeral_of (2 ^ 64 - 1) word)

abbrev pub big_name : List (List ℕ) → Command
big_name [] = Misfit 1
big_name (word ∷ words) = if is_name word then big_number word words else Misfit 1
