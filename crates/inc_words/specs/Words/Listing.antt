-- `list`, and no word behind it
use Rattle.std.specs.Prelude.{List, [], ◌∷◌, ℕ, codes}
use Rattle.inc_words.specs.Command.{Command, Listing, Misfit}

unfoldable pub list_word : List ℕ
list_word = codes "list"

abbrev pub list_end : List (List ℕ) → Command
list_end [] = Listing
list_end (word ∷ words) = Misfit 1
