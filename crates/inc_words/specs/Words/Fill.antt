-- `fill NAME`
use Rattle.std.specs.Prelude.{if◌then◌else◌, List, [], ◌∷◌, ℕ, codes}
use Rattle.inc_io.specs.Names.{is_name}
use Rattle.inc_words.specs.Command.{Command, Fill, Misfit}

unfoldable pub fill_command : List ℕ
fill_command = codes "fill"

abbrev pub fill_end : List ℕ → List (List ℕ) → Command
fill_end name [] = Fill name
fill_end name (word ∷ words) = Misfit 2

abbrev pub fill_name : List (List ℕ) → Command
fill_name [] = Misfit 1
fill_name (word ∷ words) = if is_name word then fill_end word words else Misfit 1
