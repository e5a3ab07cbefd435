-- `inspect NAME`
use Rattle.std.specs.Prelude.{if◌then◌else◌, List, [], ◌∷◌, ℕ, codes}
use Rattle.inc_io.specs.Names.{is_name}
use Rattle.inc_words.specs.Command.{Command, Misfit, Over}
use Rattle.inc_words.specs.declared.words.FileCommand.TheVariants.{Inspect}

unfoldable pub inspect_word : List ℕ
inspect_word = codes "inspect"

abbrev pub inspect_end : List ℕ → List (List ℕ) → Command
inspect_end name [] = Over name Inspect
inspect_end name (word ∷ words) = Misfit 2

abbrev pub inspect_name : List (List ℕ) → Command
inspect_name [] = Misfit 1
inspect_name (word ∷ words) = if is_name word then inspect_end word words else Misfit 1
