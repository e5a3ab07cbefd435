-- `check NAME`; then `--root HEX` may stand.
use Rattle.std.specs.Prelude.{ℕ, if◌then◌else◌, List, [], ◌∷◌, Option, Result, Ok, Err, codes}
use Rattle.inc_io.specs.Names.{is_name}
use Rattle.inc_words.specs.Command.{Command, Misfit, Over}
use Rattle.inc_words.specs.Words.Root.{root_words}
use Rattle.inc_words.specs.declared.words.FileCommand.TheVariants.{Check}

unfoldable pub check_word : List ℕ
check_word = codes "check"

abbrev pub check_with : List ℕ → Result (Option (List ℕ)) ℕ → Command
check_with name (Ok root) = Over name (Check root)
check_with name (Err position) = Misfit position

abbrev pub check_name : List (List ℕ) → Command
check_name [] = Misfit 1
check_name (word ∷ words) = if is_name word then check_with word (root_words 2 words) else Misfit 1
