-- What a program's words name: a command, or the position of the first word that fits none.
use Rattle.std.specs.Prelude.{ℕ, Bool, List}
use Rattle.inc_words.specs.declared.words.FileCommand.{FileCommand}

-- of a make whether the file is unsigned; of a big file the number of its content and its size; a command over one file that only reads; the
-- listing of all names; and words that fit no command
pub data Command : Type 0 where
  Make : List ℕ → ℕ → List ℕ → Bool → Command
  Fill : List ℕ → Command
  Big : List ℕ → ℕ → ℕ → Command
  Over : List ℕ → FileCommand → Command
  Listing : Command
  Misfit : ℕ → Command
