-- What the reading of words answers.
use Rattle.std.specs.Prelude.{◌≡◌, ℕ, List, Option, Result, Ok, Err}
use Rattle.inc_words.specs.Command as words
use Rattle.inc_words.specs.declared.words.Command.{Command}
use Rattle.inc_words.specs.declared.words.Command.TheVariants.{Big, Make, Fill, Over, Listing}
use Rattle.inc_words.specs.declared.words.WordsFault.{WordsFault}
use Rattle.inc_words.specs.declared.words.WordsFault.TheVariants.{Bad, OutOfMemory}

-- the command that was read
abbrev pub named : Command → words.Command
named (Make name size id unsigned) = words.Make name size id unsigned
named (Fill name) = words.Fill name
named (Big name number size) = words.Big name number size
named (Over name command) = words.Over name command
named Listing = words.Listing

-- the result is this command, or want of memory
abbrev pub Reads : words.Command → Result Command WordsFault → Type 0
Reads command (Ok read) = command ≡ named read
Reads command (Err (Bad at)) = command ≡ words.Misfit at
Reads command (Err OutOfMemory) = Unit {0}

-- the result is this root, or none
abbrev pub ReadsRoot : Result (Option (List ℕ)) ℕ → Result (Option (List ℕ)) WordsFault → Type 0
ReadsRoot wanted (Ok root) = wanted ≡ Ok root
ReadsRoot wanted (Err (Bad at)) = wanted ≡ Err at
ReadsRoot wanted (Err OutOfMemory) = ⊥
