-- `ranges NAME START END ROOM`. Each of the three is a u32.
use Rattle.std.specs.Prelude.{ℕ, ◌-◌, ◌^◌, if◌then◌else◌, List, [], ◌∷◌, Option, Some, None, codes}
use Rattle.inc_bytes.specs.Decimals.{numeral_of}
use Rattle.inc_io.specs.Names.{is_name}
use Rattle.inc_words.specs.Command.{Command, Misfit, Over}
use Rattle.inc_words.specs.declared.words.FileCommand.TheVariants.{Ranges}

unfoldable pub ranges_word : List ℕ
ranges_word = codes "ranges"

abbrev pub ranges_last : List ℕ → ℕ → ℕ → ℕ → List (List ℕ) → Command
ranges_last name start end room [] = Over name (Ranges start end room)
ranges_last name start end room (word ∷ words) = Misfit 5

abbrev pub room_given : List ℕ → ℕ → ℕ → List (List ℕ) → Option ℕ → Command
room_given name start end words None = Misfit 4
room_given name start end words (Some room) = ranges_last name start end room words

abbrev pub ranges_room : List ℕ → ℕ → ℕ → List (List ℕ) → Command
ranges_room name start end [] = Misfit 4
ranges_room name start end (word ∷ words) = room_given name start end words (numeral_of (2 ^ 32 - 1) word)

abbrev pub end_given : List ℕ → ℕ → List (List ℕ) → Option ℕ → Command
end_given name start words None = Misfit 3
end_given name start words (Some end) = ranges_room name start end words

abbrev pub ranges_end : List ℕ → ℕ → List (List ℕ) → Command
ranges_end name start [] = Misfit 3
ranges_end name start (word ∷ words) = end_given name start words (numeral_of (2 ^ 32 - 1) word)

abbrev pub start_given : List ℕ → List (List ℕ) → Option ℕ → Command
start_given name words None = Misfit 2
start_given name words (Some start) = ranges_end name start words

abbrev pub ranges_start : List ℕ → List (List ℕ) → Command
ranges_start name [] = Misfit 2
ranges_start name (word ∷ words) = start_given name words (numeral_of (2 ^ 32 - 1) word)

abbrev pub ranges_name : List (List ℕ) → Command
ranges_name [] = Misfit 1
ranges_name (word ∷ words) = if is_name word then ranges_start word words else Misfit 1
