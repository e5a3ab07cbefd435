-- The words of a command, a file a command. Words that fit no row are refused by the position of the first that doesn't fit, or by their number
-- where more are needed.
--
--     make NAME SIZE ID     then `--unsigned` may stand
--     fill NAME
--     read NAME INDEX       then `--root HEX` or `--unproved` may stand
--     check NAME            then `--root HEX` may stand
--     inspect NAME
--     ranges NAME START END ROOM
--     list
--     big NAME NUMBER SIZE
use Rattle.std.specs.Prelude.{ℕ, if◌then◌else◌, List, [], ◌∷◌, bytes_eq, map}
use Rattle.std.specs.String.{string_bytes}
use Rattle.std.specs.declared.alloc.Global.{Global}
use Rattle.std.specs.declared.string.String.{String}
use Rattle.inc_words.specs.Command.{Command, Misfit}
use Rattle.inc_words.specs.Words.Big.{big_name, big_word}
use Rattle.inc_words.specs.Words.Check.{check_name, check_word}
use Rattle.inc_words.specs.Words.Fill.{fill_command, fill_name}
use Rattle.inc_words.specs.Words.Inspect.{inspect_name, inspect_word}
use Rattle.inc_words.specs.Words.Listing.{list_end, list_word}
use Rattle.inc_words.specs.Words.Make.{make_name, make_word}
use Rattle.inc_words.specs.Words.Ranges.{ranges_name, ranges_word}
use Rattle.inc_words.specs.Words.Read.{read_name, read_word}
pub mod Big
pub mod Check
pub mod Fill
pub mod Inspect
pub mod Listing
pub mod Make
pub mod Ranges
pub mod Read
pub mod Root

abbrev pub command_of : List (List ℕ) → Command
command_of [] = Misfit 0
command_of (word ∷ words) =
    if bytes_eq word make_word then make_name words
    else if bytes_eq word fill_command then fill_name words
    else if bytes_eq word read_word then read_name words
    else if bytes_eq word check_word then check_name words
    else if bytes_eq word inspect_word then inspect_name words
    else if bytes_eq word ranges_word then ranges_name words
    else if bytes_eq word list_word then list_end words
    else if bytes_eq word big_word then big_name words
    else Misfit 0

-- the command that a program's words name
abbrev pub command_in : List (String Global) → Command
command_in words = command_of (map (λ word. string_bytes word) words)
