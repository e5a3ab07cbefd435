-- `read NAME INDEX`. INDEX is a u32; then `--root HEX` or `--unproved` may stand.
use Rattle.std.specs.Prelude.{ℕ, ◌-◌, ◌^◌, true, false, if◌then◌else◌, List, [], ◌∷◌, Option, Some, None, Result, Ok, Err, codes, bytes_eq}
use Rattle.inc_bytes.specs.Decimals.{numeral_of}
use Rattle.inc_io.specs.Names.{is_name}
use Rattle.inc_words.specs.Command.{Command, Misfit, Over}
use Rattle.inc_words.specs.Words.Root.{root_value, root_word}
use Rattle.inc_words.specs.declared.words.FileCommand.TheVariants.{Read}

unfoldable pub read_word : List ℕ
read_word = codes "read"

unfoldable pub unproved_word : List ℕ
unproved_word = codes "--unproved"

abbrev pub read_last : List ℕ → ℕ → List (List ℕ) → Command
read_last name index [] = Over name (Read index None true)
read_last name index (word ∷ words) = Misfit 4

abbrev pub read_with : List ℕ → ℕ → Result (Option (List ℕ)) ℕ → Command
read_with name index (Ok root) = Over name (Read index root false)
read_with name index (Err position) = Misfit position

abbrev pub read_after : List ℕ → ℕ → List (List ℕ) → Command
read_after name index [] = Over name (Read index None false)
read_after name index (word ∷ words) =
    if bytes_eq word root_word then read_with name index (root_value 4 words)
    else if bytes_eq word unproved_word then read_last name index words
    else Misfit 3

abbrev pub read_end : List ℕ → List (List ℕ) → Option ℕ → Command
read_end name words None = Misfit 2
read_end name words (Some index) = read_after name index words

abbrev pub read_index : List ℕ → List (List ℕ) → Command
read_index name [] = Misfit 2
read_index name (word ∷ words) = read_end name words (numeral_of (2 ^ 32 - 1) word)

abbrev pub read_name : List (List ℕ) → Command
read_name [] = Misfit 1
read_name (word ∷ words) = if is_name word then read_index word words else Misfit 1
