-- A root that is given from outside, as `--root HEX`. HEX is 64 hex digits of either case.
use Rattle.std.specs.Prelude.{ℕ, ◌+◌, if◌then◌else◌, List, [], ◌∷◌, Option, Some, None, Result, Ok, Err, codes, bytes_eq}
use Rattle.std.specs.Result.{result_ok}
use Rattle.hex.specs.Hex.{decode_sized}

unfoldable pub root_word : List ℕ
root_word = codes "--root"

-- the 32 bytes of 64 hex digits
abbrev pub given_root : List ℕ → Option (List ℕ)
given_root word = result_ok (decode_sized word 32)

abbrev pub root_end : ℕ → List (List ℕ) → Option (List ℕ) → Result (Option (List ℕ)) ℕ
root_end position words None = Err position
root_end position [] (Some root) = Ok (Some root)
root_end position (word ∷ words) (Some root) = Err (position + 1)

abbrev pub root_value : ℕ → List (List ℕ) → Result (Option (List ℕ)) ℕ
root_value position [] = Err position
root_value position (word ∷ words) = root_end position words (given_root word)

-- the words from this position on give a root, or none, or there the first of them that doesn't fit stands
abbrev pub root_words : ℕ → List (List ℕ) → Result (Option (List ℕ)) ℕ
root_words position [] = Ok None
root_words position (word ∷ words) = if bytes_eq word root_word then root_value (position + 1) words else Err position
