-- Decimal numbers in a text, as a program's words and a script have them.
use Rattle.std.specs.Prelude.{ℕ, ◌+◌, ◌-◌, ◌*◌, ◌&&◌, nat_le, Bool, if◌then◌else◌, List, [], ◌∷◌, length, Option, Some, None}
use Rattle.std.specs.Str.{all_ascii_digits}

-- 1 to 20 decimal digits
abbrev pub is_numeral : List ℕ → Bool
is_numeral word = nat_le 1 (length word) && nat_le (length word) 20 && all_ascii_digits word

-- the number that digits go on with
abbrev pub numeral_from : ℕ → List ℕ → ℕ
numeral_from value [] = value
numeral_from value (digit ∷ digits) = numeral_from (10 * value + (digit - 48)) digits

-- the number that a word spells, where it is one and at most `most`. Zeros may stand in front.
unfoldable pub numeral_of : ℕ → List ℕ → Option ℕ
numeral_of most word = if is_numeral word then (if nat_le (numeral_from 0 word) most then Some (numeral_from 0 word) else None) else None
