-- The generated content of a number: each byte follows from the number and the byte's place alone.
use Rattle.std.specs.Prelude.{ℕ, ◌+◌, ◌/◌, ◌%◌, List, map}
use Rattle.std.specs.List.{range_with_len}

-- places count from 0
abbrev pub generated_byte : ℕ → ℕ → ℕ
generated_byte number place = (number % 251 + place + place / 4096) % 251

-- the content of this size
unfoldable pub generated_content : ℕ → ℕ → List ℕ
generated_content number size = map (generated_byte number) (range_with_len 0 size)
