-- Numbers as bytes, the least byte first, as every format of this repository stores them.
use Rattle.std.specs.Prelude.{ℕ, zero, suc, ◌+◌, ◌*◌, ◌/◌, ◌%◌, ◌<◌, List, [], ◌∷◌, length, take, drop, slice_index, Option, Some, None, nat_le, if◌then◌else◌}

-- each item is a byte
abbrev pub AreBytes : List ℕ → Type 0
AreBytes bytes = (i : ℕ) → slice_index bytes i < 256

-- the number that the bytes stand for
abbrev pub le_number : List ℕ → ℕ
le_number [] = 0
le_number (b ∷ bytes) = b + 256 * le_number bytes

-- a number's lowest `count` bytes
unfoldable pub le_bytes : ℕ → ℕ → List ℕ
le_bytes zero n = []
le_bytes (suc count) n = (n % 256) ∷ le_bytes count (n / 256)

-- the number in the `count` bytes from a place on
abbrev pub field : ℕ → ℕ → List ℕ → ℕ
field count at bytes = le_number (take count (drop at bytes))

-- that number, where all its bytes are there
abbrev pub field_at : ℕ → List ℕ → ℕ → Option ℕ
field_at count bytes at = if nat_le (at + count) (length bytes) then Some (field count at bytes) else None
