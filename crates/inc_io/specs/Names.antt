-- Which bytes name a file, and lists of names.
use Rattle.std.specs.Prelude.{◌==◌, ℕ, Bool, not, ◌&&◌, nat_le, if◌then◌else◌, IsTrue, List, [], ◌∷◌, length}
use Rattle.std.specs.List.{list_all}
use Rattle.std.specs.Str.{is_utf8, bytes_eq}

-- no slash, no blank and no control byte
abbrev pub is_name_byte : ℕ → Bool
is_name_byte byte = nat_le 0x21 byte && not (byte == 47)

-- one or two dots name a folder
abbrev pub is_here : List ℕ → Bool
is_here bytes = bytes_eq bytes (46 ∷ [])

abbrev pub is_above : List ℕ → Bool
is_above bytes = bytes_eq bytes (46 ∷ 46 ∷ [])

-- 1 to 255 bytes of UTF-8
unfoldable pub is_name : List ℕ → Bool
is_name bytes =
    nat_le 1 (length bytes) && nat_le (length bytes) 255 && list_all is_name_byte bytes && is_utf8 bytes
    && not (is_here bytes) && not (is_above bytes)

abbrev pub IsName : List ℕ → Type 0
IsName bytes = IsTrue (is_name bytes)

-- the names but this one
abbrev pub without : List ℕ → List (List ℕ) → List (List ℕ)
without name [] = []
without name (other ∷ names) = if bytes_eq name other then without name names else other ∷ without name names
