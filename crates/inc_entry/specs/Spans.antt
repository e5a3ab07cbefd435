-- Ranges of bytes: inside a file, and with no byte in common. An empty range is inside every file and meets nothing, wherever it stands.
use Rattle.std.specs.Prelude.{ℕ, ◌+◌, ◌<◌, ◌≤◌, Bool, true, ◌&&◌, ◌||◌, ◌==◌, nat_le, nat_lt, List, [], ◌∷◌, All}
use Rattle.std.specs.List.{list_all, list_any}
use Rattle.inc_bytes.specs.declared.span.Span.{Span}

-- in words: no byte lies in both
abbrev pub IsDisjoint : Span → ℕ → ℕ → Type 0
IsDisjoint span at len = (j : ℕ) → span.at ≤ j → j < span.at + span.len → at ≤ j → j < at + len → ⊥

-- the same as a test
unfoldable pub misses : Span → ℕ → ℕ → Bool
misses span at len = ((span.len == 0) || (len == 0)) || (nat_le (at + len) span.at || nat_le (span.at + span.len) at)

-- the range meets none of the spans
abbrev pub IsClear : List Span → ℕ → ℕ → Type 0
IsClear spans at len = All (λ span. IsDisjoint span at len) spans

abbrev pub is_clear : List Span → ℕ → ℕ → Bool
is_clear spans at len = list_all (λ span. misses span at len) spans

-- no byte lies in two of these spans
abbrev pub AreApart : List Span → Type 0
AreApart [] = Unit {0}
AreApart (span ∷ spans) = IsClear spans span.at span.len × AreApart spans

abbrev pub are_apart : List Span → Bool
are_apart [] = true
are_apart (span ∷ spans) = is_clear spans span.at span.len && are_apart spans

-- the span ends inside a file of so many bytes
abbrev pub IsInside : ℕ → Span → Type 0
IsInside len span = 0 < span.len → span.at + span.len ≤ len

abbrev pub is_inside : ℕ → Span → Bool
is_inside len span = (span.len == 0) || nat_le (span.at + span.len) len

-- the byte at a place lies in one of these spans
abbrev pub in_spans : List Span → ℕ → Bool
in_spans spans place = list_any (λ span. nat_le span.at place && nat_lt place (span.at + span.len)) spans
