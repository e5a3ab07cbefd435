-- A mapped file: it has no blocks of its own, and shows a part of its original's content, from an offset at a block's start on.
use Rattle.std.specs.Prelude.{◌≡◌, ℕ, ◌+◌, ◌-◌, ◌*◌, ◌/◌, ◌<◌, ◌≤◌, ◌↔◌, min, nat_lt, if◌then◌else◌, Option, Some, None}
use Rattle.inc_header.specs.Header.{place_of}
use Rattle.inc_header.specs.declared.header.Header.{Header}
use Rattle.inc_header.specs.declared.header.HeaderKind.{HeaderKind}
use Rattle.inc_header.specs.declared.header.HeaderKind.TheVariants.{Plain, Mapped}

-- which bytes of the original are shown: so many from an offset on
pub record Mapping : Type 0 where
  pub offset : ℕ
  pub size : ℕ

abbrev pub IsMappedKind : HeaderKind → Type 0
IsMappedKind (Plain first) = ⊥
IsMappedKind (Mapped offset) = Unit {0}

-- what a mapped file's header says
abbrev pub mapping_of : Header → Mapping
mapping_of header = record { offset = place_of header.kind; size = header.size }

-- ---- in words

-- A block of the mapped file shows the front of a block of its original, which is given by its number and by how many bytes of it are shown.
pub record ShowsPart (mapping : Mapping) (index : ℕ) (shown : ℕ × ℕ) : Type 0 where
  -- both blocks begin at the same byte of the original
  pub begins : 4096 * shown.0 ≡ mapping.offset + 4096 * index
  -- of the block's bytes those are shown that the mapped file has, and there are some
  pub each : (byte : ℕ) → byte < 4096 → (byte < shown.1) ↔ (4096 * index + byte < mapping.size)
  pub some : 0 < shown.1
  pub most : shown.1 ≤ 4096

-- ---- the same as a function

abbrev pub part_shown : Mapping → ℕ → Option (ℕ × ℕ)
part_shown mapping index =
    if nat_lt (4096 * index) mapping.size then Some (mapping.offset / 4096 + index, min 4096 (mapping.size - 4096 * index)) else None
