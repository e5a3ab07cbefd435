-- The bytes that the fixed part of a file rests on: header, records and signature blob, but for the two counts of the status record. A fill
-- writes none of them. A file that agrees with another on them and is no shorter has the same fixed part.
use Rattle.std.specs.Prelude.{◌≡◌, ℕ, ◌≤◌, Bool, true, not, ◌&&◌, List, length, slice_index}
use Rattle.inc_md.specs.Staying.{in_counts, IsSameChain}
use Rattle.inc_entry.specs.Spans.{in_spans}
use Rattle.inc_layout.specs.fixed.Fixed.{Fixed, IsFixed, most_length}

abbrev pub is_fixed_byte : Fixed → ℕ → Bool
is_fixed_byte fixed place = in_spans fixed.places.spans place && not (in_counts fixed.records.status place)

abbrev pub AgreesOnFixed : Fixed → List ℕ → List ℕ → Type 0
AgreesOnFixed fixed bytes other = (place : ℕ) → is_fixed_byte fixed place ≡ true → slice_index bytes place ≡ slice_index other place

-- two fixed parts are the same but for the counts
pub record IsSameFixed (fixed other : Fixed) : Type 0 where
  pub header : other.header ≡ fixed.header
  pub records : IsSameChain fixed.records other.records
  pub sig : other.sig ≡ fixed.sig
  pub places : other.places ≡ fixed.places

-- the other file has such a part
pub record HasSameFixed (bytes : List ℕ) (fixed : Fixed) : Type 0 where
  pub found : Fixed
  pub stands : IsFixed bytes found
  pub same : IsSameFixed fixed found

abbrev pub FixedStays : Type 0
FixedStays =
    (bytes other : List ℕ) (fixed : Fixed) → IsFixed bytes fixed → AgreesOnFixed fixed bytes other → length bytes ≤ length other → length other ≤ most_length
    → HasSameFixed other fixed
