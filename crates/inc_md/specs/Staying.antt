-- Which bytes a chain rests on: those of its records, but for the two counts of the status record, which a fill changes. A file that
-- agrees with another on them and is no shorter has the same chain.
use Rattle.std.specs.Prelude.{◌≡◌, ℕ, ◌+◌, ◌≤◌, Bool, true, false, not, ◌&&◌, nat_le, nat_lt, List, length, slice_index, Option, None, Some, option_map}
use Rattle.std.specs.List.{list_any}
use Rattle.inc_bytes.specs.declared.span.Span.{Span}
use Rattle.inc_md.specs.Outcome.{IsChain}
use Rattle.inc_md.specs.declared.kinds.TheConstants.{COUNTS_SIZE}
use Rattle.inc_md.specs.declared.records.Records.{Records}
use Rattle.inc_md.specs.declared.records.StatusRecord.{StatusRecord}

abbrev pub in_span : ℕ → Span → Bool
in_span place span = nat_le span.at place && nat_lt place (span.at + span.len)

-- the bytes of a status record's two counts
abbrev pub in_counts : Option StatusRecord → ℕ → Bool
in_counts None place = false
in_counts (Some status) place = nat_le status.at place && nat_lt place (status.at + COUNTS_SIZE)

abbrev pub is_chain_byte : Records → ℕ → Bool
is_chain_byte records place = list_any (in_span place) records.spans && not (in_counts records.status place)

abbrev pub AgreesOnChain : Records → List ℕ → List ℕ → Type 0
AgreesOnChain records bytes other = (place : ℕ) → is_chain_byte records place ≡ true → slice_index bytes place ≡ slice_index other place

-- two chains say the same but for the counts
pub record IsSameChain (records other : Records) : Type 0 where
  pub map : other.map ≡ records.map
  pub signature : other.signature ≡ records.signature
  pub status : option_map (λ status. status.at) other.status ≡ option_map (λ status. status.at) records.status
  pub spans : other.spans ≡ records.spans
  pub last : other.last ≡ records.last

-- the other file has such a chain
pub record HasSameChain (bytes : List ℕ) (len first : ℕ) (need_map : Bool) (records : Records) : Type 0 where
  pub found : Records
  pub chain : IsChain bytes len first need_map found
  pub same : IsSameChain records found

abbrev pub ChainStays : Type 0
ChainStays =
    (bytes other : List ℕ) (len more first : ℕ) (need_map : Bool) (records : Records)
    → len ≤ more → len ≤ length bytes → more ≤ length other
    → IsChain bytes len first need_map records → AgreesOnChain records bytes other → HasSameChain other more first need_map records
