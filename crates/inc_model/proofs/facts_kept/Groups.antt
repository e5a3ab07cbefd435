-- Groups of facts after a change of one list.
use Rattle.std.proofs.Common.{ℕ, ◌+◌, ◌<◌, List}
use Rattle.std.specs.Prelude.{All}
use Rattle.inc_pending.specs.Keyed.{KeysRise}
use Rattle.inc_pending.specs.Times.{HoldsTimes}
use Rattle.inc_pending.specs.declared.reads.ReadRow.{ReadRow}
use Rattle.inc_pending.specs.declared.timeouts.Times.{Times}
use Rattle.inc_model.specs.declared.words.file_state.FlightRow.{FlightRow}
use Rattle.inc_model.specs.declared.words.file_state.FileState.{FileState}
use Rattle.inc_model.specs.relation.State.{Digests, Claims, Rise, WindowsRise}
use Rattle.inc_model.specs.relation.Facts.{ListFacts, IndexFacts, FileFacts, MoreFacts}

module _ {n m : ℕ} {digests begun : Digests} {damaged compressed acknowledged : List ℕ} {reads : List ReadRow} {flight : List FlightRow} (h : IndexFacts n m digests begun damaged compressed acknowledged reads flight) where
  pub within_reads : (other : List ReadRow) → All (λ row. row.block < n) other → IndexFacts n m digests begun damaged compressed acknowledged other flight
  within_reads other w = record {
    reads_within = w;
    digests_within = h.digests_within;
    begun_within = h.begun_within;
    damaged_within = h.damaged_within;
    compressed_within = h.compressed_within;
    acknowledged_within = h.acknowledged_within;
    flight_within = h.flight_within;
  }

  pub within_flight : (other : List FlightRow) → All (λ row. row.index < n + m) other → IndexFacts n m digests begun damaged compressed acknowledged reads other
  within_flight other w = record {
    reads_within = h.reads_within;
    digests_within = h.digests_within;
    begun_within = h.begun_within;
    damaged_within = h.damaged_within;
    compressed_within = h.compressed_within;
    acknowledged_within = h.acknowledged_within;
    flight_within = w;
  }

  pub within_acknowledged : (other : List ℕ) → All (λ index. index < n + m) other → IndexFacts n m digests begun damaged compressed other reads flight
  within_acknowledged other w = record {
    reads_within = h.reads_within;
    digests_within = h.digests_within;
    begun_within = h.begun_within;
    damaged_within = h.damaged_within;
    compressed_within = h.compressed_within;
    acknowledged_within = w;
    flight_within = h.flight_within;
  }

  pub within_begun : (other : Digests) → All (λ row. row.0 < n + m) other → IndexFacts n m digests other damaged compressed acknowledged reads flight
  within_begun other w = record {
    reads_within = h.reads_within;
    digests_within = h.digests_within;
    begun_within = w;
    damaged_within = h.damaged_within;
    compressed_within = h.compressed_within;
    acknowledged_within = h.acknowledged_within;
    flight_within = h.flight_within;
  }

  pub within_digests : (other : Digests) → All (λ row. row.0 < n + m) other → IndexFacts n m other begun damaged compressed acknowledged reads flight
  within_digests other w = record {
    reads_within = h.reads_within;
    digests_within = w;
    begun_within = h.begun_within;
    damaged_within = h.damaged_within;
    compressed_within = h.compressed_within;
    acknowledged_within = h.acknowledged_within;
    flight_within = h.flight_within;
  }

module _ {digests begun : Digests} {damaged compressed acknowledged : List ℕ} {times : List (ℕ × Times)} (h : ListFacts digests begun damaged compressed acknowledged times) where
  pub rising_begun : (other : Digests) → KeysRise other → ListFacts digests other damaged compressed acknowledged times
  rising_begun other r = record {
    digests_rise = h.digests_rise;
    begun_rises = r;
    damaged_rises = h.damaged_rises;
    compressed_rises = h.compressed_rises;
    acknowledged_rises = h.acknowledged_rises;
    times_hold = h.times_hold;
  }

  pub rising_digests : (other : Digests) → KeysRise other → ListFacts other begun damaged compressed acknowledged times
  rising_digests other r = record {
    digests_rise = r;
    begun_rises = h.begun_rises;
    damaged_rises = h.damaged_rises;
    compressed_rises = h.compressed_rises;
    acknowledged_rises = h.acknowledged_rises;
    times_hold = h.times_hold;
  }

  pub rising_acknowledged : (other : List ℕ) → Rise other → ListFacts digests begun damaged compressed other times
  rising_acknowledged other r = record {
    digests_rise = h.digests_rise;
    begun_rises = h.begun_rises;
    damaged_rises = h.damaged_rises;
    compressed_rises = h.compressed_rises;
    acknowledged_rises = r;
    times_hold = h.times_hold;
  }

  pub holding_times : (other : List (ℕ × Times)) → HoldsTimes other → ListFacts digests begun damaged compressed acknowledged other
  holding_times other t = record {
    digests_rise = h.digests_rise;
    begun_rises = h.begun_rises;
    damaged_rises = h.damaged_rises;
    compressed_rises = h.compressed_rises;
    acknowledged_rises = h.acknowledged_rises;
    times_hold = t;
  }

pub with_claims : (first s : FileState) (claimed : Claims) → MoreFacts first s → WindowsRise claimed → MoreFacts first (record s { claimed = claimed })
with_claims first s claimed m w = record { same = m.same; fills = m.fills; lists = m.lists; indices = m.indices; claims = w; kept = m.kept; apart = m.apart }

-- the claimed places don't matter to the others
pub claims_apart : (first s : FileState) (claimed : Claims) → FileFacts first s → FileFacts first (record s { claimed = claimed })
claims_apart first s claimed f = record { read = f.read; opened = f.opened; flying = f.flying }
