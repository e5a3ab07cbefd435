-- A fresh file is one to begin from.
use Rattle.std.proofs.Common.{◌≡◌, ℕ, ◌+◌, ◌<◌, true, List, refl, arith}
use Rattle.std.proofs.lemmas.List.Elements.{All-nil}
use Rattle.inc_tree.specs.shape.Geometry.{levels, level_counts, tree_of, data_blocks, hash_blocks}
use Rattle.inc_pending.specs.declared.reads.ReadRow.{ReadRow}
use Rattle.inc_pending.specs.declared.timeouts.Times.{Times}
use Rattle.inc_history.specs.declared.world.TheConstants.{FRESH_SIZE}
use Rattle.inc_model.specs.declared.words.event.Window.{Window}
use Rattle.inc_model.specs.declared.words.file_state.FlightRow.{FlightRow}
use Rattle.inc_model.specs.relation.State.{is_before, IsOpening}
use Rattle.inc_model.specs.relation.Facts.{IsStart}
use Rattle.inc_history.specs.Runs.{fresh_state}
use Rattle.inc_model.proofs.lists.Sets.{pairs_none}

abbrev most : ℕ
most = data_blocks (tree_of FRESH_SIZE) + hash_blocks (tree_of FRESH_SIZE)

pub fresh_start : IsStart fresh_state
unfolding fresh_state levels level_counts
fresh_start = record {
  shape = record { small = omega arith; tree = refl };
  lists = record {
    digests_rise = pairs_none (λ (a b : ℕ × List ℕ). a.0 < b.0);
    begun_rises = pairs_none (λ (a b : ℕ × List ℕ). a.0 < b.0);
    damaged_rises = pairs_none (λ (a b : ℕ). a < b);
    compressed_rises = pairs_none (λ (a b : ℕ). a < b);
    acknowledged_rises = pairs_none (λ (a b : ℕ). a < b);
    times_hold = record { rise = pairs_none (λ (a b : ℕ × Times). a.0 < b.0); few = omega arith };
  };
  claims = pairs_none (λ (a b : Window × ℕ). is_before a.0 b.0 ≡ true);
  once = pairs_none (λ (a b : FlightRow). a.index < b.index);
  indices = record {
    reads_within = All-nil (λ (r : ReadRow). r.block < data_blocks (tree_of FRESH_SIZE));
    digests_within = All-nil (λ (r : ℕ × List ℕ). r.0 < most);
    begun_within = All-nil (λ (r : ℕ × List ℕ). r.0 < most);
    damaged_within = All-nil (λ (i : ℕ). i < most);
    compressed_within = All-nil (λ (i : ℕ). i < most);
    acknowledged_within = All-nil (λ (i : ℕ). i < most);
    flight_within = All-nil (λ (r : FlightRow). r.index < most);
  };
  rising = pairs_none (λ (a b : ReadRow). a.serial < b.serial);
  below = All-nil (λ (r : ReadRow). r.serial < 1);
  serials = omega arith;
  places = omega arith;
}

pub fresh_opening : IsOpening fresh_state
unfolding fresh_state
fresh_opening = record {
  map_rises = pairs_none (λ (a b : ℕ × List ℕ). a.0 < b.0);
  map_within = All-nil (λ (r : ℕ × List ℕ). r.0 < most);
  damaged_rises = pairs_none (λ (a b : ℕ). a < b);
  damaged_within = All-nil (λ (i : ℕ). i < most);
  compressed_rises = pairs_none (λ (a b : ℕ). a < b);
  compressed_within = All-nil (λ (i : ℕ). i < most);
  sound = λ i e. absurd (cc);
  apart = λ i e. absurd (cc);
  acknowledged = refl;
  next = refl;
  no_reads = refl;
  no_times = refl;
  no_flight = refl;
  no_claims = refl;
  none_begun = refl;
  not_failed = refl;
}
