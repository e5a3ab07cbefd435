-- What the executed core keeps of its state, from whatever start: enough that its numbers fit and that its questions have answers.
use Rattle.std.specs.Prelude.{ℕ, ◌+◌, ◌^◌, ◌<◌, ◌≤◌, length, All}
use Rattle.inc_pending.specs.Polling.{AreRising}
use Rattle.inc_model.specs.declared.words.limits.TheConstants.{FIRST_SERIALS, MOST_BLOCKS, MOST_DATA_BLOCKS, MOST_ENTRIES}
use Rattle.inc_model.specs.declared.words.file_state.FileState.{FileState}
use Rattle.inc_model.specs.relation.State.{all_places, Rise}

pub record IsWorkable (s : FileState) : Type 0 where
  pub small : s.n ≤ MOST_DATA_BLOCKS
  pub total : s.n + s.m ≤ MOST_BLOCKS
  pub rising : AreRising s.reads
  pub within : All (λ row. row.block < s.n) s.reads
  pub waiting : length s.reads < 2 ^ 32
  pub there : length s.map < 2 ^ 32
  pub places : all_places s.claimed ≤ MOST_ENTRIES
  pub damaged_rises : Rise s.damaged
  pub compressed_rises : Rise s.compressed
  pub flying : All (λ row. row.index < s.n + s.m) s.flight

-- after so many entries: each adds at most one read and one open index
pub record IsHeld (at : ℕ) (s : FileState) : Type 0 where
  pub small : s.n ≤ MOST_DATA_BLOCKS
  pub total : s.n + s.m ≤ MOST_BLOCKS
  pub rising : AreRising s.reads
  pub within : All (λ row. row.block < s.n) s.reads
  pub below : All (λ row. row.serial < s.next) s.reads
  pub waiting : length s.reads ≤ s.next
  pub serials : s.next ≤ FIRST_SERIALS + at
  pub there : length s.map ≤ MOST_BLOCKS + at
  pub limit : at + all_places s.claimed ≤ MOST_ENTRIES
  pub damaged_rises : Rise s.damaged
  pub compressed_rises : Rise s.compressed
  pub flying : All (λ row. row.index < s.n + s.m) s.flight
