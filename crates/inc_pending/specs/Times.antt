-- How long the reads of each user are held back and wait: a map from at most so many uids.
use Rattle.std.specs.Prelude.{ℕ, ◌≤◌, List, length, unwrap_or}
use Rattle.inc_pending.specs.Keyed.{lookup, KeysRise}
use Rattle.inc_pending.specs.declared.timeouts.TheConstants.{MOST_ROWS}
use Rattle.inc_pending.specs.declared.timeouts.Times.{Times}

-- nothing is held back, and a read waits for a second
abbrev pub default_times : Times
default_times = record { least_read = 0; least_pending = 0; most_pending = 1000000 }

abbrev pub times_of : ℕ → List (ℕ × Times) → Times
times_of uid rows = unwrap_or (lookup uid rows) default_times

pub record HoldsTimes (rows : List (ℕ × Times)) : Type 0 where
  pub rise : KeysRise rows
  pub few : length rows ≤ MOST_ROWS
