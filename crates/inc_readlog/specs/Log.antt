-- A log of the last reads that ended, oldest first, and the count of those that were lost.
use Rattle.std.specs.Prelude.{◌≡◌, ℕ, ◌+◌, ◌-◌, ◌^◌, List, [], ◌∷◌, ◌++◌, length, drop, min, nat_lt, if◌then◌else◌}
use Rattle.inc_readlog.specs.declared.entry.LogEntry.{LogEntry}

pub record LoggedReads : Type 0 where
  -- how many entries it may have
  pub room : ℕ
  pub entries : List LogEntry
  pub lost : ℕ

abbrev pub empty_log : ℕ → LoggedReads
empty_log room = record { room = room; entries = []; lost = 0 }

-- the last of them, as many as there are at most
abbrev pub the_last : ℕ → List LogEntry → List LogEntry
the_last count entries = drop (length entries - count) entries

-- one more read: past the room the oldest is lost, and the count of those stops at the greatest number
abbrev pub logged : LoggedReads → LogEntry → LoggedReads
logged log entry = record {
  room = log.room;
  entries = the_last log.room (log.entries ++ entry ∷ []);
  lost = (if nat_lt (length log.entries) log.room then log.lost else min (log.lost + 1) (2 ^ 64 - 1));
}

-- the log of a list of reads has its last ones, and counts the others
pub record Tells (all : List LogEntry) (log : LoggedReads) : Type 0 where
  pub last : log.entries ≡ the_last log.room all
  pub others : log.lost ≡ min (length all - log.room) (2 ^ 64 - 1)
