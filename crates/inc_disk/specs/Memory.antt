-- The disk in memory: what it keeps, and the record of its writes and syncs from which its earlier states are known.
use Rattle.std.specs.Prelude.{◌≡◌, ◌==◌, ◌||◌, ℕ, nat_le, Bool, false, List, [], ◌∷◌, Option, None, Some, Vec}
use Rattle.std.specs.Option.{unwrap_or}
use Rattle.std.specs.List.{list_any}
use Rattle.std.specs.declared.alloc.Global.{Global}
use Rattle.inc_io.specs.declared.memory.schedule.Schedule.{Schedule}
use Rattle.inc_disk.specs.Disk.{DiskState, touched, overwritten, settled}
use Rattle.inc_disk.specs.declared.history.Call.{Call}
use Rattle.inc_disk.specs.declared.history.Call.TheVariants.{Wrote, Synced, NotSynced}
use Rattle.inc_disk.specs.declared.history.History.TheInside.{Inside as HistoryInside}
use Rattle.inc_disk.specs.declared.state.State.TheInside.{Inside as StateInside}

-- while nothing is kept back, the bytes of the last sync are those that a read gives
abbrev pub synced_of : List ℕ → Option (Vec ℕ Global) → List ℕ
synced_of reads None = reads
synced_of reads (Some synced) = synced.items

abbrev pub state_of : StateInside → DiskState
state_of s = record {
  reads = s.reads.items;
  synced = synced_of s.reads.items s.synced;
  dirty = s.dirty.items;
  longest = s.longest;
}

-- Of a write, the record keeps its range and the front of it that got through.
abbrev pub after : Call → List DiskState → List DiskState
after call [] = []
after (Wrote at count front) (disk ∷ past) = touched at count (overwritten at front disk.reads) disk ∷ (disk ∷ past)
after Synced (disk ∷ past) = settled disk.reads ∷ (disk ∷ past)
after NotSynced (disk ∷ past) = disk ∷ (disk ∷ past)

-- the states before these calls, oldest first, and after them
abbrev pub replay : List DiskState → List Call → List DiskState
replay states [] = states
replay states (call ∷ calls) = replay (after call states) calls

-- the first state, or the present one where none was kept yet
abbrev pub history_of : Option DiskState → DiskState → List Call → List DiskState
history_of first state calls = replay (unwrap_or first state ∷ []) calls

-- the record ends in the present state
pub record IsRecorded (history : HistoryInside) : Type 0 where
  pub past : List DiskState
  pub ends : history_of history.first history.state history.calls.items ≡ history.state ∷ past

-- the calls from this one on fail
abbrev pub is_past_limit : Option ℕ → ℕ → Bool
is_past_limit None made = false
is_past_limit (Some limit) made = nat_le limit made

-- whether the next call is to fail
abbrev pub is_to_fail : Schedule → Option ℕ → Bool
is_to_fail schedule limit = list_any (λ number. number == schedule.made) schedule.failing.items || is_past_limit limit schedule.made
