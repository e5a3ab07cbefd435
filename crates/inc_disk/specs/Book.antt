-- The entries behind a shelf in memory, and how its own calls fail.
use Rattle.std.specs.Prelude.{◌≡◌, ℕ, suc, if◌then◌else◌, Bool, false, true, List, [], ◌∷◌, ◌++◌, Some, Result, Ok, Err}
use Rattle.std.specs.Ordering.{nat_cmp, is_gt}
use Rattle.std.specs.Cmp.Lexicographic.{slice_cmp}
use Rattle.std.specs.FinMap.Entries.{by_order}
use Rattle.inc_io.specs.declared.failed.LendFault.{LendFault}
use Rattle.inc_io.specs.declared.failed.LendFault.TheVariants.{Failed, OutOfMemory}
use Rattle.inc_disk.specs.Log.{Log, entries_of}
use Rattle.inc_disk.specs.declared.entry.Entry.{Entry}
use Rattle.inc_disk.specs.declared.memory_disk.MemDisk.{MemDisk}

-- The entries stand oldest first, each with the states that its file came to while its disk was lent.
abbrev pub log_after : Log → List Entry → Log
log_after log [] = log
log_after log (entry ∷ entries) = log_after (entries_of entry.name entry.history ++ log) entries

abbrev pub log_of : List Entry → Log
log_of entries = log_after [] entries

-- a list of names in byte order, with this one
abbrev pub with_name : List ℕ → List (List ℕ) → List (List ℕ)
with_name name [] = name ∷ []
with_name name (other ∷ names) = by_order (slice_cmp nat_cmp name other) (name ∷ other ∷ names) (other ∷ names) (other ∷ with_name name names)

-- how many of the names that stand first are below this one
abbrev pub place_among : List ℕ → List (List ℕ) → ℕ
place_among name [] = 0
place_among name (other ∷ names) = if is_gt (slice_cmp nat_cmp name other) then suc (place_among name names) else 0

abbrev pub is_failed : {T : Type 0} → Result T LendFault → Bool
is_failed (Ok lent) = false
is_failed (Err Failed) = true
is_failed (Err OutOfMemory) = false

-- a disk that was just lent: it fails past so many bytes and past so many calls, of which none was made
pub record IsFresh (room calls : ℕ) (disk : MemDisk) : Type 0 where
  pub room_is : disk.room ≡ room
  pub limit : disk.limit ≡ Some calls
  pub failing : disk.schedule.failing.items ≡ []
  pub made : disk.schedule.made ≡ 0
