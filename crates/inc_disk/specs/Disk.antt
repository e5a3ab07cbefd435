-- What a disk reads as, and what a crash may leave of it.
--
-- Between two syncs a disk may keep back what was written: until the next sync that succeeds, a crash leaves any bytes in each
-- range that was written, all other bytes as the last sync left them, and any length from the synced one to the greatest that was reached.
use Rattle.std.specs.Prelude.{◌≡◌, ◌⊎◌, ◌+◌, ◌<◌, ◌≤◌, ◌&&◌, ℕ, suc, max, nat_le, nat_lt, Bool, false, List, [], ◌∷◌, ◌++◌, length, take, drop, slice_index, Option, None, Some, Result, Ok, Err}
use Rattle.std.specs.List.{list_any}

-- A state of a disk. A range is its first place and the place after its last.
pub record DiskState : Type 0 where
  pub reads : List ℕ
  pub synced : List ℕ
  -- the ranges written since the last sync, newest first
  pub dirty : List (ℕ × ℕ)
  -- the greatest length reached since then
  pub longest : ℕ

abbrev pub in_range : ℕ → ℕ × ℕ → Bool
in_range place range = nat_le range.0 place && nat_lt place range.1

abbrev pub is_dirty : List (ℕ × ℕ) → ℕ → Bool
is_dirty ranges place = list_any (in_range place) ranges

-- a crash in this state may leave these bytes
pub record IsImage (disk : DiskState) (image : List ℕ) : Type 0 where
  pub no_shorter : length disk.synced ≤ length image
  pub no_longer : length image ≤ disk.longest
  pub outside : (place : ℕ) → place < length image → is_dirty disk.dirty place ≡ false
      → (place < length disk.synced) × (slice_index image place ≡ slice_index disk.synced place)

-- what a disk reads as is one of its images
abbrev pub IsSound : DiskState → Type 0
IsSound disk = IsImage disk disk.reads

-- The states that a disk has been in, newest first. Its moment is how many they are. A disk that tells nothing has none.
abbrev pub Now : List DiskState → (DiskState → Type 0) → Type 0
Now [] P = Unit {0}
Now (disk ∷ past) P = P disk

abbrev pub SoundNow : List DiskState → Type 0
SoundNow states = (disk : DiskState) (past : List DiskState) → states ≡ disk ∷ past → IsSound disk

abbrev pub reads_of : List DiskState → Option (List ℕ)
reads_of [] = None
reads_of (disk ∷ past) = Some disk.reads

-- a crash at this moment or later might have left these bytes
abbrev pub MayHaveLeft : ℕ → List DiskState → List ℕ → Type 0
MayHaveLeft moment [] image = ⊥
MayHaveLeft moment (disk ∷ past) image = ((moment ≤ suc (length past)) × IsImage disk image) ⊎ MayHaveLeft moment past image

-- the bytes with this piece written over them, from a place within them on
abbrev pub overwritten : ℕ → List ℕ → List ℕ → List ℕ
overwritten at piece bytes = take at bytes ++ piece ++ drop (at + length piece) bytes

-- A write of this many bytes has stopped part way: the range holds any bytes, and the length is the old one, the range's end or between.
pub record IsTorn (at count : ℕ) (old new : List ℕ) : Type 0 where
  pub no_shorter : length old ≤ length new
  pub no_longer : length new ≤ max (length old) (at + count)
  pub before : (place : ℕ) → place < at → slice_index new place ≡ slice_index old place
  pub after : (place : ℕ) → at + count ≤ place → slice_index new place ≡ slice_index old place

-- the state after a write to this range, whole or torn, by which the disk reads so
abbrev pub touched : ℕ → ℕ → List ℕ → DiskState → DiskState
touched at count bytes disk = record {
  reads = bytes;
  synced = disk.synced;
  dirty = (at, at + count) ∷ disk.dirty;
  longest = max disk.longest (at + count);
}

-- the state after a sync: nothing is kept back
abbrev pub settled : List ℕ → DiskState
settled bytes = record { reads = bytes; synced = bytes; dirty = []; longest = length bytes }

-- a write: done, not begun, or torn
abbrev pub Writes : {T E : Type 0} → ℕ → List ℕ → List DiskState → List DiskState → Result T E → Type 0
Writes at piece [] new result = new ≡ []
Writes at piece (disk ∷ past) new (Ok done) = new ≡ touched at (length piece) (overwritten at piece disk.reads) disk ∷ (disk ∷ past)
Writes at piece (disk ∷ past) new (Err fault) =
    (new ≡ disk ∷ past)
    ⊎ ((bytes : List ℕ) × IsTorn at (length piece) disk.reads bytes × (new ≡ touched at (length piece) bytes disk ∷ (disk ∷ past)))

-- a sync: done, or nothing is settled
abbrev pub Syncs : {T E : Type 0} → List DiskState → List DiskState → Result T E → Type 0
Syncs [] new result = new ≡ []
Syncs (disk ∷ past) new (Ok done) = new ≡ settled disk.reads ∷ (disk ∷ past)
Syncs (disk ∷ past) new (Err fault) = (new ≡ disk ∷ past) ⊎ (new ≡ disk ∷ (disk ∷ past))
