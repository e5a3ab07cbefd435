-- What an event does on the file's disk: at most one write or one sync, of just these bytes at this place.
use Rattle.std.specs.Prelude.{◌≡◌, ℕ, ◌+◌, ◌^◌, ◌≤◌, List, [], ◌∷◌, length, Result, Ok, Err}
use Rattle.inc_bytes.specs.Fields.{le_bytes}
use Rattle.inc_entry.specs.Entry.{Places, area_places, entry_at}
use Rattle.inc_disk.specs.Disk.{DiskState, Now, Syncs, Writes}
use Rattle.inc_fill.specs.Steps.{IsFreePlace}
use Rattle.inc_layout.specs.declared.opened.Opened.{Opened}
use Rattle.inc_model.specs.declared.words.event.Event.{Event}
use Rattle.inc_model.specs.declared.words.event.Event.TheVariants.{Ask, Poll, Cancel, Claim, PutData, PutPlace, Settle, Gate, Release, TakePending, SetTimes, Ranges, Count, Leave}
use Rattle.inc_model.specs.declared.words.reply.Reply.{Reply}
use Rattle.inc_model.specs.declared.words.reply.Reply.TheVariants.{Fault, Put, Placed, Settled, Gated}

-- a call of the disk that was done, and one that failed
abbrev pub device_done : Result (Unit {0}) (Unit {0})
device_done = Ok tt

abbrev pub device_failed : Result (Unit {0}) (Unit {0})
device_failed = Err tt

-- a data block is put at the file's end, a hash block at its place in the tree
pub record IsPlaceOf (places : Places) (states : List DiskState) (index place : ℕ) : Type 0 where
  pub free : Now states (λ disk. IsFreePlace places (length disk.reads) index place)
  pub below : place + 4096 ≤ 2 ^ 47

abbrev pub PutDoes : Places → ℕ → List ℕ → Reply → List DiskState → List DiskState → Type 0
PutDoes places index block (Put place digest) old new = IsPlaceOf places old index place × Writes place block old new device_done
PutDoes places index block (Fault count) old new = (place : ℕ) × IsPlaceOf places old index place × Writes place block old new device_failed
PutDoes places index block reply old new = new ≡ old

-- the six bytes of the place, with which an index's entry in the map begins
abbrev pub PlaceDoes : Places → ℕ → ℕ → Reply → List DiskState → List DiskState → Type 0
PlaceDoes places index place Placed old new = Writes (entry_at places index) (le_bytes 6 place) old new device_done
PlaceDoes places index place (Fault count) old new = Writes (entry_at places index) (le_bytes 6 place) old new device_failed
PlaceDoes places index place reply old new = new ≡ old

abbrev pub SettleDoes : Reply → List DiskState → List DiskState → Type 0
SettleDoes Settled old new = Syncs old new device_done
SettleDoes (Fault count) old new = Syncs old new device_failed
SettleDoes reply old new = new ≡ old

-- the gate alone: the high byte of the size in that entry
abbrev pub GateDoes : Places → ℕ → Reply → List DiskState → List DiskState → Type 0
GateDoes places index (Gated waiting) old new = Writes (entry_at places index + 7) (16 ∷ []) old new device_done
GateDoes places index (Fault count) old new = Writes (entry_at places index + 7) (16 ∷ []) old new device_failed
GateDoes places index reply old new = new ≡ old

-- `spot` is where each block was put before, and `block` is the block that a put brings
abbrev pub DeviceDoes : Opened → (ℕ → ℕ) → List ℕ → Event → Reply → List DiskState → List DiskState → Type 0
DeviceDoes opened spot block (PutData window index digest) reply old new = PutDoes (area_places opened.areas) index block reply old new
DeviceDoes opened spot block (PutPlace window index) reply old new = PlaceDoes (area_places opened.areas) index (spot index) reply old new
DeviceDoes opened spot block (Settle window) reply old new = SettleDoes reply old new
DeviceDoes opened spot block (Gate window index) reply old new = GateDoes (area_places opened.areas) index reply old new
DeviceDoes opened spot block (Ask index uid moment) reply old new = new ≡ old
DeviceDoes opened spot block (Poll serial moment) reply old new = new ≡ old
DeviceDoes opened spot block (Cancel serial) reply old new = new ≡ old
DeviceDoes opened spot block (Claim window places) reply old new = new ≡ old
DeviceDoes opened spot block (Release window) reply old new = new ≡ old
DeviceDoes opened spot block (TakePending after most) reply old new = new ≡ old
DeviceDoes opened spot block (SetTimes uid times) reply old new = new ≡ old
DeviceDoes opened spot block (Ranges start end room) reply old new = new ≡ old
DeviceDoes opened spot block Count reply old new = new ≡ old
DeviceDoes opened spot block Leave reply old new = new ≡ old
