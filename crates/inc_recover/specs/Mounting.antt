-- Mounting a backing file: it is settled, opened, and the two counts of its status record are made those of its open blocks.
use Rattle.std.specs.Prelude.{◌≡◌, ◌≢◌, ◌⊎◌, ℕ, ◌+◌, ◌^◌, ◌<◌, ◌≤◌, false, nat_le, ◌==◌, ◌&&◌, if◌then◌else◌, List, [], ◌∷◌, length, take, drop, slice_index, Option, Some, None, option_map, count_by, Result, Ok, Err, OnOk, IfOk, IfErr}
use Rattle.inc_tree.specs.shape.Geometry.{data_blocks}
use Rattle.inc_io.specs.Causes.{Rose}
use Rattle.inc_md.specs.Staying.{in_counts}
use Rattle.inc_md.specs.declared.records.Records.{Records}
use Rattle.inc_md.specs.declared.records.StatusRecord.{StatusRecord}
use Rattle.inc_disk.specs.Disk.{DiskState, MayHaveLeft, Now, Syncs, overwritten, settled}
use Rattle.inc_disk.specs.Laws.{Goes, LeavesOnly}
use Rattle.inc_entry.specs.Stored.{is_open_class}
use Rattle.inc_layout.specs.Backing.{IsBackingFile, opened_of}
use Rattle.inc_layout.specs.opening.Faults.{IsOwnFault}
use Rattle.inc_layout.specs.state.Reopening.{IsMountedOn}
use Rattle.inc_layout.specs.declared.fault.LayoutFault.{LayoutFault}
use Rattle.inc_layout.specs.declared.fault.LayoutFault.TheVariants.{TooLong, ReadFault, OutOfMemory as NoMemory}
use Rattle.inc_layout.specs.declared.mounted.Mounted.{Mounted}
use Rattle.inc_layout.specs.declared.opened.Opened.{Opened}
use Rattle.inc_fill.specs.Steps.{count_bytes}
use Rattle.inc_recover.specs.declared.fault.MountFault.{MountFault}
use Rattle.inc_recover.specs.declared.fault.MountFault.TheVariants.{Layout, DiskFault, OutOfMemory}

-- ---- the counts

-- the data blocks that are there
abbrev pub open_data : Opened → ℕ
open_data opened = count_by is_open_class (take (data_blocks opened.areas.geometry) opened.classes)

-- the hash blocks that are there
abbrev pub open_hash : Opened → ℕ
open_hash opened = count_by is_open_class (drop (data_blocks opened.areas.geometry) opened.classes)

abbrev pub status_with : ℕ → ℕ → StatusRecord → StatusRecord
status_with data_count hash_count status = record { at = status.at; data_written = data_count; hash_written = hash_count }

abbrev pub records_with : ℕ → ℕ → Records → Records
records_with data_count hash_count records = record {
  map = records.map;
  signature = records.signature;
  status = option_map (status_with data_count hash_count) records.status;
  spans = records.spans;
  last = records.last;
}

-- the file with a status record that tells the blocks that are there
abbrev pub counted : Opened → Opened
counted opened = record {
  header = opened.header;
  records = records_with (open_data opened) (open_hash opened) opened.records;
  sig = opened.sig;
  areas = opened.areas;
  classes = opened.classes;
  digests = opened.digests;
  len = opened.len;
}

-- the same on bytes. Right counts stay as they are, and so does a file without a status record
abbrev pub bytes_with_counts : ℕ → ℕ → Option StatusRecord → List ℕ → List ℕ
bytes_with_counts data_count hash_count None bytes = bytes
bytes_with_counts data_count hash_count (Some status) bytes =
    if status.data_written == data_count && (status.hash_written == hash_count) then bytes else overwritten status.at (count_bytes data_count hash_count) bytes

abbrev pub counted_bytes : Opened → List ℕ → List ℕ
counted_bytes opened bytes = bytes_with_counts (open_data opened) (open_hash opened) opened.records.status bytes

-- ---- the file that is mounted

-- a file of over 2 ^ 46 bytes is refused first
abbrev pub layout_of : List ℕ → Result Opened LayoutFault
layout_of bytes = if nat_le (length bytes) (2 ^ 46) then opened_of bytes else Err TooLong

-- ---- what a mount leaves

-- the disk reads as these bytes with the counts of the file that they are
pub record HasRightCounts (bytes : List ℕ) (disk : DiskState) : Type 0 where
  pub found : Opened
  pub found_is : layout_of bytes ≡ Ok found
  pub reads_is : disk.reads ≡ counted_bytes found bytes

-- the eight bytes of the counts of the file that stood may be others; all else is as it was
pub record HasOtherCounts (bytes other : List ℕ) : Type 0 where
  pub opened : Opened
  pub stands : IsBackingFile bytes opened
  pub len_is : length other ≡ length bytes
  pub same : (j : ℕ) → in_counts opened.records.status j ≡ false → slice_index other j ≡ slice_index bytes j

abbrev pub IsSameButCounts : List ℕ → List ℕ → Type 0
IsSameButCounts bytes other = (other ≡ bytes) ⊎ HasOtherCounts bytes other

-- a crash might have left these bytes before the call, or they are what the disk read as but for the counts
abbrev pub MayBeLeftBy : List DiskState → List ℕ → List ℕ → Type 0
MayBeLeftBy old bytes image = MayHaveLeft (length old) old image ⊎ IsSameButCounts bytes image

-- Where no sync has succeeded, each image is one from before the call. Since the first one that has, each is what the disk read but for
-- the counts.
abbrev pub IsCutAtSync : {T : Type 0} → List DiskState → List DiskState → List ℕ → Result T MountFault → Type 0
IsCutAtSync old new bytes result =
    ((result ≡ Err DiskFault) × LeavesOnly old new (MayHaveLeft (length old) old)) ⊎ LeavesOnly (settled bytes ∷ old) new (IsSameButCounts bytes)

-- nothing but the first sync has happened
abbrev pub IsOnlySynced : List DiskState → List DiskState → List ℕ → Type 0
IsOnlySynced old new bytes = new ≡ settled bytes ∷ old

-- the first sync failed, and nothing else has happened
abbrev pub IsLeftUnsynced : List DiskState → List DiskState → Type 0
IsLeftUnsynced old new = Syncs {T = Unit {0}} {E = Unit {0}} old new (Err tt)

-- the bytes are a file whose counts are others than those of its blocks
pub record NeedsCounts (bytes : List ℕ) : Type 0 where
  pub found : Opened
  pub found_is : layout_of bytes ≡ Ok found
  pub others : counted found ≢ found

-- Nothing is written of a file whose counts are right, or that has none, and nothing where the call ends with anything but a fault of the disk.
-- Such a fault is one of the first sync, or counts had to be written.
abbrev pub IsUnwritten : List DiskState → List DiskState → List ℕ → Result Opened MountFault → Type 0
IsUnwritten old new bytes (Ok opened) = (found : Opened) → layout_of bytes ≡ Ok found → counted found ≡ found → IsOnlySynced old new bytes
IsUnwritten old new bytes (Err (Layout fault)) = IsOnlySynced old new bytes
IsUnwritten old new bytes (Err DiskFault) = IsLeftUnsynced old new ⊎ NeedsCounts bytes
IsUnwritten old new bytes (Err OutOfMemory) = IsOnlySynced old new bytes

-- ---- what is answered

-- a fault of the file is its first one. Want of memory is one of the whole call
abbrev pub GivesLayout : LayoutFault → Result Opened LayoutFault → Type 0
GivesLayout ReadFault wanted = Unit {0}
GivesLayout NoMemory wanted = ⊥
GivesLayout fault wanted = wanted ≡ Err fault

abbrev pub GivesMountFault : MountFault → Result Opened LayoutFault → Type 0
GivesMountFault (Layout fault) wanted = GivesLayout fault wanted
GivesMountFault DiskFault wanted = Unit {0}
GivesMountFault OutOfMemory wanted = Unit {0}

-- the file that stood, with the counts of its blocks
pub record IsCounted (opened : Opened) (wanted : Result Opened LayoutFault) : Type 0 where
  pub found : Opened
  pub wanted_is : wanted ≡ Ok found
  pub counted_is : opened ≡ counted found

abbrev pub GivesMounted : Result Opened MountFault → Result Opened LayoutFault → Type 0
GivesMounted (Ok opened) wanted = IsCounted opened wanted
GivesMounted (Err fault) wanted = GivesMountFault fault wanted

abbrev pub mount_fault : LayoutFault → MountFault
mount_fault NoMemory = OutOfMemory
mount_fault fault = Layout fault

-- A fault of the device comes only where the count rose, and at any other the count stays. Want of memory is no fault of the layout.
abbrev pub LayoutCause : ℕ → ℕ → LayoutFault → Type 0
LayoutCause before now ReadFault = Rose before now
LayoutCause before now NoMemory = ⊥
LayoutCause before now fault = now ≡ before

abbrev pub FaultCause : ℕ → ℕ → MountFault → Type 0
FaultCause before now (Layout fault) = LayoutCause before now fault
FaultCause before now DiskFault = Rose before now
FaultCause before now OutOfMemory = now ≡ before

-- no failing device and no want of memory is told as a fault of the layout, but for a failed read
abbrev pub IsOwnMountFault : MountFault → Type 0
IsOwnMountFault (Layout NoMemory) = ⊥
IsOwnMountFault (Layout fault) = IsOwnFault fault
IsOwnMountFault DiskFault = Unit {0}
IsOwnMountFault OutOfMemory = Unit {0}

pub record HasMountCause (before now : ℕ) (result : Result Opened MountFault) : Type 0 where
  pub later : before ≤ now
  pub failed : IfErr result (FaultCause before now)
  pub kept : OnOk result (now ≡ before)

-- ---- what the steps leave

-- a disk that tells nothing goes on telling nothing
abbrev pub StaysUntold : List DiskState → List DiskState → Type 0
StaysUntold old new = old ≡ [] → new ≡ []

-- the same bytes but for eight
pub record DiffersAt (at : ℕ) (bytes other : List ℕ) : Type 0 where
  pub len_is : length other ≡ length bytes
  pub before : (j : ℕ) → j < at → slice_index other j ≡ slice_index bytes j
  pub after : (j : ℕ) → at + 8 ≤ j → slice_index other j ≡ slice_index bytes j

-- the counts of an opened file are mended on its disk
abbrev pub Mends : {E : Type 0} → Opened → List DiskState → List DiskState → Result (Unit {0}) E → Type 0
Mends opened old new result =
    (bytes : List ℕ) → IsBackingFile bytes opened → Now old (λ disk. disk ≡ settled bytes)
    → Goes old new result (λ disk. IsMountedOn settled (counted opened) disk × IsSameButCounts bytes disk.reads × (disk.reads ≡ counted_bytes opened bytes))
    (λ disk. IsSameButCounts bytes disk.reads) (IsSameButCounts bytes)

-- a mount of a disk that reads as these bytes
pub record Mounts (old new : List DiskState) (result : Result Opened MountFault) (bytes : List ℕ) : Type 0 where
  pub answer : GivesMounted result (layout_of bytes)
  pub opened : IfOk result (λ opened. Now new (IsMountedOn settled opened))
  pub same : Now new (λ disk. IsSameButCounts bytes disk.reads)
  pub counts : IfOk result (λ opened. Now new (HasRightCounts bytes))
  pub moments : LeavesOnly old new (MayBeLeftBy old bytes)
  pub since : IsCutAtSync old new bytes result
  pub unwritten : IsUnwritten old new bytes result

-- ---- the outer answer

abbrev pub outcome : {D : Type 0} → Result (Mounted D) (MountFault × D) → Result Opened MountFault
outcome (Ok mounted) = Ok mounted.opened
outcome (Err failed) = Err failed.0

abbrev pub disk_of : {D : Type 0} → Result (Mounted D) (MountFault × D) → D
disk_of (Ok mounted) = mounted.disk
disk_of (Err failed) = failed.1
