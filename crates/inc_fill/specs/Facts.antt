-- What is kept of a disk while blocks of its file are filled, byte by byte.
--
-- A byte is clean where every crash leaves what a read gives. Each fact below speaks of one index, and of the ten bytes of its entry and
-- the bytes of its block alone: so a write to the bytes of one index keeps the facts of all others, however many fills are on their way.
use Rattle.std.specs.Prelude.{◌≡◌, ◌⊎◌, ℕ, ◌+◌, ◌^◌, ◌<◌, ◌≤◌, Bool, true, false, List, length, slice_index, Option, Some, None}
use Rattle.inc_tree.specs.shape.Geometry.{block_len}
use Rattle.inc_entry.specs.Entry.{Places, class_of, entries, entry_at, entry_from, entry_size, fits, has_size, past_end}
use Rattle.inc_entry.specs.declared.classes.Class.{Class}
use Rattle.inc_entry.specs.declared.classes.Class.TheVariants.{OpenAt, Compressed, Damaged}
use Rattle.inc_entry.specs.declared.entry.Entry.{Entry}
use Rattle.inc_disk.specs.Disk.{DiskState, is_dirty}
use Rattle.inc_entry.specs.Stored.{digest_at}
use Rattle.inc_entry.specs.Keeps.{Kind, Acknowledged, Begun, KeptDamaged, KeptCompressed, Shut}

-- every crash leaves this byte as a read gives it
pub record IsClean (disk : DiskState) (j : ℕ) : Type 0 where
  pub still : is_dirty disk.dirty j ≡ false
  pub there : j < length disk.synced
  pub same : slice_index disk.synced j ≡ slice_index disk.reads j

abbrev pub CleanAt : DiskState → ℕ → ℕ → Type 0
CleanAt disk at n = (k : ℕ) → k < n → IsClean disk (at + k)

-- the entry of an index, as the disk reads
abbrev pub entry_read : DiskState → Places → ℕ → Entry
entry_read disk places i = entry_from disk.reads (entry_at places i)

abbrev pub class_synced : DiskState → Places → ℕ → Class
class_synced disk places i = class_of places (length disk.synced) i (entry_read disk places i)

-- ---- the own bytes of an index

-- a block that is there for good
pub record IsKeptOpen (disk : DiskState) (places : Places) (i place : ℕ) (digest : List ℕ) : Type 0 where
  pub size : ℕ
  pub entry : CleanAt disk (entry_at places i) 10
  pub open_at : class_synced disk places i ≡ OpenAt place size
  pub stored : CleanAt disk place (block_len places.shape i)
  pub block : digest_at places disk.reads i place ≡ digest

-- block and offset are clean: once the gate opens, this block is there
pub record IsStored (disk : DiskState) (places : Places) (i place : ℕ) (digest : List ℕ) : Type 0 where
  pub stored : CleanAt disk place 4096
  pub offset : CleanAt disk (entry_at places i) 6
  pub offset_is : (entry_read disk places i).offset ≡ place
  pub some : 0 < place
  pub here : fits places i place 4096 ≡ true
  pub block : digest_at places disk.reads i place ≡ digest

-- of the bytes behind the offset all but the gate are clean, and zeros
pub record IsBehindGate (disk : DiskState) (places : Places) (i : ℕ) : Type 0 where
  pub low_clean : IsClean disk (entry_at places i + 6)
  pub flags_clean : CleanAt disk (entry_at places i + 8) 2
  pub low : (entry_read disk places i).low ≡ 0
  pub flags : (entry_read disk places i).flags ≡ 0

-- a block whose gate's write has begun: the gate may hold anything
pub record IsKeptBegun (disk : DiskState) (places : Places) (i place : ℕ) (digest : List ℕ) : Type 0 where
  pub ready : IsStored disk places i place digest
  pub behind : IsBehindGate disk places i

-- The gate is closed in every image, whatever the offset's bytes are.
pub record IsKeptShut (disk : DiskState) (places : Places) (i : ℕ) : Type 0 where
  pub behind : IsBehindGate disk places i
  pub gate_clean : IsClean disk (entry_at places i + 7)
  pub gate : has_size places i (entry_size (entry_read disk places i)) ≡ false

-- an entry that no fill may touch
pub record IsKeptClass (disk : DiskState) (places : Places) (i : ℕ) (class : Class) : Type 0 where
  pub entry : CleanAt disk (entry_at places i) 10
  pub class_is : class_synced disk places i ≡ class
  -- in a longer file it would not be open
  pub not_past : past_end places (length disk.synced) i (entry_read disk places i) ≡ false

-- `place` is where the block of the index is
abbrev pub Own : DiskState → Places → ℕ → ℕ → Kind → Type 0
Own disk places i place (Acknowledged digest) = IsKeptOpen disk places i place digest
Own disk places i place (Begun digest) = IsKeptBegun disk places i place digest
Own disk places i place KeptDamaged = IsKeptClass disk places i Damaged
Own disk places i place KeptCompressed = IsKeptClass disk places i Compressed
Own disk places i place Shut = IsKeptShut disk places i

-- ---- fills on their way

-- A fill writes the block, then the offset; after a sync it writes the gate, and after one more the block is acknowledged.
pub data Stage : Type 0 where
  Written : Stage
  Placed : Stage
  Settled : Stage
  Gated : Stage

pub record Row : Type 0 where
  pub digest : List ℕ
  pub stage : Stage

abbrev pub row_at : List ℕ → Stage → Row
row_at digest stage = record { digest = digest; stage = stage }

-- the block is at its place, as the disk reads
pub record HasBlock (disk : DiskState) (places : Places) (i place : ℕ) (digest : List ℕ) : Type 0 where
  pub some : 0 < place
  pub here : fits places i place 4096 ≡ true
  pub there : place + 4096 ≤ length disk.reads
  pub block : digest_at places disk.reads i place ≡ digest

abbrev pub AtStage : DiskState → Places → ℕ → ℕ → Kind → List ℕ → Stage → Type 0
AtStage disk places i place kind digest Written = kind ≡ Shut
AtStage disk places i place kind digest Placed = (kind ≡ Shut) × ((entry_read disk places i).offset ≡ place)
-- a gate's write that failed leaves its index begun
AtStage disk places i place kind digest Settled = ((kind ≡ Shut) ⊎ (kind ≡ Begun digest)) × IsStored disk places i place digest
AtStage disk places i place kind digest Gated = (kind ≡ Begun digest) × ((entry_read disk places i).high ≡ 16)

abbrev pub InFlight : DiskState → Places → ℕ → ℕ → Kind → Option Row → Type 0
InFlight disk places i place kind None = Unit {0}
InFlight disk places i place kind (Some row) = HasBlock disk places i place row.digest × AtStage disk places i place kind row.digest row.stage

-- ---- the disk of a file in which any number of indices are being filled. `base` is the file as it was opened, of which the fixed
-- bytes stay. `spot` is where the block of each index is: a write of another block moves none, so a place that is known once stays known.
-- `kind` and `row` may say more than the one who fills goes by: a row behind a written gate may outlive its fill until the next sync.
pub record Facts (places : Places) (is_fixed : ℕ → Bool) (base : List ℕ) (kind : ℕ → Kind) (row : ℕ → Option Row) (spot : ℕ → ℕ) (disk : DiskState) : Type 0 where
  pub longer : length disk.synced ≤ length disk.reads
  pub within : length disk.reads ≤ disk.longest
  pub short : disk.longest ≤ 2 ^ 47
  pub long : length base ≤ length disk.synced
  pub fixed : (j : ℕ) → is_fixed j ≡ true → IsClean disk j × (slice_index disk.reads j ≡ slice_index base j)
  pub own : (i : ℕ) → i < entries places → Own disk places i (spot i) (kind i)
  pub flight : (i : ℕ) → i < entries places → InFlight disk places i (spot i) (kind i) (row i)

-- two functions of an index differ at one index at most
abbrev pub SameBut : {T : Type 0} → ℕ → (ℕ → T) → (ℕ → T) → Type 0
SameBut j old new = (i : ℕ) → ¬ (i ≡ j) → new i ≡ old i

-- what a sync makes of the indices: blocks with their offsets are ready for the gate, and those behind a written gate are there for good
abbrev pub kind_at : Kind → Row → Stage → Kind
kind_at kind row Gated = Acknowledged row.digest
kind_at kind row stage = kind

abbrev pub settled_kind : Kind → Option Row → Kind
settled_kind kind None = kind
settled_kind kind (Some row) = kind_at kind row row.stage

abbrev pub row_after : Row → Stage → Option Row
row_after row Placed = Some (row_at row.digest Settled)
row_after row Gated = None
row_after row stage = Some row

abbrev pub settled_row : Option Row → Option Row
settled_row None = None
settled_row (Some row) = row_after row row.stage
