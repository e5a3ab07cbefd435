-- What holds of the facts of a fill besides its steps.
use Rattle.std.specs.Prelude.{◌≡◌, ◌⊎◌, ℕ, ◌+◌, ◌^◌, ◌<◌, ◌≤◌, Bool, false, List, length, Option, Some, None}
use Rattle.inc_tree.specs.shape.Geometry.{block_len}
use Rattle.inc_entry.specs.Entry.{Places, entries}
use Rattle.inc_entry.specs.Keeps.{IsLayout, Keeps, Kind, Acknowledged, Begun, KeptDamaged, KeptCompressed, Shut}
use Rattle.inc_entry.specs.Stored.{class_at, digest_at, is_past}
use Rattle.inc_entry.specs.declared.classes.Class.{Class}
use Rattle.inc_entry.specs.declared.classes.Class.TheVariants.{Closed, OpenAt, Compressed, Damaged}
use Rattle.inc_disk.specs.Disk.{DiskState, settled}
use Rattle.inc_fill.specs.Facts.{Facts, Row, row_at, Gated}

-- ---- where a fill begins

-- an entry of this class is kept so, and an open one has its block at this place
abbrev pub IsFound : Places → List ℕ → ℕ → Class → Kind → ℕ → Type 0
IsFound places bytes i (OpenAt place size) kind spot = (kind ≡ Acknowledged (digest_at places bytes i place)) × (spot ≡ place)
IsFound places bytes i Compressed kind spot = kind ≡ KeptCompressed
IsFound places bytes i Damaged kind spot = kind ≡ KeptDamaged
IsFound places bytes i Closed kind spot = kind ≡ Shut

-- All of a file is settled, no entry names a block past its end, and nothing is on its way: the facts are what is found in it.
abbrev pub FoundFacts : Type 0
FoundFacts =
    (places : Places) (is_fixed : ℕ → Bool) (bytes : List ℕ) (kind : ℕ → Kind) (spot : ℕ → ℕ)
    → IsLayout places is_fixed (length bytes) → length bytes ≤ 2 ^ 47
    → ((i : ℕ) → i < entries places → is_past places bytes i ≡ false)
    → ((i : ℕ) → i < entries places → IsFound places bytes i (class_at places bytes i) (kind i) (spot i))
    → Facts places is_fixed bytes kind (λ i. None) spot (settled bytes)

-- ---- what a read finds

-- the entry of this index reads as open at its spot, and its block is there
pub record ReadsOpen (disk : DiskState) (places : Places) (i place : ℕ) (digest : List ℕ) : Type 0 where
  pub size : ℕ
  pub class : class_at places disk.reads i ≡ OpenAt place size
  pub there : place + block_len places.shape i ≤ length disk.reads
  pub block : digest_at places disk.reads i place ≡ digest

-- so reads each block that is there for good, and each one behind a written gate
abbrev pub OpenReads : Type 0
OpenReads =
    (places : Places) (is_fixed : ℕ → Bool) (base : List ℕ) (kind : ℕ → Kind) (row : ℕ → Option Row) (spot : ℕ → ℕ) (disk : DiskState) (i : ℕ) (digest : List ℕ)
    → Facts places is_fixed base kind row spot disk → i < entries places → (kind i ≡ Acknowledged digest) ⊎ (row i ≡ Some (row_at digest Gated))
    → ReadsOpen disk places i (spot i) digest

-- ---- what may be forgotten

-- Fills that are given up on their way, at any stage. What was written stays, and an index whose fill has begun stays begun. A row behind a
-- written gate may be kept until the next sync, which then acknowledges its block.
abbrev pub ReleaseKeeps : Type 0
ReleaseKeeps =
    (places : Places) (is_fixed : ℕ → Bool) (base : List ℕ) (kind : ℕ → Kind) (row row' : ℕ → Option Row) (spot : ℕ → ℕ) (disk : DiskState)
    → ((i : ℕ) → i < entries places → (row' i ≡ row i) ⊎ (row' i ≡ None))
    → Facts places is_fixed base kind row spot disk → Facts places is_fixed base kind row' spot disk

-- the first kind says at least what the second does: of a fill that has begun only that its block is there whole or not at all
abbrev pub SaysAsMuch : Kind → Kind → Type 0
SaysAsMuch kind (Begun digest) = (kind ≡ Begun digest) ⊎ ((kind ≡ Acknowledged digest) ⊎ (kind ≡ Shut))
SaysAsMuch kind (Acknowledged digest) = kind ≡ Acknowledged digest
SaysAsMuch kind KeptDamaged = kind ≡ KeptDamaged
SaysAsMuch kind KeptCompressed = kind ≡ KeptCompressed
SaysAsMuch kind Shut = kind ≡ Shut

abbrev pub WeakerKeeps : Type 0
WeakerKeeps =
    (places : Places) (is_fixed : ℕ → Bool) (base bytes : List ℕ) (kind weaker : ℕ → Kind)
    → ((i : ℕ) → i < entries places → SaysAsMuch (kind i) (weaker i))
    → Keeps places is_fixed base kind bytes → Keeps places is_fixed base weaker bytes
