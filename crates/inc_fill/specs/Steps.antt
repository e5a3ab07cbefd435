-- The steps of a fill: from the facts before a call to those after it, and at every moment of it each image is kept. They hold for any
-- file, and whatever other fills are on their way.
use Rattle.std.specs.Prelude.{◌≡◌, ℕ, ◌+◌, ◌^◌, ◌<◌, ◌≤◌, Bool, true, false, List, ◌++◌, length, take, Option, Some, None, Result}
use Rattle.inc_bytes.specs.Fields.{le_bytes}
use Rattle.inc_tree.specs.shape.Geometry.{block_len, data_blocks}
use Rattle.inc_tree.specs.read_block.Path.{block_digest}
use Rattle.inc_entry.specs.Entry.{Places, entries, entry_at, hash_place}
use Rattle.inc_disk.specs.Disk.{DiskState, Now}
use Rattle.inc_disk.specs.Laws.{Goes}
use Rattle.inc_entry.specs.Keeps.{IsLayout, Keeps, Kind, Begun, Shut}
use Rattle.inc_entry.specs.Spans.{in_spans}
use Rattle.inc_fill.specs.Facts.{Facts, Row, SameBut, row_at, settled_kind, settled_row, Written, Placed, Settled, Gated}

-- ---- the bytes that are written

-- the two counts of a status record
abbrev pub count_bytes : ℕ → ℕ → List ℕ
count_bytes data_count hash_count = le_bytes 4 data_count ++ le_bytes 4 hash_count

-- where the block of an index may be written: a data block at the file's end, a hash block at its place in the tree
pub record IsFreePlace (places : Places) (len j place : ℕ) : Type 0 where
  pub of_content : j < data_blocks places.shape → place ≡ len
  pub of_tree : data_blocks places.shape ≤ j → place ≡ hash_place places j

-- the disk reads as so many bytes
abbrev pub HasLen : List DiskState → ℕ → Type 0
HasLen states len = Now states (λ disk. length disk.reads ≡ len)

-- ---- the steps

-- a block is written to its place, of an index that is not in flight and whose gate is closed
abbrev pub BlockGoes : {T E : Type 0} → ℕ → List ℕ → List DiskState → List DiskState → Result T E → Type 0
BlockGoes place block old new result =
    (places : Places) (is_fixed : ℕ → Bool) (base : List ℕ) (kind : ℕ → Kind) (row row' : ℕ → Option Row) (spot spot' : ℕ → ℕ) (j len : ℕ) (digest : List ℕ)
    → IsLayout places is_fixed (length base) → j < entries places
    → HasLen old len → IsFreePlace places len j place → place + 4096 ≤ 2 ^ 47
    → digest ≡ block_digest (take (block_len places.shape j) block)
    → kind j ≡ Shut → row j ≡ None → SameBut j row row' → row' j ≡ Some (row_at digest Written)
    → SameBut j spot spot' → spot' j ≡ place
    → Now old (Facts places is_fixed base kind row spot)
    → Goes old new result (Facts places is_fixed base kind row' spot') (Facts places is_fixed base kind row spot) (Keeps places is_fixed base kind)

-- the place of a written block is written into its entry
abbrev pub PlaceGoes : {T E : Type 0} → ℕ → ℕ → List DiskState → List DiskState → Result T E → Type 0
PlaceGoes at place old new result =
    (places : Places) (is_fixed : ℕ → Bool) (base : List ℕ) (kind : ℕ → Kind) (row row' : ℕ → Option Row) (spot : ℕ → ℕ) (j : ℕ) (digest : List ℕ)
    → IsLayout places is_fixed (length base) → j < entries places → at ≡ entry_at places j → spot j ≡ place
    → row j ≡ Some (row_at digest Written) → SameBut j row row' → row' j ≡ Some (row_at digest Placed)
    → Now old (Facts places is_fixed base kind row spot)
    → Goes old new result (Facts places is_fixed base kind row' spot) (Facts places is_fixed base kind row spot) (Keeps places is_fixed base kind)

-- Whatever is on its way goes on by one stage. At an answer other than Ok nothing has.
abbrev pub SettleGoes : {T E : Type 0} → List DiskState → List DiskState → Result T E → Type 0
SettleGoes old new result =
    (places : Places) (is_fixed : ℕ → Bool) (base : List ℕ) (kind kind' : ℕ → Kind) (row row' : ℕ → Option Row) (spot : ℕ → ℕ)
    → IsLayout places is_fixed (length base)
    → ((i : ℕ) → i < entries places → kind' i ≡ settled_kind (kind i) (row i)) → ((i : ℕ) → i < entries places → row' i ≡ settled_row (row i))
    → Now old (Facts places is_fixed base kind row spot)
    → Goes old new result (Facts places is_fixed base kind' row' spot) (Facts places is_fixed base kind row spot) (Keeps places is_fixed base kind)

-- The gate of a block whose place is settled is opened. From the start of the write on the fill has begun, also where it fails.
abbrev pub GateGoes : {T E : Type 0} → ℕ → List DiskState → List DiskState → Result T E → Type 0
GateGoes at old new result =
    (places : Places) (is_fixed : ℕ → Bool) (base : List ℕ) (kind kind' : ℕ → Kind) (row row' : ℕ → Option Row) (spot : ℕ → ℕ) (j : ℕ) (digest : List ℕ)
    → IsLayout places is_fixed (length base) → j < entries places → at ≡ entry_at places j
    → row j ≡ Some (row_at digest Settled) → SameBut j row row' → row' j ≡ Some (row_at digest Gated)
    → SameBut j kind kind' → kind' j ≡ Begun digest
    → Now old (Facts places is_fixed base kind row spot)
    → Goes old new result (Facts places is_fixed base kind' row' spot) (Facts places is_fixed base kind' row spot) (Keeps places is_fixed base kind')

-- The counts of the status record are no fixed bytes: nothing changes.
abbrev pub StatusGoes : {T E : Type 0} → ℕ → List DiskState → List DiskState → Result T E → Type 0
StatusGoes at old new result =
    (places : Places) (is_fixed : ℕ → Bool) (base : List ℕ) (kind : ℕ → Kind) (row : ℕ → Option Row) (spot : ℕ → ℕ)
    → IsLayout places is_fixed (length base)
    → ((k : ℕ) → k < 8 → in_spans places.spans (at + k) ≡ true) → ((k : ℕ) → k < 8 → is_fixed (at + k) ≡ false)
    → Now old (Facts places is_fixed base kind row spot)
    → Goes old new result (Facts places is_fixed base kind row spot) (Facts places is_fixed base kind row spot) (Keeps places is_fixed base kind)
