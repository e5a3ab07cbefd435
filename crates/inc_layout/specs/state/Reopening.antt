-- The state of a file that was opened, and the states that a crash may have kept of it.
use Rattle.std.specs.Prelude.{◌≡◌, ℕ, suc, ◌+◌, ◌<◌, Bool, true, false, if◌then◌else◌, List, [], ◌∷◌, Option, Some, None, slice_index_or}
use Rattle.inc_tree.specs.shape.Geometry.{data_blocks, hash_blocks}
use Rattle.inc_entry.specs.Keeps.{Kind, Acknowledged, KeptDamaged, KeptCompressed, Shut}
use Rattle.inc_entry.specs.Stored.{is_compressed_class, is_damaged_class}
use Rattle.inc_entry.specs.declared.classes.Class.{Class}
use Rattle.inc_entry.specs.declared.classes.Class.TheVariants.{Closed, Compressed, Damaged}
use Rattle.inc_layout.specs.Backing.{IsBackingFile, sig_root}
use Rattle.inc_layout.specs.state.State.{IsStateOf, StateParts, has_index, kind_in, row_digest}
use Rattle.inc_layout.specs.declared.opened.Opened.{Opened}

-- ---- the state of an opened file

-- The parts are those of the opened file: its open blocks are acknowledged, and no fill has begun.
pub record AreOpened (opened : Opened) (parts : StateParts) : Type 0 where
  pub state : IsStateOf opened parts
  pub damaged_is : (i : ℕ) → has_index parts.damaged i ≡ is_damaged_class (slice_index_or opened.classes i Closed)
  pub compressed_is : (i : ℕ) → has_index parts.compressed i ≡ is_compressed_class (slice_index_or opened.classes i Closed)
  pub acknowledged_is : (i : ℕ) → row_digest parts.acknowledged i ≡ slice_index_or opened.digests i None
  pub none_begun : parts.begun ≡ []

-- such parts

-- the indices, from the first one on, of the classes that pass a test
abbrev pub indices_passing : (Class → Bool) → ℕ → List Class → List ℕ
indices_passing passes first [] = []
indices_passing passes first (class ∷ classes) = if passes class then first ∷ indices_passing passes (suc first) classes else indices_passing passes (suc first) classes

-- the rows of the digests that are there
abbrev pub rows_of : ℕ → List (Option (List ℕ)) → List (ℕ × List ℕ)
rows_of first [] = []
rows_of first (Some digest ∷ digests) = (first, digest) ∷ rows_of (suc first) digests
rows_of first (None ∷ digests) = rows_of (suc first) digests

abbrev pub opened_parts : Opened → StateParts
opened_parts opened = record {
  id = opened.header.id;
  root = sig_root opened.sig;
  data_count = data_blocks opened.areas.geometry;
  hash_count = hash_blocks opened.areas.geometry;
  damaged = indices_passing is_damaged_class 0 opened.classes;
  compressed = indices_passing is_compressed_class 0 opened.classes;
  acknowledged = rows_of 0 opened.digests;
  begun = [];
}

abbrev pub HasParts : Type 0
HasParts = (opened : Opened) → AreOpened opened (opened_parts opened)

-- ---- what is kept of an opened file, by its classes and digests

-- an open entry is the one that has a digest
abbrev pub kind_from : Option (List ℕ) → Class → Kind
kind_from (Some digest) class = Acknowledged digest
kind_from None Damaged = KeptDamaged
kind_from None Compressed = KeptCompressed
kind_from None class = Shut

abbrev pub opened_kind : Opened → ℕ → Kind
opened_kind opened i = kind_from (slice_index_or opened.digests i None) (slice_index_or opened.classes i Closed)

-- its state says the same of each index
abbrev pub KindsAgree : Type 0
KindsAgree = (opened : Opened) (parts : StateParts) → AreOpened opened parts → (i : ℕ) → kind_in parts i ≡ opened_kind opened i

-- All of a disk is settled, so that what it reads is its one image, and this is what the file tells. `settled` makes such a disk's state
-- of the bytes.
pub record IsMountedOn {S : Type 0} (settled : List ℕ → S) (opened : Opened) (disk : S) : Type 0 where
  pub bytes : List ℕ
  pub state_is : disk ≡ settled bytes
  pub stands : IsBackingFile bytes opened

-- ---- the state before

-- an index is in one of the groups at most, and all are indices of the file
pub record AreApartIn (parts : StateParts) : Type 0 where
  pub acknowledged_in : (i : ℕ) (digest : List ℕ) → row_digest parts.acknowledged i ≡ Some digest → i < parts.data_count + parts.hash_count
  pub damaged_in : (i : ℕ) → has_index parts.damaged i ≡ true → i < parts.data_count + parts.hash_count
  pub compressed_in : (i : ℕ) → has_index parts.compressed i ≡ true → i < parts.data_count + parts.hash_count
  pub damaged_alone : (i : ℕ) → has_index parts.damaged i ≡ true → (row_digest parts.acknowledged i ≡ None) × (row_digest parts.begun i ≡ None)
  pub compressed_alone : (i : ℕ) → has_index parts.compressed i ≡ true
      → (row_digest parts.acknowledged i ≡ None) × (row_digest parts.begun i ≡ None) × (has_index parts.damaged i ≡ false)
