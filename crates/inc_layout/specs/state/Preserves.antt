-- What a crash keeps of a file's state, and what a reopening of the file may find.
use Rattle.std.specs.Prelude.{◌≡◌, ◌⊎◌, ℕ, ◌+◌, ◌<◌, List, [], Some}
use Rattle.inc_entry.specs.Entry.{area_places}
use Rattle.inc_entry.specs.Keeps.{Keeps, KeepsEntry}
use Rattle.inc_layout.specs.Backing.{IsBackingFile, fixed_in}
use Rattle.inc_layout.specs.fixed.Fixed.{IsFixed}
use Rattle.inc_layout.specs.fixed.SameFixed.{is_fixed_byte}
use Rattle.inc_layout.specs.state.State.{IsStateOf, StateParts, has_index, kind_in, row_digest}
use Rattle.inc_layout.specs.declared.opened.Opened.{Opened}

-- The bytes are a backing file with this id, this root or none, and so many blocks. Each acknowledged block is open with its digest; a
-- block whose fill has begun is so, or closed; a damaged or compressed one is still that; and every other one is closed.
pub record Preserves (bytes : List ℕ) (parts : StateParts) : Type 0 where
  pub opened : Opened
  pub stands : IsBackingFile bytes opened
  pub state : IsStateOf opened parts
  pub each : (i : ℕ) → i < parts.data_count + parts.hash_count → KeepsEntry (area_places opened.areas) bytes i (kind_in parts i)

-- The state of the reopened file: no fill has begun, and its blocks are those acknowledged, and perhaps some whose fill had begun.
pub record MayReopen (before after : StateParts) : Type 0 where
  pub id_is : after.id ≡ before.id
  pub root_is : after.root ≡ before.root
  pub data_is : after.data_count ≡ before.data_count
  pub hash_is : after.hash_count ≡ before.hash_count
  pub damaged_is : (i : ℕ) → has_index after.damaged i ≡ has_index before.damaged i
  pub compressed_is : (i : ℕ) → has_index after.compressed i ≡ has_index before.compressed i
  pub none_begun : after.begun ≡ []
  pub at_least : (i : ℕ) (digest : List ℕ) → row_digest before.acknowledged i ≡ Some digest → row_digest after.acknowledged i ≡ Some digest
  pub at_most : (i : ℕ) (digest : List ℕ) → row_digest after.acknowledged i ≡ Some digest
      → (row_digest before.acknowledged i ≡ Some digest) ⊎ (row_digest before.begun i ≡ Some digest)

-- Bytes that keep what is known of a file, byte by byte, are a file in which everything is kept.
abbrev pub KeepsPreserve : Type 0
KeepsPreserve =
    (base bytes : List ℕ) (opened : Opened) (parts : StateParts) → IsFixed base (fixed_in opened) → IsStateOf opened parts
    → Keeps (area_places opened.areas) (is_fixed_byte (fixed_in opened)) base (kind_in parts) bytes → Preserves bytes parts
