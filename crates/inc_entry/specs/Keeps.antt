-- What a crash keeps of a backing file that is being filled, byte by byte.
--
-- A block is there for good once the sync after its gate is done: it is acknowledged. From the start of the gate's write until then a
-- crash may leave it open or closed, and if it is open its block is whole: its fill has begun. No other block is there.
use Rattle.std.specs.Prelude.{◌≡◌, ◌⊎◌, ℕ, ◌^◌, ◌<◌, ◌≤◌, Bool, true, false, All, List, length, slice_index, Some}
use Rattle.inc_entry.specs.Spans.{AreApart, IsInside, in_spans}
use Rattle.inc_entry.specs.Entry.{Places, areas_of, entries}
use Rattle.inc_entry.specs.Stored.{class_at, is_past, stored_digest}
use Rattle.inc_entry.specs.declared.classes.Class.TheVariants.{Closed, Compressed, Damaged}

-- what is kept of the entry of one index
pub data Kind : Type 0 where
  Acknowledged : List ℕ → Kind
  Begun : List ℕ → Kind
  KeptDamaged : Kind
  KeptCompressed : Kind
  Shut : Kind

-- the entry is as its kind says: an open one has the block of this digest
abbrev pub KeepsEntry : Places → List ℕ → ℕ → Kind → Type 0
KeepsEntry places bytes i (Acknowledged digest) = stored_digest places bytes i ≡ Some digest
KeepsEntry places bytes i (Begun digest) = (stored_digest places bytes i ≡ Some digest) ⊎ (class_at places bytes i ≡ Closed)
KeepsEntry places bytes i KeptDamaged = class_at places bytes i ≡ Damaged
KeepsEntry places bytes i KeptCompressed = class_at places bytes i ≡ Compressed
KeepsEntry places bytes i Shut = class_at places bytes i ≡ Closed

-- The bytes keep the fixed bytes of `base`, the file as it was opened, and each entry's kind. They may be a longer file than `base`.
pub record Keeps (places : Places) (is_fixed : ℕ → Bool) (base : List ℕ) (kind : ℕ → Kind) (bytes : List ℕ) : Type 0 where
  pub long : length base ≤ length bytes
  pub short : length bytes ≤ 2 ^ 47
  pub fixed : (j : ℕ) → is_fixed j ≡ true → slice_index bytes j ≡ slice_index base j
  pub each : (i : ℕ) → i < entries places → KeepsEntry places bytes i (kind i)
  -- no entry would be open in a longer file
  pub none_past : (i : ℕ) → i < entries places → is_past places bytes i ≡ false

-- The areas stand in a file of so many bytes, apart from each other; the header is the first of them. An empty map or tree may stand
-- anywhere.
pub record IsLayout (places : Places) (is_fixed : ℕ → Bool) (len : ℕ) : Type 0 where
  pub inside : All (IsInside len) (areas_of places)
  pub all_apart : AreApart (areas_of places)
  pub header : in_spans places.spans 0 ≡ true
  pub fixed_in : (j : ℕ) → is_fixed j ≡ true → in_spans places.spans j ≡ true
