-- What an opening is made of, and which of its parts are on a device: lists of indices and of rows, each an index with the digest of its block.
use Rattle.std.specs.Prelude.{◌≡◌, ◌⊎◌, ℕ, ◌+◌, ◌<◌, List, [], filter, Option, Some, None, if◌then◌else◌, All}
use Rattle.inc_pending.specs.Keyed.{lookup, KeysRise}
use Rattle.inc_model.specs.declared.words.file_state.FileState.{FileState}
use Rattle.inc_model.specs.relation.State.{Digests, has, Rise, AreSound, AreDisjoint, keys_of, IsOpening}
use Rattle.inc_model.specs.histories.Worlds.{IsReopening}

-- ---- an opening as a term

-- the open indices, and those that are damaged and compressed
pub record OpenedLists : Type 0 where
  pub held : Digests
  pub damaged : List ℕ
  pub compressed : List ℕ

pub record AreOpeningLists (most : ℕ) (lists : OpenedLists) : Type 0 where
  pub held_rises : KeysRise lists.held
  pub held_within : All (λ row. row.0 < most) lists.held
  pub damaged_rises : Rise lists.damaged
  pub damaged_within : All (λ index. index < most) lists.damaged
  pub compressed_rises : Rise lists.compressed
  pub compressed_within : All (λ index. index < most) lists.compressed
  pub sound : AreSound lists.held lists.damaged lists.compressed
  pub apart : AreDisjoint lists.damaged lists.compressed

-- a file with this id, so many data and hash blocks and this root, over a device with this count of faults, and with so many readers
abbrev pub opening_state : List ℕ → ℕ → ℕ → Option (List ℕ) → OpenedLists → ℕ → ℕ → FileState
opening_state id n m root lists faults readers = record {
  id = id;
  n = n;
  m = m;
  root = root;
  map = lists.held;
  damaged = lists.damaged;
  compressed = lists.compressed;
  reads = [];
  next = 1;
  times = [];
  flight = [];
  claimed = [];
  begun = [];
  acknowledged = keys_of lists.held;
  faults = faults;
  failed = None;
  readers = readers;
}

abbrev pub OpenedListsMakeOpenings : Type 0
OpenedListsMakeOpenings = (id : List ℕ) (n m : ℕ) (root : Option (List ℕ)) (lists : OpenedLists) (faults readers : ℕ) → AreOpeningLists (n + m) lists → IsOpening (opening_state id n m root lists faults readers)

-- ---- what a crash has to do with

-- the acknowledged indices with their digests; those whose gate write began are in `begun`
abbrev pub acknowledged_rows : FileState → Digests
acknowledged_rows s = filter (λ row. has row.0 s.acknowledged) s.map

abbrev pub AcknowledgedAreLookedUp : Type 0
AcknowledgedAreLookedUp = (s : FileState) (index : ℕ) → lookup index (acknowledged_rows s) ≡ (if has index s.acknowledged then lookup index s.map else None)

-- of an opening they are the map
abbrev pub OpenedAreAcknowledged : Type 0
OpenedAreAcknowledged = (s : FileState) → IsOpening s → acknowledged_rows s ≡ s.map

-- ---- rising lists with the same members are equal

abbrev pub SameIndicesAreEqual : Type 0
SameIndicesAreEqual = (a b : List ℕ) → Rise a → Rise b → ((index : ℕ) → has index a ≡ has index b) → a ≡ b

abbrev pub SameRowsAreEqual : Type 0
SameRowsAreEqual = (a b : Digests) → KeysRise a → KeysRise b → ((index : ℕ) → lookup index a ≡ lookup index b) → a ≡ b

-- ---- a reopening, told by these lists

pub record IsReopenedAs (s t : FileState) : Type 0 where
  pub opening : IsOpening t
  pub id : t.id ≡ s.id
  pub data_blocks : t.n ≡ s.n
  pub hash_blocks : t.m ≡ s.m
  pub root : t.root ≡ s.root
  pub damaged : (index : ℕ) → has index t.damaged ≡ has index s.damaged
  pub compressed : (index : ℕ) → has index t.compressed ≡ has index s.compressed
  pub at_least : (index : ℕ) (digest : List ℕ) → lookup index (acknowledged_rows s) ≡ Some digest → lookup index (acknowledged_rows t) ≡ Some digest
  pub at_most : (index : ℕ) (digest : List ℕ) → lookup index (acknowledged_rows t) ≡ Some digest → (lookup index (acknowledged_rows s) ≡ Some digest) ⊎ (lookup index s.begun ≡ Some digest)

abbrev pub ReopensByLists : Type 0
ReopensByLists = (s t : FileState) → Rise s.damaged → Rise s.compressed → IsReopenedAs s t → IsReopening s t
