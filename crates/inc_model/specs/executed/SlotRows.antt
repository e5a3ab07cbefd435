-- Slots by index, and the rising lists that they are: the slot at place i is that of index i.
use Rattle.std.specs.Prelude.{◌≡◌, ℕ, ◌+◌, ◌^◌, ◌<◌, Bool, true, false, replicate, List, [], ◌∷◌, ◌++◌, length, count_by, Option, Some, None, if◌then◌else◌, nat_lt, nat_le}
use Rattle.inc_model.specs.declared.indices.slots.Slot.{Slot}
use Rattle.inc_model.specs.relation.State.{Digests, keys_of}
use Rattle.inc_model.specs.executed.IndexLists.{IndexLists}

-- ---- rows of what is there

module _ {V : Type 0} where
  abbrev pub row_of : ℕ → Option V → List (ℕ × V)
  row_of index None = []
  row_of index (Some value) = (index, value) ∷ []

module _ {X V : Type 0} where
  -- the rows of those that have a value, where the first has this index
  unfoldable pub rows_from : (X → Option V) → ℕ → List X → List (ℕ × V)
  rows_from value first [] = []
  rows_from value first (x ∷ xs) = row_of first (value x) ++ rows_from value (first + 1) xs

-- ---- what a slot tells

abbrev pub open_digest : Slot → Option (List ℕ)
open_digest slot = if slot.is_open then Some slot.digest else None

abbrev pub begun_digest_in : Slot → Option (List ℕ)
begun_digest_in slot = if slot.is_begun then Some slot.digest else None

abbrev pub acknowledged_mark : Slot → Option (List ℕ)
acknowledged_mark slot = if slot.is_acknowledged then Some [] else None

abbrev pub open_rows : List Slot → Digests
open_rows slots = rows_from open_digest 0 slots

abbrev pub begun_rows : List Slot → Digests
begun_rows slots = rows_from begun_digest_in 0 slots

abbrev pub acknowledged_in_slots : List Slot → List ℕ
acknowledged_in_slots slots = keys_of (rows_from acknowledged_mark 0 slots)

-- the slot of an index as a file is opened: what is open is acknowledged
abbrev pub slot_of_opened : Option (List ℕ) → Slot
slot_of_opened None = record { digest = replicate 32 0; is_open = false; is_begun = false; is_acknowledged = false }
slot_of_opened (Some digest) = record { digest = digest; is_open = true; is_begun = false; is_acknowledged = true }

abbrev pub begun_slot : List ℕ → Slot → Slot
begun_slot digest slot = record slot { digest = digest; is_begun = true }

abbrev pub opened_slot : List ℕ → Slot → Slot
opened_slot digest slot = record slot { digest = digest; is_open = true; is_begun = true }

abbrev pub acknowledged_slot : Slot → Slot
acknowledged_slot slot = record slot { is_acknowledged = true }

-- one where the slot is open, and counted
abbrev pub counted_open : Slot → Bool → ℕ
counted_open slot counted = if slot.is_open then if counted then 1 else 0 else 0

-- how many more are open where the index of this slot is opened
abbrev pub more_open : Slot → Bool → ℕ
more_open slot counted = if slot.is_open then 0 else if counted then 1 else 0

-- the digests that are there, of a list by index
abbrev pub digest_rows : List (Option (List ℕ)) → Digests
digest_rows digests = rows_from (λ digest. digest) 0 digests

-- what slots tell, of a file with so many data and hash blocks
abbrev pub slot_lists : ℕ → ℕ → List Slot → IndexLists
slot_lists n m slots = record { n = n; m = m; map = open_rows slots; begun = begun_rows slots; acknowledged = acknowledged_in_slots slots }

-- all that is known of a file as it is opened: what is open is acknowledged
abbrev pub opened_lists : ℕ → ℕ → Digests → IndexLists
opened_lists n m held = record { n = n; m = m; map = held; begun = []; acknowledged = keys_of held }

-- ---- what such slots hold to

pub record HoldsSlots (n m : ℕ) (slots : List Slot) (data_count hash_count : ℕ) : Type 0 where
  pub each : length slots ≡ n + m
  pub few : n + m < 2 ^ 32
  pub data_blocks : data_count ≡ count_by (λ row. nat_lt row.0 n) (open_rows slots)
  pub hash_blocks : hash_count ≡ count_by (λ row. nat_le n row.0) (open_rows slots)
