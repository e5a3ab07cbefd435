-- How a file's state stands on its disk.
--
-- The facts of its bytes may say more than the state does. A row whose gate is written is gone from the flight when its window is released,
-- and the bytes know of it until the next sync; that sync makes its block stay for good, while the state still calls it begun.
use Rattle.std.specs.Prelude.{◌≡◌, ◌⊎◌, ℕ, List, Option, Some, None}
use Rattle.inc_pending.specs.Keyed.{lookup}
use Rattle.inc_entry.specs.Entry.{area_places}
use Rattle.inc_entry.specs.Keeps.{Kind, Acknowledged}
use Rattle.inc_entry.specs.Stored.{stored_digest}
use Rattle.inc_disk.specs.Disk.{DiskState}
use Rattle.inc_fill.specs.Facts.{Facts, Row, row_at, Written, Placed, Settled, Gated}
use Rattle.inc_fill.specs.Facts.{Stage as FillStage}
use Rattle.inc_fill.specs.Laws.{SaysAsMuch}
use Rattle.inc_layout.specs.Backing.{fixed_in}
use Rattle.inc_layout.specs.fixed.Fixed.{IsFixed}
use Rattle.inc_layout.specs.state.Preserves.{Preserves}
use Rattle.inc_layout.specs.fixed.SameFixed.{HasSameFixed, is_fixed_byte}
use Rattle.inc_layout.specs.state.State.{StateParts, kind_in}
use Rattle.inc_layout.specs.declared.opened.Opened.{Opened}
use Rattle.inc_model.specs.relation.State.{Digests, flight_row}
use Rattle.inc_model.specs.declared.words.file_state.FileState.{FileState}
use Rattle.inc_model.specs.declared.words.file_state.FlightRow.{FlightRow}
use Rattle.inc_model.specs.declared.words.file_state.Stage.{Stage}
use Rattle.inc_model.specs.declared.words.file_state.Stage.TheVariants.{Written as written_stage, Placed as placed_stage, Settled as settled_stage, Gated as gated_stage}
use Rattle.inc_cell.specs.seen.Parts.{parts_of}

-- ---- a row in flight, as its bytes know it

abbrev pub fill_stage : Stage → FillStage
fill_stage written_stage = Written
fill_stage placed_stage = Placed
fill_stage settled_stage = Settled
fill_stage gated_stage = Gated

abbrev pub fill_row : FlightRow → Row
fill_row row = row_at row.digest (fill_stage row.stage)

-- ---- what the facts and the state say of each index

-- of an index that isn't in flight nothing is known, or its gate is written and it is in the map
abbrev pub IsResting : Option (List ℕ) → Option Row → Type 0
IsResting found row = (row ≡ None) ⊎ ((digest : List ℕ) × (found ≡ Some digest) × (row ≡ Some (row_at digest Gated)))

pub record Follows (parts : StateParts) (digests : Digests) (flight : List FlightRow) (kind : ℕ → Kind) (row : ℕ → Option Row) : Type 0 where
  pub covers : (i : ℕ) → SaysAsMuch (kind i) (kind_in parts i)
  pub flying : (i : ℕ) (found : FlightRow) → flight_row i flight ≡ Some found → row i ≡ Some (fill_row found)
  pub resting : (i : ℕ) → flight_row i flight ≡ None → IsResting (lookup i digests) (row i)
  -- what is in the map is there for good, or its gate is written
  pub opens : (i : ℕ) (digest : List ℕ) → lookup i digests ≡ Some digest → (kind i ≡ Acknowledged digest) ⊎ (row i ≡ Some (row_at digest Gated))

pub record Standing (opened : Opened) (parts : StateParts) (digests : Digests) (flight : List FlightRow) (spot : ℕ → ℕ) (disk : DiskState) : Type 0 where
  pub base : List ℕ
  pub kind : ℕ → Kind
  pub row : ℕ → Option Row
  pub fixed : IsFixed base (fixed_in opened)
  pub facts : Facts (area_places opened.areas) (is_fixed_byte (fixed_in opened)) base kind row spot disk
  pub follows : Follows parts digests flight kind row

-- ---- what a read finds

-- the bytes keep what a crash has to keep of the state, everything lies where the mount found it, and each block of the map is there
pub record ReadsAs (opened : Opened) (s : FileState) (bytes : List ℕ) : Type 0 where
  pub keeps : Preserves bytes (parts_of s)
  pub fixed : HasSameFixed bytes (fixed_in opened)
  pub whole : (i : ℕ) (digest : List ℕ) → lookup i s.map ≡ Some digest → stored_digest (area_places opened.areas) bytes i ≡ Some digest
