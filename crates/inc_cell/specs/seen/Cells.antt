-- How the fields of a cell keep what contracts see of it.
use Rattle.std.specs.Prelude.{◌≡◌, ℕ, ◌<◌, List, length, slice_index}
use Rattle.inc_entry.specs.Entry.{area_places, entries}
use Rattle.inc_model.specs.declared.words.file_state.FileState.{FileState}
use Rattle.inc_cell.specs.seen.Seen.{CellHolds, Seen, spots_now, state_now}

-- `state` is that of the book, and `spots` has the place of each index's block
pub record KeepsCell (seen : Seen) (state : FileState) (spots : List ℕ) (end : ℕ) : Type 0 where
  pub holds : CellHolds seen end
  pub state_is : state ≡ state_now seen
  pub each : length spots ≡ entries (area_places seen.opened.areas)
  pub shown : (i : ℕ) → i < entries (area_places seen.opened.areas) → slice_index spots i ≡ spots_now seen i
