-- What contracts see of a cell.
use Rattle.std.specs.Prelude.{◌≡◌, ℕ, ◌+◌, ◌*◌, ◌^◌, ◌<◌, ◌≤◌, Bool, List, length, Option, Some, None, is_some}
use Rattle.inc_disk.specs.Disk.{DiskState, Now, reads_of}
use Rattle.inc_fill.specs.Steps.{HasLen}
use Rattle.inc_layout.specs.opening.Opening.{IsSoundOpened}
use Rattle.inc_layout.specs.state.State.{StateParts}
use Rattle.inc_layout.specs.declared.opened.Opened.{Opened}
use Rattle.inc_model.specs.relation.State.{Digests, flight_row}
use Rattle.inc_model.specs.relation.Step.{IsLegal, state_after}
use Rattle.inc_model.specs.declared.words.file_state.FileState.{FileState}
use Rattle.inc_model.specs.declared.words.file_state.FlightRow.{FlightRow}
use Rattle.inc_model.specs.declared.words.reply.Entry.{Entry}
use Rattle.inc_readlog.specs.Log.{LoggedReads, Tells}
use Rattle.inc_cell.specs.events.Ended.{ended_reads}
use Rattle.inc_cell.specs.laws.Laws.{BeginsAs}
use Rattle.inc_cell.specs.seen.Parts.{parts_of}
use Rattle.inc_cell.specs.seen.Spots.{opened_spot, spot_after}
use Rattle.inc_cell.specs.seen.Standing.{Standing}

pub record Seen : Type 0 where
  -- the states of the disk, newest first; none where it tells nothing
  pub states : List DiskState
  -- the disk's count of faults
  pub count : ℕ
  -- the file as it was mounted, and the state in which it began
  pub opened : Opened
  pub opening : FileState
  pub history : List Entry
  pub log : LoggedReads

-- the state of the file now
abbrev pub state_now : Seen → FileState
state_now seen = state_after 0 seen.opening seen.history

-- the disk tells what it holds
abbrev pub tells : List DiskState → Bool
tells states = is_some (reads_of states)

-- where the block of each index is
abbrev pub spots_now : Seen → ℕ → ℕ
spots_now seen = spot_after (opened_spot seen.opened) seen.history

-- ---- what holds of each cell

-- How a state stands on the disk, where the disk tells. `end` is where the next data block goes.
pub record StandsNow (opened : Opened) (parts : StateParts) (digests : Digests) (flight : List FlightRow) (failed : Option ℕ) (spot : ℕ → ℕ) (end : ℕ) (states : List DiskState) : Type 0 where
  pub stands : Now states (Standing opened parts digests flight spot)
  pub ends : failed ≡ None → HasLen states end

abbrev pub StandsIn : Opened → FileState → (ℕ → ℕ) → ℕ → List DiskState → Type 0
StandsIn opened s spot end states = StandsNow opened (parts_of s) s.map s.flight s.failed spot end states

pub record CellHolds (seen : Seen) (end : ℕ) : Type 0 where
  -- the file that was mounted
  pub sound : IsSoundOpened seen.opened
  pub short : seen.opened.len ≤ 2 ^ 46
  pub begins : BeginsAs seen.opened seen.opening
  pub legal : IsLegal 0 (tells seen.states) seen.opening seen.history
  pub counted : (state_now seen).faults ≤ seen.count
  pub grown : end ≤ seen.opened.len + 4096 * length seen.history
  pub standing : StandsIn seen.opened (state_now seen) (spots_now seen) end seen.states
  -- the place of each block in flight fits in its entry
  pub spots_fit : (i : ℕ) (found : FlightRow) → flight_row i (state_now seen).flight ≡ Some found → spots_now seen i < 2 ^ 48
  -- the log has the last reads that ended
  pub logged : Tells (ended_reads 0 seen.opening seen.history) seen.log
