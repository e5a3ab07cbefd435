-- Between two groups: a cell that the next group may be filled into.
use Rattle.std.specs.Prelude.{ℕ, List}
use Rattle.inc_disk.specs.Disk.{DiskState}
use Rattle.inc_layout.specs.opening.Opening.{IsSoundOpened}
use Rattle.inc_layout.specs.declared.opened.Opened.{Opened}
use Rattle.inc_cell.specs.seen.Opens.{cell_on}
use Rattle.inc_cell.specs.seen.Seen.{Seen, state_now}
use Rattle.inc_filling.specs.Refusals.{IsStateOfFile}
use Rattle.inc_filling.specs.Stands.{IsAtRest}

-- nothing is in flight or claimed, what is open is acknowledged, and the state is that of the file that was opened
pub record IsFillable (seen : Seen) : Type 0 where
  pub idle : IsAtRest seen
  pub of_file : IsStateOfFile seen.opened (state_now seen)

-- a cell that was made of a mounted file is so
abbrev pub NewCellsAreFillable : Type 0
NewCellsAreFillable = (states : List DiskState) (faults readers : ℕ) (opened : Opened) → IsSoundOpened opened → IsFillable (cell_on states faults opened readers)
