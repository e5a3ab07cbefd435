-- A cell as it is made of a mounted file.
use Rattle.std.specs.Prelude.{ℕ, List, [], map}
use Rattle.inc_disk.specs.Disk.{DiskState}
use Rattle.inc_entry.specs.declared.classes.Class.{Class}
use Rattle.inc_layout.specs.declared.opened.Opened.{Opened}
use Rattle.inc_readlog.specs.Log.{empty_log}
use Rattle.inc_cell.specs.seen.Parts.{opening_of}
use Rattle.inc_cell.specs.seen.Seen.{Seen}
use Rattle.inc_cell.specs.seen.Spots.{spot_of}
use Rattle.inc_cell.specs.declared.parts.opening.TheConstants.{LOGGED_READS}

-- the places of the blocks that are there, by index
abbrev pub opened_spots : List Class → List ℕ
opened_spots classes = map spot_of classes

abbrev pub cell_on : List DiskState → ℕ → Opened → ℕ → Seen
cell_on states faults opened readers = record {
  states = states;
  count = faults;
  opened = opened;
  opening = opening_of opened faults readers;
  history = [];
  log = empty_log LOGGED_READS;
}
