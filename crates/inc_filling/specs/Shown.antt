-- What a group's events make of a file's bytes, in the order in which they come: all blocks, then the places of those that were stored,
-- then their gates.
use Rattle.std.specs.Prelude.{◌≡◌, ℕ, ◌+◌, Bool, not, List, [], ◌∷◌, Some, if◌then◌else◌}
use Rattle.inc_bytes.specs.Fields.{le_bytes}
use Rattle.inc_entry.specs.Entry.{area_places, entry_at}
use Rattle.inc_disk.specs.Disk.{overwritten, reads_of}
use Rattle.inc_layout.specs.declared.opened.Opened.{Opened}
use Rattle.inc_model.specs.relation.State.{Digests, is_in}
use Rattle.inc_cell.specs.seen.Seen.{Seen, spots_now}
use Rattle.inc_cell.specs.seen.Spots.{changed_at}
use Rattle.inc_filling.specs.Contents.{place_in}
use Rattle.inc_filling.specs.Grouped.{stored_of, group_indices}
use Rattle.inc_filling.specs.declared.filling.Filling.{Filling}

-- the bytes of a file, and where the block of each index is
pub record SpottedBytes : Type 0 where
  pub bytes : List ℕ
  pub spot : ℕ → ℕ

-- the disk tells these bytes, and the cell has these places
pub record ShowsFile (seen : Seen) (file : SpottedBytes) : Type 0 where
  pub reads : reads_of seen.states ≡ Some file.bytes
  pub spots : spots_now seen ≡ file.spot

-- ---- a write each

abbrev pub with_block : Opened → SpottedBytes → Filling → SpottedBytes
with_block opened file filling =
    let place = place_in opened file.bytes filling.index in
    record { bytes = overwritten place filling.block.bytes file.bytes; spot = changed_at filling.index place file.spot }

abbrev pub with_place_of : Opened → SpottedBytes → ℕ → SpottedBytes
with_place_of opened file index = record { bytes = overwritten (entry_at (area_places opened.areas) index) (le_bytes 6 (file.spot index)) file.bytes; spot = file.spot }

abbrev pub with_gate : Opened → SpottedBytes → ℕ → SpottedBytes
with_gate opened file index = record { bytes = overwritten (entry_at (area_places opened.areas) index + 7) (16 ∷ []) file.bytes; spot = file.spot }

-- ---- all of them

abbrev pub with_stored : Opened → SpottedBytes → Filling → Bool → SpottedBytes
with_stored opened file filling put = if put then with_block opened file filling else file

-- the blocks of those that aren't open
abbrev pub with_blocks : Opened → Digests → SpottedBytes → List Filling → SpottedBytes
with_blocks opened open_ones file [] = file
with_blocks opened open_ones file (filling ∷ group) = with_blocks opened open_ones (with_stored opened file filling (not (is_in filling.index open_ones))) group

abbrev pub with_places : Opened → SpottedBytes → List ℕ → SpottedBytes
with_places opened file [] = file
with_places opened file (index ∷ indices) = with_places opened (with_place_of opened file index) indices

abbrev pub with_gates : Opened → SpottedBytes → List ℕ → SpottedBytes
with_gates opened file [] = file
with_gates opened file (index ∷ indices) = with_gates opened (with_gate opened file index) indices

abbrev pub with_group : Opened → Digests → SpottedBytes → List Filling → SpottedBytes
with_group opened open_ones file group =
    let stored = stored_of open_ones (group_indices group) in
    with_gates opened (with_places opened (with_blocks opened open_ones file group) stored) stored
