-- The state in which a mounted file begins, and the parts of a state that a crash has to do with.
use Rattle.std.specs.Prelude.{ℕ}
use Rattle.inc_tree.specs.shape.Geometry.{data_blocks, hash_blocks}
use Rattle.inc_entry.specs.Stored.{is_compressed_class, is_damaged_class}
use Rattle.inc_layout.specs.Backing.{sig_root}
use Rattle.inc_layout.specs.state.Reopening.{indices_passing, rows_of}
use Rattle.inc_layout.specs.state.State.{StateParts}
use Rattle.inc_layout.specs.declared.opened.Opened.{Opened}
use Rattle.inc_model.specs.relation.Openings.{OpenedLists, acknowledged_rows, opening_state}
use Rattle.inc_model.specs.declared.words.file_state.FileState.{FileState}

-- what of a state is on the disk: the acknowledged indices with their digests, and those whose gate write began
abbrev pub parts_of : FileState → StateParts
parts_of s = record {
  id = s.id;
  root = s.root;
  data_count = s.n;
  hash_count = s.m;
  damaged = s.damaged;
  compressed = s.compressed;
  acknowledged = acknowledged_rows s;
  begun = s.begun;
}

-- ---- the opening

-- the open indices of a mounted file with their digests, and those that are damaged and compressed
abbrev pub lists_of : Opened → OpenedLists
lists_of opened = record {
  held = rows_of 0 opened.digests;
  damaged = indices_passing is_damaged_class 0 opened.classes;
  compressed = indices_passing is_compressed_class 0 opened.classes;
}

-- a mounted file, over a disk with this count of faults, and with so many readers
abbrev pub opening_of : Opened → ℕ → ℕ → FileState
opening_of opened faults readers =
    opening_state opened.header.id (data_blocks opened.areas.geometry) (hash_blocks opened.areas.geometry) (sig_root opened.sig) (lists_of opened) faults readers
