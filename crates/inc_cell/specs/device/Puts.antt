-- The event of a put, by the block that it brings.
use Rattle.std.specs.Prelude.{ℕ, nat_lt, if◌then◌else◌, List, take}
use Rattle.inc_tree.specs.shape.Geometry.{block_len}
use Rattle.inc_tree.specs.read_block.Path.{block_digest}
use Rattle.inc_entry.specs.Entry.{area_places, entries}
use Rattle.inc_layout.specs.declared.opened.Opened.{Opened}

-- how many of a block's bytes count: of an index past the file's all
abbrev pub len_for : Opened → ℕ → ℕ
len_for opened index = if nat_lt index (entries (area_places opened.areas)) then block_len opened.areas.geometry index else 4096

-- the digest of those bytes, filled up with zeros
abbrev pub digest_for : Opened → ℕ → List ℕ → List ℕ
digest_for opened index block = block_digest (take (len_for opened index) block)
