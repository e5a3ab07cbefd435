-- A block that no root vouches for.
use Rattle.std.specs.Prelude.{ℕ, List, take}
use Rattle.inc_tree.specs.declared.read_block.unproved.Unproved.{Unproved}

-- the block's bytes of the file's content
abbrev pub unproved_content : Unproved → List ℕ
unproved_content block = take block.len block.bytes
