-- A block as a reader is given it: proved by the root, or marked as unproved where its file has none.
use Rattle.std.specs.Prelude.{ℕ, Bool, true, false, List}
use Rattle.inc_tree.specs.declared.read_block.shown.Shown.{Shown}
use Rattle.inc_tree.specs.read_block.Verified.{content_of}
use Rattle.inc_tree.specs.read_block.Unproved.{unproved_content}
use Rattle.inc_tree.specs.declared.read_block.shown.Shown.TheVariants.{Proved, Unproved as without_proof}

abbrev pub is_proved : Shown → Bool
is_proved (Proved block) = true
is_proved (without_proof block) = false

abbrev pub shown_index : Shown → ℕ
shown_index (Proved block) = block.index
shown_index (without_proof block) = block.index

-- the bytes that the block has of the file's content, in number
abbrev pub shown_len : Shown → ℕ
shown_len (Proved block) = block.len
shown_len (without_proof block) = block.len

-- the whole block, with zeros after its length
abbrev pub shown_block : Shown → List ℕ
shown_block (Proved block) = block.bytes
shown_block (without_proof block) = block.bytes

-- the block's bytes of the file's content
abbrev pub shown_content : Shown → List ℕ
shown_content (Proved block) = content_of block
shown_content (without_proof block) = unproved_content block
