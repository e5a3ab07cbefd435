-- What the bytes of a file say of the block of an index: its class, its own bytes at their place, and their digest.
use Rattle.std.specs.Prelude.{ℕ, Bool, true, false, List, length, take, drop, Option, Some, None}
use Rattle.inc_tree.specs.shape.Geometry.{block_len}
use Rattle.inc_tree.specs.read_block.Path.{block_digest}
use Rattle.inc_entry.specs.Entry.{Places, class_of, entry_at, entry_from, past_end}
use Rattle.inc_entry.specs.declared.classes.Class.{Class}
use Rattle.inc_entry.specs.declared.classes.Class.TheVariants.{OpenAt, Compressed, Damaged}

-- `count` bytes from a place on
abbrev pub part : ℕ → ℕ → List ℕ → List ℕ
part count at bytes = take count (drop at bytes)

abbrev pub class_at : Places → List ℕ → ℕ → Class
class_at places bytes i = class_of places (length bytes) i (entry_from bytes (entry_at places i))

-- the entry names a block that isn't inside the file
abbrev pub is_past : Places → List ℕ → ℕ → Bool
is_past places bytes i = past_end places (length bytes) i (entry_from bytes (entry_at places i))

-- a block's own bytes at its place. What else a last block was stored with isn't looked at
abbrev pub stored_content : Places → List ℕ → ℕ → ℕ → List ℕ
stored_content places bytes i place = part (block_len places.shape i) place bytes

-- they are hashed with zeros after them, up to 4096
abbrev pub digest_at : Places → List ℕ → ℕ → ℕ → List ℕ
digest_at places bytes i place = block_digest (stored_content places bytes i place)

-- an open entry has a digest, and no other one has
abbrev pub digest_of : Places → List ℕ → ℕ → Class → Option (List ℕ)
digest_of places bytes i (OpenAt place size) = Some (digest_at places bytes i place)
digest_of places bytes i class = None

abbrev pub stored_digest : Places → List ℕ → ℕ → Option (List ℕ)
stored_digest places bytes i = digest_of places bytes i (class_at places bytes i)

-- ---- tests of a class

abbrev pub is_open_class : Class → Bool
is_open_class (OpenAt place size) = true
is_open_class class = false

abbrev pub is_damaged_class : Class → Bool
is_damaged_class Damaged = true
is_damaged_class class = false

abbrev pub is_compressed_class : Class → Bool
is_compressed_class Compressed = true
is_compressed_class class = false
