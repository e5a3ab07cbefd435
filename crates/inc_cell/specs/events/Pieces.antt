-- Whether a piece of a fill is taken, by what was found of the file at its mount.
use Rattle.std.specs.Prelude.{ℕ, ◌+◌, ◌==◌, ◌||◌, Bool, not, nat_lt, if◌then◌else◌, List, [], ◌∷◌, slice_index_or}
use Rattle.inc_tree.specs.shape.Geometry.{Shape, block_len, data_blocks, hash_blocks}
use Rattle.inc_entry.specs.Stored.{is_compressed_class, is_damaged_class}
use Rattle.inc_entry.specs.declared.classes.Class.{Class}
use Rattle.inc_entry.specs.declared.classes.Class.TheVariants.{Damaged as damaged_class}
use Rattle.inc_layout.specs.declared.opened.Opened.{Opened}
use Rattle.inc_model.specs.declared.words.outcomes.FillError.{FillError}
use Rattle.inc_model.specs.declared.words.outcomes.FillError.TheVariants.{BadLength, Compressed, Damaged, OutOfRange}

-- the blocks of a piece's kind
abbrev pub kind_count : Shape → Bool → ℕ
kind_count shape hash = if hash then hash_blocks shape else data_blocks shape

-- the index of its block: the hash blocks come after the data blocks
abbrev pub piece_index : Shape → Bool → ℕ → ℕ
piece_index shape hash number = if hash then data_blocks shape + number else number

-- the tests of a block that the file has, in the order of refusal: it may be stored, in its own length or in that of a whole block
unfoldable pub stored_tests : Class → ℕ → ℕ → ℕ → List (Bool × FillError)
stored_tests class own_len compression len =
    (compression == 0, Compressed 0)
    ∷ (not (is_compressed_class class), Compressed 0)
    ∷ ((len == own_len) || (len == 4096), BadLength 0)
    ∷ (not (is_damaged_class class), Damaged 0)
    ∷ []

-- the tests of a piece, in the order of refusal
unfoldable pub piece_tests : Opened → Bool → ℕ → ℕ → ℕ → List (Bool × FillError)
piece_tests opened hash number compression len =
    let shape = opened.areas.geometry in
    let index = piece_index shape hash number in
    (nat_lt number (kind_count shape hash), OutOfRange 0)
    ∷ stored_tests (slice_index_or opened.classes index damaged_class) (block_len shape index) compression len
