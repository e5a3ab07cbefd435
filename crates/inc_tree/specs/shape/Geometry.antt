-- The shape of a file's Merkle tree: that of fs-verity with SHA-256 and blocks of 4096 bytes, so that a hash block holds 128 digests.
-- Level 0 is the leaf level, whose digests are those of the data blocks. In the hash area the top level comes first, the leaf level last.
-- A file without a signature has no tree: its shape is flat.
use Rattle.std.specs.Prelude.{◌≡◌, ℕ, zero, suc, ◌+◌, ◌-◌, ◌*◌, ◌/◌, ◌%◌, ◌^◌, ◌<◌, ◌≤◌, nat_lt, nat_le, nat_eq, min, Bool, true, false, if◌then◌else◌, List, [], ◌∷◌, length, drop, slice_index}

-- the bytes of a content, and whether it has no tree
pub record Shape : Type 0 where
  pub size : ℕ
  pub flat : Bool

-- a content of this size with a tree over it
abbrev pub tree_of : ℕ → Shape
tree_of n = record { size = n; flat = false }

-- a content of this size without one
abbrev pub flat_of : ℕ → Shape
flat_of n = record { size = n; flat = true }

-- the blocks that so many bytes fill, the last one perhaps in part
abbrev pub blocks_of : ℕ → ℕ
blocks_of bytes = (bytes + 4095) / 4096

abbrev pub data_blocks : Shape → ℕ
data_blocks shape = blocks_of shape.size

-- the hash blocks that hold the digests of so many blocks
abbrev pub blocks_above : ℕ → ℕ
blocks_above count = (count + 127) / 128

-- in words: while a level has more than one block, the next level has its count divided by 128, rounded up. `below` is the count under the list
abbrev pub IsLevels : ℕ → List ℕ → Type 0
IsLevels below [] = below ≤ 1
IsLevels below (count ∷ above) = (1 < below) × (count ≡ blocks_above below) × IsLevels count above

-- the counts of at most so many levels over a level of `below` blocks, leaf level first
unfoldable pub levels : ℕ → ℕ → List ℕ
levels zero below = []
levels (suc most) below = if nat_le below 1 then [] else blocks_above below ∷ levels most (blocks_above below)

-- the counts of a tree's levels, leaf level first: nine levels are enough for every file below 2 ^ 64 bytes
unfoldable pub level_counts : Shape → List ℕ
level_counts shape = if shape.flat then [] else levels 9 (data_blocks shape)

abbrev pub depth : Shape → ℕ
depth shape = length (level_counts shape)

-- the sum of a list of counts
abbrev pub total : List ℕ → ℕ
total [] = 0
total (count ∷ counts) = count + total counts

abbrev pub hash_blocks : Shape → ℕ
hash_blocks shape = total (level_counts shape)

-- the hash blocks of a level
abbrev pub level_count : Shape → ℕ → ℕ
level_count shape level = slice_index (level_counts shape) level

-- the number of a level's first hash block: all levels above it come before it
abbrev pub level_start : Shape → ℕ → ℕ
level_start shape level = total (drop (level + 1) (level_counts shape))

-- The place of a digest in the hash area, in two numbers: the hash block at this level on the path of a data block, and which of its 128
-- digests the path goes through.
abbrev pub path_block : Shape → ℕ → ℕ → ℕ
path_block shape index level = level_start shape level + index / 128 ^ (level + 1)

abbrev pub path_slot : ℕ → ℕ → ℕ
path_slot index level = (index / 128 ^ level) % 128

-- the bytes of a block: data blocks come first, then hash blocks, which are whole
abbrev pub block_len : Shape → ℕ → ℕ
block_len shape index = if nat_lt index (data_blocks shape) then min 4096 (shape.size - 4096 * index) else 4096

-- a shape with so many data and hash blocks, for one who knows no more of it: its levels are those of every such shape
abbrev pub shape_of : ℕ → ℕ → Shape
shape_of n m = record { size = 4096 * n; flat = nat_eq m 0 }
