-- The root of a content's Merkle tree, and the hash blocks between the content and its root (fs-verity): the content is cut into blocks,
-- and while there is more than one digest each 128 of them are joined, filled up with zeros to 4096, and hashed.
use Rattle.std.specs.Prelude.{◌≡◌, ℕ, zero, suc, ◌*◌, nat_le, if◌then◌else◌, List, [], ◌++◌, length, map, take, drop, replicate, All, slice_index_or}
use Rattle.std.specs.List.{concat, range_with_len}
use Rattle.sha2.specs.Sha256.{sha256}
use Rattle.inc_tree.specs.shape.Geometry.{Shape, blocks_of, blocks_above, depth, path_block}
use Rattle.inc_tree.specs.read_block.Path.{padded, block_digest}

-- a data block's bytes of the content: the last block may have fewer than 4096
abbrev pub content_block : List ℕ → ℕ → List ℕ
content_block content index = take 4096 (drop (4096 * index) content)

-- the digests of a content's blocks
abbrev pub leaf_digests : List ℕ → List (List ℕ)
leaf_digests content = map (λ index. block_digest (content_block content index)) (range_with_len 0 (blocks_of (length content)))

-- the hash block of the k-th 128 digests: they are joined, and zeros stand after the last one
abbrev pub joined_block : List (List ℕ) → ℕ → List ℕ
joined_block digests k = padded (concat (take 128 (drop (128 * k) digests)))

-- the hash blocks that hold these digests
abbrev pub level_over : List (List ℕ) → List (List ℕ)
level_over digests = map (joined_block digests) (range_with_len 0 (blocks_above (length digests)))

-- the root over these digests, by at most so many levels: the one digest that is left, or 32 zeros where there was none
unfoldable pub root_over : ℕ → List (List ℕ) → List ℕ
root_over zero digests = slice_index_or digests 0 (replicate 32 0)
root_over (suc most) digests =
    if nat_le (length digests) 1 then slice_index_or digests 0 (replicate 32 0) else root_over most (map sha256 (level_over digests))

-- the hash blocks of those levels, the top level first
unfoldable pub area_over : ℕ → List (List ℕ) → List (List ℕ)
area_over zero digests = []
area_over (suc most) digests =
    if nat_le (length digests) 1 then [] else area_over most (map sha256 (level_over digests)) ++ level_over digests

-- the root of a content: nine levels are enough for every content below 2 ^ 64 bytes
abbrev pub root_of : List ℕ → List ℕ
root_of content = root_over 9 (leaf_digests content)

-- a content's hash blocks, in the order of the hash area
abbrev pub area_of : List ℕ → List (List ℕ)
area_of content = area_over 9 (leaf_digests content)

-- the hash blocks of an area that a data block's path goes through, leaf level first
abbrev pub path_through : Shape → List (List ℕ) → ℕ → List (List ℕ)
path_through shape area index = map (λ level. slice_index_or area (path_block shape index level) []) (range_with_len 0 (depth shape))

-- each of them has the bytes of a digest
abbrev pub AreDigests : List (List ℕ) → Type 0
AreDigests digests = All (λ digest. length digest ≡ 32) digests
