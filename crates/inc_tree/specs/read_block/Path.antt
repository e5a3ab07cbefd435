-- A Merkle path from a data block to the root (fs-verity): at each level a hash block, leaf level first.
use Rattle.std.specs.Prelude.{◌≡◌, ◌≢◌, ℕ, zero, suc, ◌-◌, ◌*◌, ◌<◌, ◌≤◌, nat_lt, if◌then◌else◌, List, [], ◌++◌, length, take, drop, replicate, slice_index_or, Option, Some, None, bytes_eq}
use Rattle.sha2.specs.Sha256.{sha256}
use Rattle.inc_tree.specs.shape.Geometry.{Shape, depth, path_slot}

-- a block as it is hashed: zeros stand after its last byte, up to 4096
abbrev pub padded : List ℕ → List ℕ
padded bytes = bytes ++ replicate (4096 - length bytes) 0

abbrev pub block_digest : List ℕ → List ℕ
block_digest bytes = sha256 (padded bytes)

-- the hash block of a path at a level
abbrev pub block_at : List (List ℕ) → ℕ → List ℕ
block_at path level = slice_index_or path level []

-- one of the 128 digests of a hash block
abbrev pub slot_of : List ℕ → ℕ → List ℕ
slot_of block slot = take 32 (drop (32 * slot) block)

-- the digest that a level has to prove: below the leaf level that of the data block, elsewhere that of the hash block one level below
abbrev pub digest_below : List ℕ → List (List ℕ) → ℕ → List ℕ
digest_below bytes path zero = block_digest bytes
digest_below bytes path (suc level) = sha256 (block_at path level)

-- what stands for that digest: a slot of the level's hash block, and above the last level the root
abbrev pub digest_wanted : List ℕ → ℕ → List (List ℕ) → ℕ → List ℕ
digest_wanted root index path level =
    if nat_lt level (length path) then slot_of (block_at path level) (path_slot index level) else root

-- the path proves the block: at every level, the root's too, the two digests are one
pub record IsProof (root : List ℕ) (shape : Shape) (index : ℕ) (bytes : List ℕ) (path : List (List ℕ)) : Type 0 where
  pub full : length path ≡ depth shape
  pub each : (level : ℕ) → level ≤ length path → digest_below bytes path level ≡ digest_wanted root index path level

-- the path fails first at this level
pub record BreaksFirst (root : List ℕ) (index : ℕ) (bytes : List ℕ) (path : List (List ℕ)) (level : ℕ) : Type 0 where
  pub within : level ≤ length path
  pub differs : digest_below bytes path level ≢ digest_wanted root index path level
  pub first : (lower : ℕ) → lower < level → digest_below bytes path lower ≡ digest_wanted root index path lower

-- what is said of the level at which the path fails first: the digest that should be there, and the one that is
pub record NamesBreak (root : List ℕ) (index : ℕ) (bytes : List ℕ) (path : List (List ℕ)) (level : ℕ) (wanted got : List ℕ) : Type 0 where
  pub fails : BreaksFirst root index bytes path level
  pub wanted_is : wanted ≡ digest_wanted root index path level
  pub got_is : got ≡ digest_below bytes path level

-- the least failing level from `level` on, where so many more levels follow that one
unfoldable pub break_from : List ℕ → ℕ → List ℕ → List (List ℕ) → ℕ → ℕ → Option ℕ
break_from root index bytes path zero level =
    if bytes_eq (digest_below bytes path level) (digest_wanted root index path level) then None else Some level
break_from root index bytes path (suc more) level =
    if bytes_eq (digest_below bytes path level) (digest_wanted root index path level) then break_from root index bytes path more (suc level) else Some level

-- the least failing level, if the path fails
unfoldable pub first_break : List ℕ → ℕ → List ℕ → List (List ℕ) → Option ℕ
first_break root index bytes path = break_from root index bytes path (length path) 0
