-- A block with its digest.
use Rattle.std.specs.Prelude.{◌≡◌, ℕ, ◌≤◌, List, length, map, take}
use Rattle.std.specs.List.{zip}
use Rattle.inc_tree.specs.read_block.Path.{block_digest, padded}

pub record DigestedBlock : Type 0 where
  pub bytes : List ℕ
  -- so many of the bytes count
  pub len : ℕ
  pub digest : List ℕ

-- the bytes that count have zeros after them, and are hashed so
pub record IsDigested (d : DigestedBlock) : Type 0 where
  pub most : d.len ≤ 4096
  pub whole : length d.bytes ≡ 4096
  pub zeros : d.bytes ≡ padded (take d.len d.bytes)
  pub hashed : d.digest ≡ block_digest (take d.len d.bytes)

-- of a block whose first bytes count
abbrev pub digested : List ℕ → ℕ → DigestedBlock
digested block len = record { bytes = padded (take len block); len = len; digest = block_digest (take len block) }

-- a block with zeros after the bytes that count
abbrev pub HasZeros : List ℕ → ℕ → Type 0
HasZeros block len = block ≡ padded (take len block)

-- what a whole block becomes once zeros are put there
pub record IsCleared (old : List ℕ) (len : ℕ) (new : List ℕ) : Type 0 where
  pub whole : length old ≡ 4096
  pub zeros : new ≡ padded (take len old)

-- of the blocks of a group, each with its length, in their order
abbrev pub digested_each : List (List ℕ) → List ℕ → List DigestedBlock
digested_each blocks lens = map (λ (pair : List ℕ × ℕ). digested pair.0 pair.1) (zip blocks lens)
