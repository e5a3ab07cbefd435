-- A checked block, and what a check makes it from.
use Rattle.std.specs.Prelude.{◌≡◌, ℕ, List, take}
use Rattle.inc_tree.specs.declared.read_block.verified.Verified.{Verified}
use Rattle.inc_tree.specs.shape.Geometry.{Shape, block_len}
use Rattle.inc_tree.specs.read_block.Path.{padded}

-- the block's bytes of the file's content
abbrev pub content_of : Verified → List ℕ
content_of block = take block.len block.bytes

-- the bytes of a data block's content, of those that were given
abbrev pub content_at : Shape → ℕ → List ℕ → List ℕ
content_at shape index bytes = take (block_len shape index) bytes

-- the checked block is that of these arguments, and after its length it has zeros
pub record IsMadeOf (root : List ℕ) (shape : Shape) (index : ℕ) (bytes : List ℕ) (path : List (List ℕ)) (block : Verified) : Type 0 where
  pub root_is : block.root ≡ root
  pub geometry_is : block.geometry ≡ shape
  pub index_is : block.index ≡ index
  pub len_is : block.len ≡ block_len shape index
  pub bytes_are : block.bytes ≡ padded (content_at shape index bytes)
  pub path_is : block.path ≡ path
