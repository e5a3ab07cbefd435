-- A level of hash blocks that is filled digest by digest.
use Rattle.std.specs.Prelude.{◌≡◌, ℕ, List, length}
use Rattle.inc_tree.specs.declared.content_tree.hash_level.HashLevel.{HashLevel}
use Rattle.inc_tree.specs.content_tree.Root.{AreDigests, level_over}

-- the level has these digests, and none else
pub record KeepsDigests (digests : List (List ℕ)) (level : HashLevel) : Type 0 where
  pub count_is : level.count ≡ length digests
  pub sized : AreDigests digests
  pub blocks_are : level.blocks.items ≡ level_over digests
