-- What grows over a level of digests: a root, and the hash blocks of all levels below it.
use Rattle.std.specs.Prelude.{◌≡◌, ℕ, List}
use Rattle.inc_tree.specs.declared.content_tree.growth.Grown.{Grown}
use Rattle.inc_tree.specs.content_tree.Root.{root_over, area_over}

-- by at most so many levels
pub record GrowsFrom (most : ℕ) (digests : List (List ℕ)) (grown : Grown) : Type 0 where
  pub root_is : grown.root ≡ root_over most digests
  pub area_is : grown.blocks.items ≡ area_over most digests
