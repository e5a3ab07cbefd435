use Rattle.std.proofs.Common.{map}
use Rattle.std.specs.List.{range_with_len}
use Rattle.inc_tree.specs.content_tree.HashLevel.{KeepsDigests}
use Rattle.inc_tree.specs.read_block.Path.{block_digest}
use Rattle.inc_tree.specs.content_tree.Root.{content_block}
use Rattle.inc_tree.proofs.content_tree.build.Given as goal

abbrev pub invariant-loop-index : goal.invariant-loop-index
invariant-loop-index l = KeepsDigests (map (λ i. block_digest (content_block l.content i)) (range_with_len 0 l.index)) l.leaves
