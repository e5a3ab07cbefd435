use Rattle.std.proofs.Common.{◌≡◌, map, vec_len}
use Rattle.std.specs.List.{range_with_len}
use Rattle.inc_tree.specs.content_tree.HashLevel.{KeepsDigests}
use Rattle.inc_tree.specs.read_block.Path.{block_digest}
use Rattle.inc_tree.specs.content_tree.Root.{content_block}
use Rattle.inc_loader.specs.Content.{generated_content}
use Rattle.inc_loader.proofs.gen_loader.content.generated_tree.Given as goal

abbrev pub invariant-loop-index : goal.invariant-loop-index
invariant-loop-index l = record {
  digests : KeepsDigests (map (λ i. block_digest (content_block (generated_content l.number l.geometry.size) i)) (range_with_len 0 l.index)) l.leaves;
  room : vec_len l.room ≡ 4096;
}
