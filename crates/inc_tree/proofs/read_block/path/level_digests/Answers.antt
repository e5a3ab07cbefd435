use Rattle.inc_tree.proofs.PathLemmas.{digests_of_levels}
use Rattle.inc_tree.proofs.read_block.path.level_digests.Goals as goal

pub returns : goal.returns
returns c = record {
  each =
      digests_of_levels c.args.bytes.now c.padded_leaf-leaf.result c.args.path.now c.digest_four.result c.fourth_digest.result c.padded_leaf-leaf.ensures.value
      (rw (← c.block_or.ensures.value, ← c.block_or-2.ensures.value, ← c.block_or-3.ensures.value) c.digest_four.ensures.value)
      c.fourth_digest.ensures.value c.requires.low;
}
