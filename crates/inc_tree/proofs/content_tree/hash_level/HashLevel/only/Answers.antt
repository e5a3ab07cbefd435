use Rattle.std.proofs.Common.{◌∙◌, arith}
use Rattle.inc_tree.proofs.RootLemmas.{only_digest}
use Rattle.inc_tree.proofs.content_tree.hash_level.HashLevel.only.Goals as goal

pub returns-in-Some : goal.returns-in-Some
returns-in-Some c = record {
  value = λ digests keeps.
      only_digest digests c.deref.result.now c.in-Some.block.now c.slot_digest.result (c.deref.ensures.value ∙ keeps.blocks_are) keeps.sized (omega (arith, keeps.count_is, c.requires))
      c.in-Some.ensures.item.3.0 c.in-Some.ensures.item.1 c.slot_digest.ensures.value;
}
