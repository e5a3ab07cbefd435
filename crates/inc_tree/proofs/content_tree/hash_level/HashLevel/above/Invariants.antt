use Rattle.std.proofs.Common.{map, take}
use Rattle.sha2.specs.Sha256.{sha256}
use Rattle.inc_tree.specs.content_tree.HashLevel.{KeepsDigests}
use Rattle.inc_tree.proofs.content_tree.hash_level.HashLevel.above.Given as goal

abbrev pub invariant-loop-block : goal.invariant-loop-block
invariant-loop-block l = KeepsDigests (map sha256 (take l.block-index l.block-items)) l.above
