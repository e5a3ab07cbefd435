use Rattle.std.proofs.Common.{[], get_or}
use Rattle.inc_tree.proofs.PathLemmas.{HoldsBelow}
use Rattle.inc_tree.proofs.read_block.path.compare_levels.Given as goal

abbrev pub invariant-loop-block : goal.invariant-loop-block
invariant-loop-block l = HoldsBelow l.root l.index l._bytes l.path l.block-index l.level (get_or l.digests l.level [])
