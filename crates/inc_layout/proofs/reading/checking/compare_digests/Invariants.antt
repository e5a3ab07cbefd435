use Rattle.std.proofs.Common.{ℕ, List}
use Rattle.inc_tree.proofs.PathLemmas.{HoldsBelow}
use Rattle.inc_layout.specs.reading.Checking.{KnowsPath}
use Rattle.inc_layout.proofs.reading.checking.compare_digests.Given as goal

abbrev pub invariant-loop-level : goal.invariant-loop-level
invariant-loop-level l = (content : List ℕ) (hashes : List (List ℕ)) → KnowsPath l.opened l.path l.index content hashes
    → HoldsBelow l.root l.index content hashes l.level l.level l.got
