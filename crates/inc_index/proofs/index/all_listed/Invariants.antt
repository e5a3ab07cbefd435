use Rattle.std.proofs.Common.{◌≡◌, ◌++◌, length}
use Rattle.inc_index.specs.Index.{all_listed}
use Rattle.inc_index.proofs.index.all_listed.Given as goal

abbrev pub invariant-loop-rest : goal.invariant-loop-rest
invariant-loop-rest l = l.list ++ all_listed l.rest ≡ all_listed l.files

abbrev pub decreases-loop-rest : goal.decreases-loop-rest
decreases-loop-rest l = length l.rest
