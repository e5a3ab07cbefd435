use Rattle.std.proofs.Common.{◌≡◌, ◌++◌, length}
use Rattle.inc_index.specs.Index.{incomplete_listed}
use Rattle.inc_index.proofs.index.incomplete_listed.Given as goal

abbrev pub invariant-loop-rest : goal.invariant-loop-rest
invariant-loop-rest l = l.list ++ incomplete_listed l.rest ≡ incomplete_listed l.files

abbrev pub decreases-loop-rest : goal.decreases-loop-rest
decreases-loop-rest l = length l.rest
