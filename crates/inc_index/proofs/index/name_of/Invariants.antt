use Rattle.std.proofs.Common.{◌≡◌, length}
use Rattle.inc_index.specs.Index.{name_of_id}
use Rattle.inc_index.proofs.index.name_of.Given as goal

abbrev pub invariant-loop-rest : goal.invariant-loop-rest
invariant-loop-rest l = name_of_id l.id l.rest ≡ name_of_id l.id l.files

abbrev pub decreases-loop-rest : goal.decreases-loop-rest
decreases-loop-rest l = length l.rest
