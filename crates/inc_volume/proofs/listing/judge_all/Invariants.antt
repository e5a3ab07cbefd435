use Rattle.std.proofs.Common.{◌≡◌, ◌++◌, length}
use Rattle.inc_volume.specs.Verdicts.{holder_in, judged_rows}
use Rattle.inc_volume.proofs.listing.judge_all.Given as goal

abbrev pub invariant-loop-rest : goal.invariant-loop-rest
invariant-loop-rest l = l.list ++ judged_rows (holder_in l.all) l.rest ≡ judged_rows (holder_in l.all) l.all

abbrev pub decreases-loop-rest : goal.decreases-loop-rest
decreases-loop-rest l = length l.rest
