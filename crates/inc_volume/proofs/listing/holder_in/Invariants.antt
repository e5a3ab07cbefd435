use Rattle.std.proofs.Common.{◌≡◌, length}
use Rattle.inc_volume.specs.Verdicts.{holder_in}
use Rattle.inc_volume.proofs.listing.holder_in.Given as goal

abbrev pub invariant-loop-rest : goal.invariant-loop-rest
invariant-loop-rest l = holder_in l.rest l.id ≡ holder_in l.all l.id

abbrev pub decreases-loop-rest : goal.decreases-loop-rest
decreases-loop-rest l = length l.rest
