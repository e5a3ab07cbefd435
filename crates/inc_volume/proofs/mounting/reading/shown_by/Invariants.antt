use Rattle.std.proofs.Common.{◌≡◌, length}
use Rattle.inc_volume.specs.mounting.Targets.{shown_by}
use Rattle.inc_volume.proofs.mounting.reading.shown_by.Given as goal

abbrev pub invariant-loop-rest : goal.invariant-loop-rest
invariant-loop-rest l = shown_by l.rest l.name ≡ shown_by l.targets l.name

abbrev pub decreases-loop-rest : goal.decreases-loop-rest
decreases-loop-rest l = length l.rest
