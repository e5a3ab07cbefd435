use Rattle.std.proofs.Common.{◌≡◌, ◌+◌, length}
use Rattle.inc_index.specs.Place.{place_by_id}
use Rattle.inc_index.proofs.index.place_of.Given as goal

abbrev pub invariant-loop-rest : goal.invariant-loop-rest
invariant-loop-rest l = record {
  value : l.at + place_by_id l.id l.rest ≡ place_by_id l.id l.files;
  within : l.at + length l.rest ≡ length l.files;
}

abbrev pub decreases-loop-rest : goal.decreases-loop-rest
decreases-loop-rest l = length l.rest
