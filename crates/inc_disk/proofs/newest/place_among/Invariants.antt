use Rattle.std.proofs.Common.{◌≡◌, ◌+◌, length}
use Rattle.inc_disk.specs.Book.{place_among}
use Rattle.inc_disk.proofs.newest.place_among.Given as goal

abbrev pub invariant-loop-rest : goal.invariant-loop-rest
invariant-loop-rest l = record {
  value : l.at + place_among l.name l.rest ≡ place_among l.name l.names;
  within : l.at + length l.rest ≡ length l.names;
}

abbrev pub decreases-loop-rest : goal.decreases-loop-rest
decreases-loop-rest l = length l.rest
