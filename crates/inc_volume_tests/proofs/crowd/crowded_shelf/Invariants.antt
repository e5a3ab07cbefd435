use Rattle.std.proofs.Common.{◌≡◌, []}
use Rattle.inc_volume_tests.proofs.crowd.crowded_shelf.Given as goal

abbrev pub invariant-loop-number : goal.invariant-loop-number
invariant-loop-number l = l.shelf.out ≡ []
