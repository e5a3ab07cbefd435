use Rattle.inc_turn.specs.Locks.{IsSameSeat}
use Rattle.inc_turn.proofs.tests.count_up.Given as goal

abbrev pub invariant-loop-serial : goal.invariant-loop-serial
invariant-loop-serial g l = IsSameSeat l.fn.seat l.seat
