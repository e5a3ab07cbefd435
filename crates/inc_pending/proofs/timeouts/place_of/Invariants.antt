-- the keys before the index are below
use Rattle.inc_pending.specs.Keyed.{Below}
use Rattle.inc_pending.proofs.timeouts.place_of.Given as goal

abbrev pub invariant-loop-i : goal.invariant-loop-i
invariant-loop-i l = Below l.rows l.i l.uid
