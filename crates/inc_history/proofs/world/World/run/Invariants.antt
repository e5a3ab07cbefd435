-- all entries of the rounds before the place are legal, and leave the state
use Rattle.inc_history.proofs.Rounds.{RanRounds}
use Rattle.inc_history.proofs.world.World.run.Given as goal

abbrev pub invariant-loop-round : goal.invariant-loop-round
invariant-loop-round l = RanRounds l.rounds l.round-index l.done l.core.state
