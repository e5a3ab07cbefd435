use Rattle.std.proofs.Common.{length}
use Rattle.inc_session.proofs.driving.pieces.+fill_given.Given as goal

abbrev pub decreases-fill_given : goal.decreases-fill_given
decreases-fill_given g l = length l.pieces.now
