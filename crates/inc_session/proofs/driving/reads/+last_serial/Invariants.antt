use Rattle.std.proofs.Common.{length}
use Rattle.inc_session.proofs.driving.reads.+last_serial.Given as goal

abbrev pub decreases-last_serial : goal.decreases-last_serial
decreases-last_serial l = length l.reads.now
