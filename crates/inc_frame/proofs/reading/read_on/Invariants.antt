use Rattle.std.proofs.Common.{◌≡◌, length}
use Rattle.inc_frame.specs.Fronts.{joined_front, front_from}
use Rattle.inc_frame.specs.ReaderStages.{stage_state}
use Rattle.inc_frame.proofs.reading.read_on.Given as goal

abbrev pub invariant-reading : goal.invariant-reading
invariant-reading l = joined_front l.pieces.items (front_from (stage_state l.at.0) l.at.1.now) ≡ joined_front l.fn.pieces.items (front_from (stage_state l.fn.stage) l.fn.bytes)

abbrev pub decreases-reading : goal.decreases-reading
decreases-reading l = length l.at.1.now
