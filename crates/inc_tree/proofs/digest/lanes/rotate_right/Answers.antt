use Rattle.inc_tree.proofs.LaneLemmas.{rotated_lane}
use Rattle.inc_tree.proofs.digest.lanes.rotate_right.Goals as goal

pub returns-clause-value : goal.returns-clause-value
returns-clause-value c = rotated_lane c.args.bits c.requires.some c.requires.below c.args.x c.fits-x.0
