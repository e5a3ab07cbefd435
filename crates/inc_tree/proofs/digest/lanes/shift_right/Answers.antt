use Rattle.inc_tree.proofs.LaneLemmas.{shifted_lane}
use Rattle.inc_tree.proofs.digest.lanes.shift_right.Goals as goal

pub returns : goal.returns
returns c = record { value = shifted_lane c.args.bits c.requires c.args.x c.fits-x.0 }
