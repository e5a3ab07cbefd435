use Rattle.inc_disk.proofs.Moments.{split_at_moment}
use Rattle.inc_disk.proofs.laws.images_since.Goals as goal

pub returns-clause-split : goal.returns-clause-split
returns-clause-split c = split_at_moment
