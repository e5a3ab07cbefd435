use Rattle.inc_fill.proofs.Going.{settle_goes}
use Rattle.inc_fill.proofs.steps.settle.Goals as goal

pub returns-clause-images : goal.returns-clause-images
returns-clause-images g c = settle_goes _ _ _ (g.met.D.Disk.sound c.args.disk.now) c.sync.ensures.synced
