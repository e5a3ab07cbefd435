use Rattle.inc_fill.proofs.Going.{place_goes}
use Rattle.inc_fill.proofs.steps.write_place.Goals as goal

pub returns-clause-images : goal.returns-clause-images
returns-clause-images g c = place_goes c.args.entry_at c.args.place _ _ _ c.requires.low (rw c.offset_bytes.ensures.value at c.write_at.ensures.written)
