use Rattle.inc_fill.proofs.Going.{block_goes}
use Rattle.inc_fill.proofs.steps.write_data.Goals as goal

pub returns-clause-images : goal.returns-clause-images
returns-clause-images g c =
    block_goes c.args.place c.args.block.now _ _ _ (rw c.as_slice.ensures.value at c.as_slice.ensures.len) (rw c.as_slice.ensures.value at c.write_at.ensures.written)
