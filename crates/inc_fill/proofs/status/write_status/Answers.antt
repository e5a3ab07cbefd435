use Rattle.inc_fill.proofs.Going.{length-count_bytes, status_goes}
use Rattle.inc_fill.specs.Steps.{count_bytes}
use Rattle.inc_fill.proofs.status.write_status.Goals as goal

pub returns-clause-images : goal.returns-clause-images
returns-clause-images g c =
    status_goes c.args.at (count_bytes c.args.data_count c.args.hash_count) _ _ _ (length-count_bytes c.args.data_count c.args.hash_count)
    (rw c.count_bytes.ensures.value at c.write_at.ensures.written)
