use Rattle.std.proofs.Common.{refl}
use Rattle.inc_model.proofs.file_core.FileCore.count_reply.Goals as goal

pub returns : goal.returns
returns g c = record { value = rw (c.counts-data_count.ensures.data_blocks, c.counts-data_count.ensures.hash_blocks, ← c.self.view_is) refl }
