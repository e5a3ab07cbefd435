use Rattle.std.proofs.Common.{refl}
use Rattle.std.specs.Prelude.{replicate}
use Rattle.inc_fill.proofs.Counts.{counts_put}
use Rattle.inc_fill.proofs.status.count_bytes.Goals as goal

pub returns : goal.returns
returns c = record { value = counts_put c.args.data_count c.args.hash_count (replicate 8 0) _ _ refl c.put_u32.ensures.written c.put_u32-2.ensures.written }
