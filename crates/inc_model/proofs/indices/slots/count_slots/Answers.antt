use Rattle.std.proofs.Common.{arith}
use Rattle.std.specs.Prelude.{nat_lt, nat_le}
use Rattle.inc_model.proofs.lists.SlotLists.{count_none, count_step}
use Rattle.inc_model.proofs.indices.slots.count_slots.Goals as goal

pub loop-i-init : goal.loop-i-init
loop-i-init c = record { data_blocks = count_none (λ k. nat_lt k c.args.n); hash_blocks = count_none (λ k. nat_le c.args.n k); few_data = omega arith; few_hash = omega arith }

pub loop-i-preserved : goal.loop-i-preserved
loop-i-preserved c = record {
  data_blocks = count_step (λ k. nat_lt k c.args.n) c.args.slots.now c.loop-i.i _ c.loop-i.data_count c.counted_open-data_count.result c.loop-i-test.true c.loop-i.invariant.data_blocks c.counted_open-data_count.ensures.value;
  hash_blocks = count_step (λ k. nat_le c.args.n k) c.args.slots.now c.loop-i.i _ c.loop-i.hash_count c.counted_open-hash_count.result c.loop-i-test.true c.loop-i.invariant.hash_blocks c.counted_open-hash_count.ensures.value;
  few_data = omega arith;
  few_hash = omega arith;
}
