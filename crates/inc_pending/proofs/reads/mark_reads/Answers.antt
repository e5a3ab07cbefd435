use Rattle.std.proofs.Common.{arith, ◌∙◌, ap, ◌+◌}
use Rattle.inc_pending.proofs.ReadsLemmas.{marked_more, count_more, bool_byte-le}
use Rattle.inc_pending.proofs.reads.mark_reads.Goals as goal

pub overflow_add-count : goal.overflow_add-count
overflow_add-count c = omega (arith, bool_byte-le c.mark_read.result)

pub loop-row-preserved : goal.loop-row-preserved
loop-row-preserved c =
    let so_far = c.loop-row.invariant in
    record {
      rows = rw c.mark_read.ensures.row (marked_more c.args.block _ _ _ _ c.loop-row-test.true (omega arith) so_far.rows);
      count = ap (λ n. n + c.from-count.result) so_far.count ∙ rw c.from-count.ensures (count_more c.args.block _ _ _ _ c.mark_read.result c.loop-row-test.true so_far.rows c.mark_read.ensures.value);
      few = omega (arith, bool_byte-le c.mark_read.result);
    }
