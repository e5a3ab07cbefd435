use Rattle.std.proofs.Common.{◌<◌, arith}
use Rattle.inc_ranges.proofs.Splitting.{splits_all, splits_at, splits_more}
use Rattle.inc_ranges.proofs.runs.first_runs.Goals as goal

pub returns-then-begin-end : goal.returns-then-begin-end
returns-then-begin-end g c =
    let so_far = c.loop-list.invariant in
    let begin = c.next_index-begin.ensures in
    let s = splits_all _ _ _ _ _ c.args.room _ so_far.split (omega (arith, c.loop-list.list.ok.0)) begin.low c.if-begin-end.true begin.passed in
    record { list = rw c.from_vec.ensures.value s.list; more = s.more; next = s.next }

pub returns-then-len-room : goal.returns-then-len-room
returns-then-len-room g c =
    let so_far = c.loop-list.invariant in
    let begin = c.next_index-begin.ensures in
    let before : c.next_index-begin.result < c.args.end = omega arith in
    let s = splits_at _ _ _ _ _ c.args.room _ so_far.split (omega (arith, c.loop-list.list.ok.0)) begin.low before begin.passed (begin.found before) in
    record { list = rw c.from_vec-then-len-room.ensures.value s.list; more = s.more; next = s.next }

pub loop-list-preserved : goal.loop-list-preserved
loop-list-preserved g c =
    let so_far = c.loop-list.invariant in
    let begin = c.next_index-begin.ensures in
    let stop = c.next_index-at.ensures in
    let before : c.next_index-begin.result < c.args.end = omega arith in
    record {
      split = rw c.in_ok-push.ensures.items (splits_more _ _ _ _ _ _ _ so_far.split begin.low before begin.passed (begin.found before) stop.low stop.high stop.passed stop.found);
      room = omega (arith, c.in_ok-push.ensures.len);
      place = stop.high;
    }
