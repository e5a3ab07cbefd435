use Rattle.inc_turn.proofs.SeatLemmas.{same_seat_twice}
use Rattle.inc_handle.proofs.reads.PollLemmas.{await_ends, nothing_since}
use Rattle.inc_handle.proofs.reader.polling.await_block.Goals as goal

pub returns-in-Some-poll_once-clause-told : goal.returns-in-Some-poll_once-clause-told
returns-in-Some-poll_once-clause-told g c =
    await_ends _ _ _ _ _ _ _ c.now-now.result _ _ c.loop.invariant.none c.now-now.ensures.possible c.in-Some-poll_once.ensures.told

pub loop-preserved : goal.loop-preserved
loop-preserved g c = record {
  same = same_seat_twice _ _ _ c.loop.invariant.same c.poll_once.ensures.own;
  none = nothing_since _ _ _ c.loop.invariant.none c.in-None-poll_once.ensures.told.0;
  waits = c.in-None-poll_once.ensures.told.1;
}
