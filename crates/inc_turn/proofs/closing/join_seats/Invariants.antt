use Rattle.std.proofs.Common.{◌≡◌, vec_len}
use Rattle.inc_turn.proofs.ClosingLemmas.{HasJoined}
use Rattle.inc_turn.proofs.closing.join_seats.Given as goal

abbrev pub invariant-loop-other : goal.invariant-loop-other
invariant-loop-other g l = record {
  table : l.first.table_id ≡ l.fn.first.table_id;
  id : l.first.id ≡ l.fn.first.id;
  carried : l.first.me.1 ≡ l.fn.first.me.1;
  joined : HasJoined l.fn.first.me.0 l.fn.others.items l.others.items l.first.me.0;
}

abbrev pub decreases-loop-other : goal.decreases-loop-other
decreases-loop-other g l = vec_len l.others
