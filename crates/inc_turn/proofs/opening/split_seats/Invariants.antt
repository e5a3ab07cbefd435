use Rattle.std.proofs.Common.{◌≡◌, ◌≤◌, vec_capacity}
use Rattle.inc_turn.specs.Opening.{HasSplit}
use Rattle.inc_turn.proofs.opening.split_seats.Given as goal

abbrev pub invariant-loop-number : goal.invariant-loop-number
invariant-loop-number g l = record {
  table : l.first.table_id ≡ l.fn.first.table_id;
  id : l.first.id ≡ l.fn.first.id;
  me : l.first.me ≡ (record l.fn.first.me.0 { made = l.number }, l.fn.first.me.1);
  room : l.seats ≤ vec_capacity l.list;
  split : HasSplit l.board.table_id l.fn.first.me.0 l.number l.list.items;
}
