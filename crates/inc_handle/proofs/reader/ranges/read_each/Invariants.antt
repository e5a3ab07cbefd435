use Rattle.std.proofs.Common.{◌≡◌, Some, length, vec_capacity, vec_len}
use Rattle.inc_cell.specs.events.CellEvents.{footing_of}
use Rattle.inc_handle.specs.Answered.{ReadsEach}
use Rattle.inc_handle.specs.Caches.{IsCacheOf}
use Rattle.inc_turn.specs.Locks.{IsSameSeat, seat_view}
use Rattle.inc_handle.proofs.reader.ranges.read_each.Given as goal

abbrev pub invariant-loop-offset : goal.invariant-loop-offset
invariant-loop-offset g l = record {
  same : IsSameSeat l.fn.seat l.seat;
  footing : (seat_view l.seat).footing ≡ Some (footing_of l.file.begun.value);
  of_file : IsCacheOf (footing_of l.file.begun.value) l.cache;
  at : vec_len l.answers ≡ l.offset;
  items : length l.answers.items ≡ l.offset;
  room : vec_capacity l.answers ≡ l.count;
  told : ReadsEach (g.C.Clock.may_answer l.clock) (footing_of l.file.begun.value) (seat_view l.fn.seat) (seat_view l.seat) l.start l.uid l.answers.items;
}
