use Rattle.inc_cell.specs.events.CellEvents.{footing_of}
use Rattle.inc_handle.specs.Reads.{LeavesNothing, WaitsFor}
use Rattle.inc_turn.specs.Locks.{IsSameSeat, seat_view}
use Rattle.inc_handle.proofs.reader.polling.await_block.Given as goal

abbrev pub invariant-loop : goal.invariant-loop
invariant-loop g l = record {
  same : IsSameSeat l.fn.seat l.seat;
  none : LeavesNothing (seat_view l.fn.seat) (seat_view l.seat);
  waits : WaitsFor (footing_of l.file.begun.value) (seat_view l.seat) l.read.serial l.read.block;
}
