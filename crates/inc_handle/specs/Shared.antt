-- A file behind a lock: what one turn of a seat does, and what is known once the lock is closed.
use Rattle.std.specs.Prelude.{◌≡◌, List, Some}
use Rattle.atomic_table.specs.Seated.{TableId}
use Rattle.inc_turn.specs.Closing.{IsClosed}
use Rattle.inc_turn.specs.Locks.{IsSameSeat, lock_of, seat_view}
use Rattle.inc_turn.specs.Turns.{AddsOwn, HasTurn}
use Rattle.inc_model.specs.declared.words.reply.Entry.{Entry}
use Rattle.inc_turn.specs.declared.seat.Seat.{Seat}
use Rattle.inc_turn.specs.declared.view.View.{View}
use Rattle.inc_cell.specs.events.CellEvents.{CellMoves, footing_of}
use Rattle.inc_cell.specs.seen.Seen.{Seen}
use Rattle.inc_cell.specs.declared.words.answer.Answer.{Answer}
use Rattle.inc_cell.specs.declared.words.event.CellEvent.{CellEvent}
use Rattle.inc_cell.specs.declared.machine.CellFooting.{CellFooting}

-- one event of a seat: the cell is stepped once, at one point of the one history
abbrev pub TakesTurn : View CellFooting → CellEvent → Answer → View CellFooting → Type 0
TakesTurn v event answer w = HasTurn (λ (cell : Seen). cell.history) footing_of CellMoves v event answer w

-- the cell as the closed lock gives it back, by what all seats had seen
abbrev pub IsClosedFile : List (Seat CellFooting) → Seen → Type 0
IsClosedFile seats cell = IsClosed (λ (seen : Seen). seen.history) footing_of seats cell

-- a seat after some turns of its own: it has seen more, with these entries of its own
pub record HasGoneOn (before after : Seat CellFooting) : Type 0 where
  pub same : IsSameSeat before after
  pub mine : List Entry
  pub adds : AddsOwn (seat_view before) (seat_view after) mine

-- a seat of the lock of this file, whose cell was so when it was shared
pub record IsSeatOf (id : TableId) (begun : Seen) (seat : Seat CellFooting) : Type 0 where
  pub lock_is : lock_of seat ≡ id
  pub footing_is : (seat_view seat).footing ≡ Some (footing_of begun)
