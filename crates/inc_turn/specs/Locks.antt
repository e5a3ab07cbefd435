-- A lock and its seats by name, so that public clauses need no private path.
use Rattle.std.specs.Prelude.{◌≡◌}
use Rattle.atomic_table.specs.Seated.{TableId}
use Rattle.inc_turn.specs.Views.{the_view}
use Rattle.inc_turn.specs.declared.view.View.{View}
use Rattle.inc_turn.specs.declared.table.TurnLock.{TurnLock}
use Rattle.inc_turn.specs.declared.seat.Seat.{Seat}

abbrev pub lock_of : {F : Type 0} → Seat F → TableId
lock_of seat = seat.badge.table_id

abbrev pub seat_view : {F : Type 0} → Seat F → View F
seat_view seat = the_view seat.badge.views

-- a machine with its event, its answer and its footing
abbrev pub table_of : {M E A F : Type 0} → TurnLock M E A F → TableId
table_of lock = lock.table.shared.table_id

-- the same seat of the same lock, whatever it has seen since
pub record IsSameSeat {F : Type 0} (before after : Seat F) : Type 0 where
  pub lock_is : lock_of after ≡ lock_of before
  pub number_is : after.number ≡ before.number
  pub made_is : (seat_view after).made ≡ (seat_view before).made
