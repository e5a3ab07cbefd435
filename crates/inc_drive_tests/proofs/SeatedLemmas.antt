-- A seat that a drive has used is still the only one of its file.
use Rattle.std.proofs.Common.{◌≡◌, ◌∙◌, ℕ, zero, suc, ◌<◌, List, [], ◌∷◌, length, get_or, sym, subst, arith}
use Rattle.atomic_table.specs.Seated.{TableId}
use Rattle.inc_cell.specs.declared.machine.CellFooting.{CellFooting}
use Rattle.inc_cell.specs.seen.Seen.{Seen}
use Rattle.inc_handle.specs.Shared.{IsSeatOf}
use Rattle.inc_session.specs.Deeds.{Deed, entries_at}
use Rattle.inc_session.specs.DriveSeats.{SeatsAdd}
use Rattle.inc_turn.proofs.TurnLemmas.{adds_keeps}
use Rattle.inc_turn.specs.Locks.{lock_of, seat_view}
use Rattle.inc_turn.specs.Opening.{AreAllSeats}
use Rattle.inc_turn.specs.declared.seat.Seat.{Seat}

pub own_still : (before after : List (Seat CellFooting)) (deeds : List Deed) → SeatsAdd before after deeds → (k : ℕ) (d : Seat CellFooting) → k < length before → (id : TableId) (begun : Seen) → IsSeatOf id begun (get_or before k d) → IsSeatOf id begun (get_or after k d)
own_still before after deeds h k d lt id begun was =
    let x = h.each k d lt in
    record { lock_is = x.same.lock_is ∙ was.lock_is; footing_is = (adds_keeps (seat_view (get_or before k d)) (seat_view (get_or after k d)) (entries_at k deeds) x.adds).footing_is ∙ was.footing_is }

pub only_all : (id : TableId) (seat : Seat CellFooting) (seats : List (Seat CellFooting)) → seats ≡ seat ∷ [] → lock_of seat ≡ id → seat.number ≡ 0 → (seat_view seat).made ≡ 1 → AreAllSeats id seats
only_all id seat seats e lock number made =
    subst (λ (l : List (Seat CellFooting)). AreAllSeats id l) (sym e) (record { each = λ k d lt. step k d lt; all = λ d. made; some = omega arith })
  where
    step : (k : ℕ) (d : Seat CellFooting) → k < 1 → (lock_of (get_or (seat ∷ []) k d) ≡ id) × ((get_or (seat ∷ []) k d).number ≡ k)
    step zero d lt = (lock, number)
    step (suc k) d lt = absurd (omega arith)

-- the first of a list of one seat
pub first_alone : (id : TableId) (seats : List (Seat CellFooting)) (d : Seat CellFooting) → length seats ≡ 1 → AreAllSeats id seats → ((get_or seats 0 d).number ≡ 0) × ((seat_view (get_or seats 0 d)).made ≡ 1)
first_alone id seats d one all = ((all.each 0 d (omega arith)).1, all.all d ∙ one)
