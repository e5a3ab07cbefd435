-- What the seats of a new lock are, and which list has all seats of a lock.
use Rattle.std.specs.Prelude.{◌≡◌, ℕ, ◌+◌, ◌<◌, List, [], length, Some, slice_index_or}
use Rattle.atomic_table.specs.Seated.{TableId}
use Rattle.inc_model.specs.declared.words.reply.Entry.{Entry}
use Rattle.inc_turn.specs.Locks.{lock_of, seat_view}
use Rattle.inc_turn.specs.declared.view.View.{View}
use Rattle.inc_turn.specs.declared.seat.Seat.{Seat}

-- a seat of this lock with this number, that has seen no turn
pub record IsNewSeat {F : Type 0} (id : TableId) (base : List Entry) (footing : F) (number : ℕ) (seat : Seat F) : Type 0 where
  pub lock_is : lock_of seat ≡ id
  pub number_is : seat.number ≡ number
  pub base_is : (seat_view seat).base ≡ base
  pub footing_is : (seat_view seat).footing ≡ Some footing
  pub unseen : (seat_view seat).seen ≡ []

-- a seat with this number that has seen what the first one had
pub record IsCut {F : Type 0} (id : TableId) (first : View F) (number : ℕ) (seat : Seat F) : Type 0 where
  pub lock_is : lock_of seat ≡ id
  pub number_is : seat.number ≡ number
  pub base_is : (seat_view seat).base ≡ first.base
  pub footing_is : (seat_view seat).footing ≡ first.footing
  pub seen_is : (seat_view seat).seen ≡ first.seen

-- all seats of a lock, in the order of their numbers
pub record AreAllSeats {F : Type 0} (id : TableId) (seats : List (Seat F)) : Type 0 where
  pub each : (k : ℕ) (d : Seat F) → k < length seats → (lock_of (slice_index_or seats k d) ≡ id) × ((slice_index_or seats k d).number ≡ k)
  pub all : (d : Seat F) → (seat_view (slice_index_or seats 0 d)).made ≡ length seats
  pub some : 0 < length seats

-- the seats of a lock that was made now
pub record AreNewSeats {F : Type 0} (id : TableId) (base : List Entry) (footing : F) (count : ℕ) (seats : List (Seat F)) : Type 0 where
  pub count_is : length seats ≡ count
  pub all : AreAllSeats id seats
  pub fresh : (k : ℕ) (d : Seat F) → k < count → IsNewSeat id base footing k (slice_index_or seats k d)

-- the seats from 1 on, cut off a first seat of which nothing else changed
pub record HasSplit {F : Type 0} (id : TableId) (first : View F) (made : ℕ) (seats : List (Seat F)) : Type 0 where
  pub count : length seats + 1 ≡ made
  pub each : (k : ℕ) (d : Seat F) → k < length seats → IsCut id first (k + 1) (slice_index_or seats k d)
