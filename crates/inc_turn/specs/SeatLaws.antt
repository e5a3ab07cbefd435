-- What holds of several turns of one seat, and of all seats of a lock.
use Rattle.std.specs.Prelude.{◌≡◌, ℕ, ◌<◌, List, [], ◌++◌, length, slice_index_or}
use Rattle.atomic_table.specs.Seated.{TableId}
use Rattle.inc_model.specs.declared.words.reply.Entry.{Entry}
use Rattle.inc_model.specs.histories.Machines.{added}
use Rattle.inc_turn.specs.Turns.{HasTurn, AddsOwn, own_of}
use Rattle.inc_turn.specs.Locks.{seat_view, IsSameSeat}
use Rattle.inc_turn.specs.Opening.{AreAllSeats}
use Rattle.inc_turn.specs.Closing.{IsClosed}
use Rattle.inc_turn.specs.declared.view.View.{View}
use Rattle.inc_turn.specs.declared.seat.Seat.{Seat}

-- a turn adds its entry to its seat's own, where it has one
abbrev pub TurnAddsOwn : {M F E A : Type 0} → (M → List Entry) → (M → F) → (M → ℕ → E → A → M → Type 0) → Type 0
TurnAddsOwn {M} {F} {E} {A} history footing steps = (v w : View F) (event : E) (answer : A) (t : HasTurn history footing steps v event answer w) → AddsOwn v w (added t.turn)

abbrev pub NoTurnAddsOwn : Type 0 → Type 0
NoTurnAddsOwn F = (v : View F) → AddsOwn v v []

-- what was added first stands in front of what was added then
abbrev pub BothAddOwn : Type 0 → Type 0
BothAddOwn F = (v w x : View F) (first second : List Entry) → AddsOwn v w first → AddsOwn w x second → AddsOwn v x (first ++ second)

-- what no turn changes
pub record KeepsSeat {F : Type 0} (v w : View F) : Type 0 where
  pub number_is : w.number ≡ v.number
  pub made_is : w.made ≡ v.made
  pub base_is : w.base ≡ v.base
  pub footing_is : w.footing ≡ v.footing

abbrev pub OwnKeepsSeat : Type 0 → Type 0
OwnKeepsSeat F = (v w : View F) (mine : List Entry) → AddsOwn v w mine → KeepsSeat v w

abbrev pub SameSeatsJoin : Type 0 → Type 0
SameSeatsJoin F = (first second third : Seat F) → IsSameSeat first second → IsSameSeat second third → IsSameSeat first third

-- all seats of a lock are still all its seats, whatever each has seen since
abbrev pub AllSeatsStay : Type 0 → Type 0
AllSeatsStay F = (id : TableId) (before after : List (Seat F)) → length after ≡ length before → ((k : ℕ) (d : Seat F) → k < length before → IsSameSeat (slice_index_or before k d) (slice_index_or after k d)) → AreAllSeats id before → AreAllSeats id after

-- of all turns of a closed lock, a seat's own are those that it had seen
abbrev pub ClosedKeepsOwn : {M F : Type 0} → (M → List Entry) → (M → F) → Type 0
ClosedKeepsOwn {M} {F} history footing = (seats : List (Seat F)) (machine : M) (closed : IsClosed history footing seats machine) (k : ℕ) (d : Seat F) → k < length seats → own_of k closed.all ≡ own_of k (seat_view (slice_index_or seats k d)).seen

-- they are just those that its calls added since the lock was made, in order
abbrev pub ClosedHasOwn : {M F : Type 0} → (M → List Entry) → (M → F) → Type 0
ClosedHasOwn {M} {F} history footing = (seats : List (Seat F)) (machine : M) (closed : IsClosed history footing seats machine) (k : ℕ) (d : Seat F) (v : View F) (mine : List Entry) → k < length seats → v.number ≡ k → v.seen ≡ []
    → AddsOwn v (seat_view (slice_index_or seats k d)) mine → own_of k closed.all ≡ mine
