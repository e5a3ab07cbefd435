-- What is known once a lock is closed.
use Rattle.std.specs.Prelude.{◌≡◌, ℕ, ◌<◌, ◌⊎◌, List, [], ◌∷◌, ◌++◌, length, Option, Some, slice_index_or}
use Rattle.inc_model.specs.declared.words.reply.Entry.{Entry}
use Rattle.inc_turn.specs.Lists.{entries_of_turns, AreSeated, HasSeen}
use Rattle.inc_turn.specs.Views.{past_of}
use Rattle.inc_turn.specs.Locks.{seat_view}
use Rattle.inc_turn.specs.declared.view.View.{View}
use Rattle.inc_turn.specs.declared.view.PastSeat.{PastSeat}
use Rattle.inc_turn.specs.declared.seat.Seat.{Seat}

-- The machine's history is the one at the start and the entries of all turns. What each seat had seen is the first of these
-- turns, and none of its own is among the others; one seat had seen them all.
pub record IsClosed {M F : Type 0} (history : M → List Entry) (footing : M → F) (seats : List (Seat F)) (machine : M) : Type 0 where
  pub base : List Entry
  pub all : List (Option Entry)
  pub told : history machine ≡ base ++ entries_of_turns all
  pub seated : AreSeated (length seats) all
  pub each : (k : ℕ) (d : Seat F) → k < length seats → ((seat_view (slice_index_or seats k d)).base ≡ base) × HasSeen k (seat_view (slice_index_or seats k d)).seen all
  pub whole : (k : ℕ) × (k < length seats) × ((d : Seat F) → (seat_view (slice_index_or seats k d)).seen ≡ all)
  pub floor : (d : Seat F) → (seat_view (slice_index_or seats 0 d)).footing ≡ Some (footing machine)

abbrev pub IsAmong : PastSeat → List PastSeat → Type 0
IsAmong past [] = ⊥
IsAmong past (other ∷ others) = (other ≡ past) ⊎ IsAmong past others

-- the first seat, of which only its list of seats given back has changed
pub record AreBehind {F : Type 0} (before : View F) (others : List (Seat F)) (after : View F) : Type 0 where
  pub past : List PastSeat
  pub view_is : after ≡ record before { past = past }
  pub each : (k : ℕ) (d : Seat F) → k < length others → IsAmong (past_of (seat_view (slice_index_or others k d))) past
