-- A file without a device: the state that it was made with, the state that it is in, and its history.
use Rattle.std.specs.Prelude.{◌≡◌, ℕ, ◌<◌, ◌≤◌, Bool, true, List, [], length, Option, Some, None, is_some, ◌==◌}
use Rattle.inc_model.specs.declared.words.file_state.FileState.{FileState}
use Rattle.inc_model.specs.declared.words.reply.Entry.{Entry}
use Rattle.inc_model.specs.relation.State.{all_places}
use Rattle.inc_model.specs.relation.Step.{IsLegal, state_after}
use Rattle.inc_model.specs.executed.CoreFacts.{IsHeld}
use Rattle.inc_model.specs.executed.CoreState.{CoreState}

pub record Pure : Type 0 where
  pub first : FileState
  pub now : FileState
  pub history : List Entry
  -- there is room for each place that is claimed
  pub ready : Bool

-- it takes no memory, so that it has no room for places that were claimed before
abbrev pub made_with : FileState → Pure
made_with s = record { first = s; now = s; history = []; ready = length s.claimed == 0 }

-- no copy is kept before the first step, as nothing has changed
abbrev pub first_of : Option FileState → FileState → FileState
first_of None now = now
first_of (Some first) now = first

-- the history is legal from the first state on, and leaves the present one
pub record IsPure (first now : FileState) (history : List Entry) : Type 0 where
  pub legal : IsLegal 0 true first history
  pub after : now ≡ state_after 0 first history
  pub held : IsHeld (length history) now

-- each place that is claimed has room in the core and in the history, where so many entries more fit, and the first state is kept
pub record HasPlaces (first : Option FileState) (core : CoreState) (spare : ℕ) : Type 0 where
  pub room : all_places core.state.claimed ≤ core.room
  pub entries : all_places core.state.claimed ≤ spare
  pub kept : 0 < all_places core.state.claimed → is_some first ≡ true

pub record KeepsPure (first : Option FileState) (core : CoreState) (history : List Entry) (spare : ℕ) (ready : Bool) : Type 0 where
  pub pure : IsPure (first_of first core.state) core.state history
  pub places : ready ≡ true → HasPlaces first core spare
