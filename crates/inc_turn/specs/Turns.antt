-- What callers see of a turn, and of several.
use Rattle.std.specs.Prelude.{◌≡◌, ℕ, List, [], ◌∷◌, ◌++◌, Option, Some, None, ◌==◌, if◌then◌else◌}
use Rattle.inc_model.specs.declared.words.reply.Entry.{Entry}
use Rattle.inc_model.specs.histories.Machines.{added, IsOf}
use Rattle.inc_turn.specs.Lists.{entries_of_turns, AreOthers}
use Rattle.inc_turn.specs.Views.{heard, seeing}
use Rattle.inc_turn.specs.declared.view.View.{View}

-- One turn: the machine steps once, at one point of the one history. That history begins with what the seat had seen, the turns
-- between are of other seats, and the seat has then seen all of it.
pub record HasTurn {M F E A : Type 0} (history : M → List Entry) (footing : M → F) (steps : M → ℕ → E → A → M → Type 0) (v : View F) (event : E) (answer : A) (w : View F) : Type 0 where
  pub before : M
  pub after : M
  pub between : List (Option Entry)
  pub turn : Option Entry
  pub stepped : steps before v.number event answer after
  pub others : AreOthers v.number between
  pub own : IsOf v.number turn
  pub view_is : w ≡ seeing v (between ++ turn ∷ [])
  pub told_before : history before ≡ heard v ++ entries_of_turns between
  pub told_after : history after ≡ history before ++ added turn
  pub all_heard : history after ≡ heard w
  pub floor_before : Some (footing before) ≡ v.footing
  pub floor_after : Some (footing after) ≡ v.footing

-- the entries of one seat
abbrev pub own_entry : ℕ → Option Entry → List Entry
own_entry number None = []
own_entry number (Some entry) = if entry.who == number then entry ∷ [] else []

abbrev pub own_of : ℕ → List (Option Entry) → List Entry
own_of number [] = []
own_of number (turn ∷ turns) = own_entry number turn ++ own_of number turns

-- what a seat has seen since, with just these entries of its own
pub record AddsOwn {F : Type 0} (v w : View F) (mine : List Entry) : Type 0 where
  pub since : List (Option Entry)
  pub view_is : w ≡ seeing v since
  pub own : own_of v.number since ≡ mine
