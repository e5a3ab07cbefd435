-- A file's state with the entries that led to it, and for how many more events there is room.
use Rattle.std.specs.Prelude.{◌≡◌, ℕ, ◌+◌, ◌≤◌, List, [], ◌∷◌, ◌++◌, length}
use Rattle.inc_model.specs.executed.CoreFacts.{IsHeld}
use Rattle.inc_model.specs.relation.State.{all_places}
use Rattle.inc_model.specs.relation.Step.{HasRoom, needs}
use Rattle.inc_model.specs.relation.Changes.{change}
use Rattle.inc_model.specs.declared.words.event.Event.{Event}
use Rattle.inc_model.specs.declared.words.file_state.FileState.{FileState}
use Rattle.inc_model.specs.declared.words.reply.Entry.{Entry}
use Rattle.inc_model.specs.declared.words.reply.Reply.{Reply}

pub record BookView : Type 0 where
  pub state : FileState
  pub history : List Entry
  -- so many more events of windows take no memory
  pub room : ℕ

pub record KeepsBook (state : FileState) (history : List Entry) (room : ℕ) : Type 0 where
  pub held : IsHeld (length history) state
  -- each place that is claimed has its room
  pub places : all_places state.claimed ≤ room

-- there is no room in the history, and both numbers say so
pub record IsFullFor (book : BookView) (event : Event) (numbers : ℕ × ℕ) : Type 0 where
  pub none : HasRoom (length book.history) book.state event → ⊥
  pub entries : numbers.0 ≡ length book.history
  pub claimed : numbers.1 ≡ all_places book.state.claimed

-- there is room for the entry, and for each place that is claimed then
abbrev pub IsReady : BookView → Event → Type 0
IsReady book event = all_places book.state.claimed + needs book.state.claimed event ≤ book.room

pub record HasEntered (old : BookView) (who : ℕ) (event : Event) (reply : Reply) (new : BookView) : Type 0 where
  pub state : new.state ≡ change (length old.history) old.state who event reply
  pub history : new.history ≡ old.history ++ record { who = who; event = event; reply = reply } ∷ []

-- nothing but its room has changed
pub record IsSameBook (old new : BookView) : Type 0 where
  pub state : new.state ≡ old.state
  pub history : new.history ≡ old.history
