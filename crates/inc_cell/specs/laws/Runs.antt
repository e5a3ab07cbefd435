-- Any number of events of one cell, one after another: what a crash at any moment of them leaves.
use Rattle.std.specs.Prelude.{◌≡◌, ℕ, ◌≤◌, List, ◌++◌, length}
use Rattle.inc_disk.specs.Disk.{Now}
use Rattle.inc_disk.specs.Laws.{EachImage, HoldsSince, LeavesOnly}
use Rattle.inc_layout.specs.opening.Opening.{IsSoundOpened}
use Rattle.inc_layout.specs.state.Preserves.{MayReopen, Preserves}
use Rattle.inc_layout.specs.state.Reopening.{AreApartIn, opened_parts}
use Rattle.inc_layout.specs.declared.opened.Opened.{Opened}
use Rattle.inc_model.specs.histories.Worlds.{IsReopening}
use Rattle.inc_model.specs.relation.State.{IsOpening}
use Rattle.inc_model.specs.relation.Step.{IsLegal, state_after}
use Rattle.inc_model.specs.declared.words.event.Event.{Event}
use Rattle.inc_model.specs.declared.words.file_state.FileState.{FileState}
use Rattle.inc_model.specs.declared.words.reply.Entry.{Entry}
use Rattle.inc_cell.specs.events.Answers.{CellSteps}
use Rattle.inc_cell.specs.device.Moves.{LeavesEither}
use Rattle.inc_cell.specs.seen.Parts.{opening_of, parts_of}
use Rattle.inc_cell.specs.seen.Seen.{Seen, state_now, tells}
use Rattle.inc_cell.specs.declared.words.answer.Answer.{Answer}

-- The bytes keep a state that the history passed: the one after a front of it that is at least so long.
pub record KeepsFront (opening : FileState) (from : ℕ) (history : List Entry) (image : List ℕ) : Type 0 where
  pub front : List Entry
  pub rest : List Entry
  pub cut : history ≡ front ++ rest
  pub later : from ≤ length front
  pub keeps : Preserves image (parts_of (state_after 0 opening front))

-- the history goes on, and each image since then keeps a state that it passed meanwhile, its first and its last among them
pub record CellRuns (old new : Seen) : Type 0 where
  pub opened : new.opened ≡ old.opened
  pub opening : new.opening ≡ old.opening
  pub grew : (more : List Entry) × (new.history ≡ old.history ++ more)
  pub images : LeavesOnly old.states new.states (KeepsFront old.opening (length old.history) new.history)

-- ---- the laws

-- no event
abbrev pub RunsFromNow : Type 0
RunsFromNow = (seen : Seen) → Now seen.states (λ disk. EachImage disk (λ image. Preserves image (parts_of (state_now seen)))) → CellRuns seen seen

-- one event, with an entry or without
abbrev pub RunsByOne : Type 0
RunsByOne =
    (old new : Seen) (entries : List Entry) → new.opened ≡ old.opened → new.opening ≡ old.opening → new.history ≡ old.history ++ entries
    → LeavesEither old.states new.states (state_now old) (state_now new) → CellRuns old new

abbrev pub RunsJoin : Type 0
RunsJoin = (old mid new : Seen) → CellRuns old mid → CellRuns mid new → CellRuns old new

-- and one event more, whatever it answers: where it leaves no entry, nothing has changed
abbrev pub RunsGoOn : Type 0
RunsGoOn = (first old new : Seen) (who : ℕ) (event : Event) (block : List ℕ) (answer : Answer) → CellRuns first old → CellSteps old who event block answer new → CellRuns first new

-- ---- after a crash

-- The bytes keep a state that the history passed, and the state in which the file begins that a mount finds in them is a reopening of it.
pub record ReopensFront (opening : FileState) (from : ℕ) (history : List Entry) (image : List ℕ) : Type 0 where
  pub passed : KeepsFront opening from history image
  -- which is what a mount asks of the parts
  pub apart : AreApartIn (parts_of (state_after 0 opening passed.front))
  pub reopens : (opened : Opened) (faults readers : ℕ) → IsSoundOpened opened → MayReopen (parts_of (state_after 0 opening passed.front)) (opened_parts opened)
      → IsReopening (state_after 0 opening passed.front) (opening_of opened faults readers)

-- each image since the run began is so
abbrev pub CrashesReopen : Type 0
CrashesReopen =
    (old new : Seen) → IsOpening new.opening → IsLegal 0 (tells new.states) new.opening new.history → CellRuns old new
    → HoldsSince (length old.states) new.states (ReopensFront old.opening (length old.history) new.history)
