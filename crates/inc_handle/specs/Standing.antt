-- Where a window stands in its file's history, whatever other seats do meanwhile: what it has claimed, and how far each of its indices has come.
use Rattle.std.specs.Prelude.{◌≡◌, ◌⊎◌, ℕ, ◌≤◌, Bool, List, Option, Some, None}
use Rattle.inc_layout.specs.declared.opened.Opened.{Opened}
use Rattle.inc_filling.specs.Grouped.{AllMayBeFilled}
use Rattle.inc_filling.specs.Refusals.{IsStateOfFile}
use Rattle.inc_filling.specs.Stands.{MayBeFilled}
use Rattle.inc_model.specs.relation.State.{IsOpening, flight_row, places_left}
use Rattle.inc_model.specs.relation.Step.{IsLegal, state_after}
use Rattle.inc_model.specs.declared.words.event.Window.{Window}
use Rattle.inc_model.specs.declared.words.file_state.FileState.{FileState}
use Rattle.inc_model.specs.declared.words.file_state.FlightRow.{FlightRow}
use Rattle.inc_model.specs.declared.words.file_state.Stage.{Stage}
use Rattle.inc_model.specs.declared.words.file_state.Stage.TheVariants.{Gated, Placed, Settled, Written}
use Rattle.inc_model.specs.declared.words.reply.Entry.{Entry}

-- the window's row of an index, at one of these stages
pub record HasRow (window : Window) (found : Option FlightRow) (IsStage : Stage → Type 0) : Type 0 where
  pub row : FlightRow
  pub is : found ≡ Some row
  pub own : row.window ≡ window
  pub stage_is : IsStage row.stage

-- An index that its window has brought to a stage. A sync of any window may have settled what was placed. What is gated may be acknowledged
-- and in flight no more, so nothing is said of it.
abbrev pub FliesOwn : Window → Option Stage → Option FlightRow → Type 0
FliesOwn window None found = Unit {0}
FliesOwn window (Some Written) found = HasRow window found (λ stage. stage ≡ Written)
FliesOwn window (Some Placed) found = HasRow window found (λ stage. (stage ≡ Placed) ⊎ (stage ≡ Settled))
FliesOwn window (Some Settled) found = HasRow window found (λ stage. stage ≡ Settled)
FliesOwn window (Some Gated) found = Unit {0}

-- the history is legal from its opening on, and the window has at least so many claimed places left there
pub record WindowStands (window : Window) (left : ℕ) (stages : ℕ → Option Stage) (opening : FileState) (told : Bool) (history : List Entry) : Type 0 where
  pub begins : IsOpening opening
  pub legal : IsLegal 0 told opening history
  pub enough : left ≤ places_left window (state_after 0 opening history).claimed
  pub flies : (i : ℕ) → FliesOwn window (stages i) (flight_row i (state_after 0 opening history).flight)

-- ---- which indices a fill may have

-- an index that may be filled in each state of the file, by what was found of it at its mount
abbrev pub MayFill : Opened → ℕ → Type 0
MayFill opened index = (s : FileState) → IsStateOfFile opened s → MayBeFilled s index

abbrev pub AllMayFill : Opened → List ℕ → Type 0
AllMayFill opened indices = (s : FileState) → IsStateOfFile opened s → AllMayBeFilled s indices
