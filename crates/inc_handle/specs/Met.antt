-- What the file's state was where a fill's own entries stand: of each block at its put, and at what ended a fill early.
use Rattle.std.specs.Prelude.{◌≡◌, ℕ, ◌≤◌, true, false, List, [], ◌∷◌, ◌++◌, length, Some, None, Result, Ok, Err}
use Rattle.inc_model.specs.laws.FaultLaws.{IsFirstBreak, is_break}
use Rattle.inc_model.specs.relation.State.{flight_row, is_in}
use Rattle.inc_model.specs.relation.Step.{state_after}
use Rattle.inc_model.specs.declared.words.event.Event.{Event}
use Rattle.inc_model.specs.declared.words.event.Window.{Window}
use Rattle.inc_model.specs.declared.words.file_state.FileState.{FileState}
use Rattle.inc_model.specs.declared.words.file_state.FlightRow.{FlightRow}
use Rattle.inc_model.specs.declared.words.reply.Entry.{Entry}
use Rattle.inc_model.specs.declared.words.reply.Reply.{Reply}
use Rattle.inc_model.specs.declared.words.reply.Reply.TheVariants as reply
use Rattle.inc_turn.specs.Views.{heard}
use Rattle.inc_turn.specs.declared.view.View.{View}
use Rattle.inc_cell.specs.declared.machine.CellFooting.{CellFooting}
use Rattle.inc_filling.specs.Grouped.{put_of}
use Rattle.inc_filling.specs.declared.filling.Filling.{Filling}
use Rattle.inc_filling.specs.declared.stop.FillStop.{FillStop}
use Rattle.inc_filling.specs.declared.stop.FillStop.TheVariants as stop
use Rattle.inc_handle.specs.UnderWay.{HasOwnEntry}
use Rattle.inc_handle.specs.declared.fill.window.PutEnd.{PutEnd}
use Rattle.inc_handle.specs.declared.fill.window.PutEnd.TheVariants.{Busy, Present, Stored}

-- ---- an index in a state

abbrev pub IsFreeIndex : ℕ → FileState → Type 0
IsFreeIndex index s = (flight_row index s.flight ≡ None) × (is_in index s.map ≡ false)

abbrev pub IsOpenIndex : ℕ → FileState → Type 0
IsOpenIndex index s = (flight_row index s.flight ≡ None) × (is_in index s.map ≡ true)

pub record IsUnderWayIn (window : Window) (index : ℕ) (s : FileState) : Type 0 where
  pub row : FlightRow
  pub flies : flight_row index s.flight ≡ Some row
  pub own : row.window ≡ window

-- ---- each block at its put

-- an own entry with this reply since the history had so many entries, and what held of the state that it met
pub record MeetsState (file : CellFooting) (history : List Entry) (from who : ℕ) (event : Event) (given : Reply) (at : ℕ) (Holds : FileState → Type 0) : Type 0 where
  pub entry : HasOwnEntry history from who event given at
  pub holds : Holds (state_after 0 file.opening entry.here.before)

-- A block was put exactly where its index was neither open nor in flight.
abbrev pub EndMet : CellFooting → List Entry → ℕ → Window → Filling → PutEnd → Type 0
EndMet file history from window filling Stored =
    (at : ℕ) × (place : ℕ) × (digest : List ℕ) × MeetsState file history from window.who (put_of file.opened window filling) (reply.Put place digest) at (IsFreeIndex filling.index)
EndMet file history from window filling (Present at) = MeetsState file history from window.who (put_of file.opened window filling) reply.Present at (IsOpenIndex filling.index)
EndMet file history from window filling (Busy other at) = MeetsState file history from window.who (put_of file.opened window filling) (reply.Busy other) at (IsUnderWayIn other filling.index)

-- each block of the group has just one end
abbrev pub EachMet : CellFooting → List Entry → ℕ → Window → List Filling → List PutEnd → Type 0
EachMet file history from window [] [] = Unit {0}
EachMet file history from window [] (end ∷ ends) = ⊥
EachMet file history from window (filling ∷ group) [] = ⊥
EachMet file history from window (filling ∷ group) (end ∷ ends) = EndMet file history from window filling end × EachMet file history from window group ends

-- ---- what ends a fill early

-- a write or sync of the seat's own has failed, past all that the seat had seen before
pub record BreaksItself (v w : View CellFooting) : Type 0 where
  pub front : List Entry
  pub entry : Entry
  pub rest : List Entry
  pub heard_is : heard w ≡ front ++ entry ∷ rest
  pub since : length (heard v) ≤ length front
  pub own : entry.who ≡ v.number
  pub failed : is_break entry ≡ true

-- A fill that has room for its claim gives each of its blocks an outcome, by the state that its put meets, unless a write or sync of the
-- file has failed by the end of the fill.
abbrev pub FillMet : CellFooting → View CellFooting → Window → List Filling → Result ℕ FillStop → List PutEnd → View CellFooting → Type 0
FillMet file v window group (Ok at) ends w = EachMet file (heard w) (length (heard v)) window group ends
FillMet file v window group (Err stop.DiskFault) ends w = BreaksItself v w
FillMet file v window group (Err (stop.Failed at)) ends w = IsFirstBreak (heard w) at
FillMet file v window group (Err (stop.HistoryFull entries claimed)) ends w = Unit {0}
FillMet file v window group (Err stop.OutOfMemory) ends w = Unit {0}
