-- What the entries of other seats leave of a seat's own: its reads, the places of its windows, and its rows in flight.
use Rattle.std.specs.Prelude.{◌≡◌, ◌⊎◌, ℕ, Bool, true, List, Some}
use Rattle.inc_pending.specs.Polling.{read_of}
use Rattle.inc_pending.specs.declared.reads.ReadRow.{ReadRow}
use Rattle.inc_model.specs.declared.words.event.Event.TheVariants.{PutPlace}
use Rattle.inc_model.specs.declared.words.event.Window.{Window}
use Rattle.inc_model.specs.declared.words.file_state.FileState.{FileState}
use Rattle.inc_model.specs.declared.words.file_state.FlightRow.{FlightRow}
use Rattle.inc_model.specs.declared.words.file_state.Stage.{Stage}
use Rattle.inc_model.specs.declared.words.file_state.Stage.TheVariants.{Written, Placed, Settled, Gated}
use Rattle.inc_model.specs.declared.words.reply.Entry.{Entry}
use Rattle.inc_model.specs.declared.words.reply.Reply.TheVariants.{Placed as placed_reply}
use Rattle.inc_model.specs.relation.State.{has, flight_row, places_left}
use Rattle.inc_model.specs.relation.Stages.{written}
use Rattle.inc_model.specs.relation.Table.{reply_of, unless_failed}
use Rattle.inc_model.specs.relation.Step.{IsLegal, state_after}
use Rattle.inc_model.specs.laws.HistoryLaws.{are_others}
use Rattle.inc_model.specs.laws.StageLaws.{as_stage}

-- ---- reads

-- the asker's read is there, and all that may have changed is that it is done
pub record HasRead (s : FileState) (who serial : ℕ) (row : ReadRow) : Type 0 where
  pub now : ReadRow
  pub is : read_of who serial s.reads ≡ Some now
  pub same : now ≡ record row { done = now.done }
  pub done : row.done ≡ true → now.done ≡ true

abbrev pub OthersKeepReads : Type 0
OthersKeepReads = (s : FileState) (told : Bool) (at who : ℕ) (entries : List Entry) (serial : ℕ) (row : ReadRow) → IsLegal at told s entries → are_others who entries ≡ true → read_of who serial s.reads ≡ Some row
    → HasRead (state_after at s entries) who serial row

-- ---- claimed places

abbrev pub OthersKeepPlaces : Type 0
OthersKeepPlaces = (s : FileState) (told : Bool) (at : ℕ) (entries : List Entry) (window : Window) → IsLegal at told s entries → are_others window.who entries ≡ true → places_left window (state_after at s entries).claimed ≡ places_left window s.claimed

-- ---- rows in flight

-- A row stays as it is but for what syncs do: a placed one may be settled, and a gated one may be acknowledged and gone.
abbrev pub IsLeftAs : FileState → FlightRow → Stage → Type 0
IsLeftAs s row Written = flight_row row.index s.flight ≡ Some row
IsLeftAs s row Placed = (flight_row row.index s.flight ≡ Some row) ⊎ (flight_row row.index s.flight ≡ Some (as_stage Settled row))
IsLeftAs s row Settled = flight_row row.index s.flight ≡ Some row
IsLeftAs s row Gated = (flight_row row.index s.flight ≡ Some row) ⊎ (has row.index s.acknowledged ≡ true)

abbrev pub OthersKeepRows : Type 0
OthersKeepRows = (s : FileState) (told : Bool) (at : ℕ) (entries : List Entry) (index : ℕ) (row : FlightRow) → IsLegal at told s entries → are_others row.window.who entries ≡ true → flight_row index s.flight ≡ Some row
    → IsLeftAs (state_after at s entries) row row.stage

-- so the place of a block that a seat has put is taken, unless a write or sync failed
abbrev pub OwnPutIsPlaced : Type 0
OwnPutIsPlaced = (s : FileState) (told : Bool) (at : ℕ) (entries : List Entry) (window : Window) (index : ℕ) (digest : List ℕ) → IsLegal at told s entries → are_others window.who entries ≡ true
    → flight_row index s.flight ≡ Some (written window index digest)
    → reply_of (state_after at s entries) window.who (PutPlace window index) ≡ unless_failed (state_after at s entries).failed placed_reply
