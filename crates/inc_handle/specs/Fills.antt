-- What a fill leaves of its seat's own entries, by what it answers.
use Rattle.std.specs.Prelude.{◌≡◌, ◌⊎◌, ℕ, zero, suc, ◌+◌, ◌-◌, ◌*◌, List, [], ◌∷◌, ◌++◌, length, take, None, Result, Ok, Err}
use Rattle.inc_model.specs.laws.HistoryLaws.{own_entries}
use Rattle.inc_model.specs.relation.State.{IsOpening}
use Rattle.inc_model.specs.relation.Step.{IsLegal}
use Rattle.inc_model.specs.declared.words.event.Event.{Event}
use Rattle.inc_model.specs.declared.words.event.Event.TheVariants.{Claim, Settle}
use Rattle.inc_model.specs.declared.words.event.Window.{Window}
use Rattle.inc_model.specs.declared.words.reply.Entry.{Entry}
use Rattle.inc_model.specs.declared.words.reply.Reply.TheVariants as reply
use Rattle.inc_turn.specs.Turns.{AddsOwn}
use Rattle.inc_turn.specs.Views.{heard}
use Rattle.inc_turn.specs.declared.view.View.{View}
use Rattle.inc_cell.specs.declared.machine.CellFooting.{CellFooting}
use Rattle.inc_filling.specs.Grouped.{group_indices, puts_of, stores_of}
use Rattle.inc_filling.specs.Stands.{events_of}
use Rattle.inc_filling.specs.declared.filling.Filling.{Filling}
use Rattle.inc_filling.specs.declared.stop.FillStop.{FillStop}
use Rattle.inc_filling.specs.declared.stop.FillStop.TheVariants as stop
use Rattle.inc_handle.specs.UnderWay.{AllGoOn, EachEnds, EndsWith, FillRuns, IsEntryAt, IsFullFile, IsUnclaimed, StopsIn, StopsWith, release_entry, stored_among}
use Rattle.inc_handle.specs.declared.fill.window.PutEnd.{PutEnd}

abbrev pub settle_entry : Window → Entry
settle_entry window = record { who = window.who; event = Settle window; reply = reply.Settled }

-- ---- a group that was claimed, from its puts to the sync after its gates

-- all events from the puts on, in their order, where these indices were stored
abbrev pub store_events : CellFooting → Window → List Event → List Filling → List ℕ → List Event
store_events file window events group stored = (events ++ puts_of file.opened window group) ++ stores_of window stored

pub record StoresAll (file : CellFooting) (start : View CellFooting) (window : Window) (left : ℕ) (events : List Event) (group : List Filling) (at : ℕ) (ends : List PutEnd) (stored : List ℕ) (v : View CellFooting) : Type 0 where
  pub runs : FillRuns file start window left (λ i. None) (store_events file window events group stored) v
  pub each : EachEnds (heard v) (length (heard start)) window.who (puts_of file.opened window group) ends
  pub stored_are : stored ≡ stored_among (group_indices group) ends
  pub settled : (stored ≡ []) ⊎ EndsWith (heard v) at (settle_entry window)

-- `ends` tells of the blocks whose puts went on: of all, or of those before the put with which it stopped
pub record StoresSome (file : CellFooting) (start : View CellFooting) (window : Window) (left : ℕ) (events : List Event) (group : List Filling) (ends : List PutEnd) (stored : List ℕ) (stop : FillStop) (v : View CellFooting) : Type 0 where
  pub stops : StopsIn file start window left (store_events file window events group stored) stop v
  pub covers : (length ends ≡ length group) ⊎ (stops.front ≡ events ++ puts_of file.opened window (take (length ends + 1) group))
  pub each : EachEnds (heard v) (length (heard start)) window.who (puts_of file.opened window (take (length ends) group)) ends
  pub stored_are : stored ≡ stored_among (take (length ends) (group_indices group)) ends

abbrev pub StoresOwnGroup : CellFooting → View CellFooting → Window → ℕ → List Event → List Filling → Result ℕ FillStop → List PutEnd → List ℕ → View CellFooting → Type 0
StoresOwnGroup file start window left events group (Ok at) ends stored v = StoresAll file start window left events group at ends stored v
StoresOwnGroup file start window left events group (Err stop) ends stored v = StoresSome file start window left events group ends stored stop v

-- ---- the whole of it

abbrev pub claim_places : ℕ → ℕ
claim_places count = 5 * count + 1

abbrev pub claim_event : Window → ℕ → Event
claim_event window count = Claim window (claim_places count)

-- the sync after the gates: of the seat's own entries the release alone comes after it
pub record IsLastSettle (history : List Entry) (window : Window) (at : ℕ) : Type 0 where
  pub here : IsEntryAt history at (settle_entry window)
  pub last : own_entries window.who here.after ≡ release_entry window ∷ []

-- so many entries has a fill that stored so many blocks and found others open or in flight
abbrev pub fill_entries : ℕ → ℕ → ℕ
fill_entries zero others = others + 2
fill_entries (suc written) others = 3 * suc written + others + 4

-- All its events were taken, in their order: claim, puts, places, sync, gates, sync, release; no place, gate or sync where nothing was stored.
pub record IsFilledOwn (file : CellFooting) (v : View CellFooting) (window : Window) (group : List Filling) (at : ℕ) (ends : List PutEnd) (stored : List ℕ) (w : View CellFooting) : Type 0 where
  pub mine : List Entry
  pub adds : AddsOwn v w (mine ++ release_entry window ∷ [])
  pub events_are : events_of mine ≡ store_events file window (claim_event window (length group) ∷ []) group stored
  pub count_is : length mine + 1 ≡ fill_entries (length stored) (length group - length stored)
  pub going : AllGoOn mine
  pub each : EachEnds (heard w) (length (heard v)) window.who (puts_of file.opened window group) ends
  pub stored_are : stored ≡ stored_among (group_indices group) ends
  pub settled : (stored ≡ []) ⊎ IsLastSettle (heard w) window at
  pub begins : IsOpening file.opening
  pub legal : IsLegal 0 file.told file.opening (heard w)

-- The events up to the one with which it stopped, and the release.
pub record IsBrokenOwn (file : CellFooting) (v : View CellFooting) (window : Window) (group : List Filling) (ends : List PutEnd) (stored : List ℕ) (why : FillStop) (w : View CellFooting) : Type 0 where
  pub mine : List Entry
  pub last : Entry
  pub rest : List Event
  pub adds : AddsOwn v w ((mine ++ last ∷ []) ++ release_entry window ∷ [])
  pub events_are : events_of (mine ++ last ∷ []) ++ rest ≡ store_events file window (claim_event window (length group) ∷ []) group stored
  pub going : AllGoOn mine
  pub stopped : StopsWith last.reply why
  pub covers : (length ends ≡ length group) ⊎ (events_of (mine ++ last ∷ []) ≡ (claim_event window (length group) ∷ []) ++ puts_of file.opened window (take (length ends + 1) group))
  pub each : EachEnds (heard w) (length (heard v)) window.who (puts_of file.opened window (take (length ends) group)) ends
  pub stored_are : stored ≡ stored_among (take (length ends) (group_indices group)) ends
  pub begins : IsOpening file.opening
  pub legal : IsLegal 0 file.told file.opening (heard w)

abbrev pub FillsOwn : CellFooting → View CellFooting → Window → List Filling → Result ℕ FillStop → List PutEnd → List ℕ → View CellFooting → Type 0
FillsOwn file v window group (Ok at) ends stored w = IsFilledOwn file v window group at ends stored w
FillsOwn file v window group (Err stop.DiskFault) ends stored w = IsBrokenOwn file v window group ends stored stop.DiskFault w
FillsOwn file v window group (Err (stop.Failed at)) ends stored w = IsUnclaimed file v window (claim_event window (length group)) at w ⊎ IsBrokenOwn file v window group ends stored (stop.Failed at) w
FillsOwn file v window group (Err (stop.HistoryFull entries claimed)) ends stored w = IsFullFile file v (claim_event window (length group)) entries claimed w
FillsOwn file v window group (Err stop.OutOfMemory) ends stored w = AddsOwn v w []
