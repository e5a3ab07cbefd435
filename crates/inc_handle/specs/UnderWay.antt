-- A fill on its way: the entries of its seat since it began, each with the reply with which it goes on.
use Rattle.std.specs.Prelude.{◌≡◌, ℕ, ◌+◌, ◌-◌, ◌<◌, ◌≤◌, Bool, true, false, if◌then◌else◌, List, [], ◌∷◌, ◌++◌, length, take, Option, Some, None, Result, Ok, Err}
use Rattle.inc_model.specs.relation.State.{IsOpening, all_places}
use Rattle.inc_model.specs.relation.Step.{HasRoom, IsLegal, state_after}
use Rattle.inc_model.specs.declared.words.event.Event.{Event}
use Rattle.inc_model.specs.declared.words.event.Event.TheVariants.{Claim, Gate, PutData, PutPlace, Release, Settle}
use Rattle.inc_model.specs.declared.words.event.Window.{Window}
use Rattle.inc_model.specs.declared.words.file_state.Stage.{Stage}
use Rattle.inc_model.specs.declared.words.file_state.Stage.TheVariants.{Written}
use Rattle.inc_model.specs.declared.words.reply.Entry.{Entry}
use Rattle.inc_model.specs.declared.words.reply.Reply.{Reply}
use Rattle.inc_model.specs.declared.words.reply.Reply.TheVariants as reply
use Rattle.inc_turn.specs.Turns.{AddsOwn}
use Rattle.inc_turn.specs.Views.{heard}
use Rattle.inc_turn.specs.declared.view.View.{View}
use Rattle.inc_cell.specs.declared.machine.CellFooting.{CellFooting}
use Rattle.inc_filling.specs.Grouped.{AreDistinct, gates_of_each, group_indices, places_of_each, puts_of}
use Rattle.inc_filling.specs.Stands.{events_of, put_stages, stage_among}
use Rattle.inc_filling.specs.declared.filling.Filling.{Filling}
use Rattle.inc_filling.specs.declared.stop.FillStop.{FillStop}
use Rattle.inc_filling.specs.declared.stop.FillStop.TheVariants as stop
use Rattle.inc_handle.specs.Standing.{WindowStands}
use Rattle.inc_handle.specs.declared.fill.window.PutEnd.{PutEnd}
use Rattle.inc_handle.specs.declared.fill.window.PutEnd.TheVariants.{Busy, Present, Stored}

-- ---- replies

abbrev pub IsPutReply : Reply → Type 0
IsPutReply (reply.Put place digest) = Unit {0}
IsPutReply reply.Present = Unit {0}
IsPutReply (reply.Busy window) = Unit {0}
IsPutReply given = ⊥

abbrev pub IsGatedReply : Reply → Type 0
IsGatedReply (reply.Gated waiting) = Unit {0}
IsGatedReply given = ⊥

-- a reply after which a fill goes on to its next event
abbrev pub GoesOnWith : Event → Reply → Type 0
GoesOnWith (Claim window places) given = given ≡ reply.Claimed
GoesOnWith (PutData window index digest) given = IsPutReply given
GoesOnWith (PutPlace window index) given = given ≡ reply.Placed
GoesOnWith (Settle window) given = given ≡ reply.Settled
GoesOnWith (Gate window index) given = IsGatedReply given
GoesOnWith (Release window) given = given ≡ reply.Released
GoesOnWith event given = ⊥

abbrev pub AllGoOn : List Entry → Type 0
AllGoOn [] = Unit {0}
AllGoOn (entry ∷ entries) = GoesOnWith entry.event entry.reply × AllGoOn entries

-- a reply with which a fill stops: an earlier write or sync of the file has failed at that entry, or this one has
abbrev pub StopsWith : Reply → FillStop → Type 0
StopsWith (reply.Failed at) (stop.Failed first) = at ≡ first
StopsWith (reply.Fault count) stop.DiskFault = Unit {0}
StopsWith given stop = ⊥

-- ---- where a fill stands

-- since the start the seat's own entries are these events, each with a reply with which the fill goes on
pub record FillRuns (file : CellFooting) (start : View CellFooting) (window : Window) (left : ℕ) (stages : ℕ → Option Stage) (events : List Event) (v : View CellFooting) : Type 0 where
  pub mine : List Entry
  pub adds : AddsOwn start v mine
  pub events_are : events_of mine ≡ events
  pub going : AllGoOn mine
  pub number_is : v.number ≡ window.who
  pub footing_is : v.footing ≡ Some file
  pub stands : WindowStands window left stages file.opening file.told (heard v)

-- the last of its own entries is the one with which it stops
pub record FillStops (file : CellFooting) (start : View CellFooting) (window : Window) (left : ℕ) (events : List Event) (stop : FillStop) (v : View CellFooting) : Type 0 where
  pub mine : List Entry
  pub last : Entry
  pub adds : AddsOwn start v (mine ++ last ∷ [])
  pub events_are : events_of (mine ++ last ∷ []) ≡ events
  pub going : AllGoOn mine
  pub stopped : StopsWith last.reply stop
  pub number_is : v.number ≡ window.who
  pub footing_is : v.footing ≡ Some file
  pub stands : WindowStands window left (λ i. None) file.opening file.told (heard v)

-- one event of a window that has claimed places left
abbrev pub FillSteps : {T : Type 0} → CellFooting → View CellFooting → Window → ℕ → (ℕ → Option Stage) → List Event → Result T FillStop → View CellFooting → Type 0
FillSteps file start window left stages events (Ok done) v = FillRuns file start window left stages events v
FillSteps file start window left stages events (Err stop) v = FillStops file start window left events stop v

-- ---- a sync

-- an entry ends the history
pub record EndsWith (history : List Entry) (at : ℕ) (entry : Entry) : Type 0 where
  pub before : List Entry
  pub cut : history ≡ before ++ entry ∷ []
  pub place : at ≡ length before

-- the position of a sync with which a fill goes on
abbrev pub settled_at : ℕ → Result Reply FillStop → Result ℕ FillStop
settled_at at (Ok given) = Ok at
settled_at at (Err stop) = Err stop

abbrev pub SyncSteps : CellFooting → View CellFooting → Window → ℕ → (ℕ → Option Stage) → List Event → Result ℕ FillStop → View CellFooting → Type 0
SyncSteps file start window left stages events (Ok at) v =
    FillRuns file start window left stages events v × EndsWith (heard v) at (record { who = window.who; event = Settle window; reply = reply.Settled })
SyncSteps file start window left stages events (Err stop) v = FillStops file start window left events stop v

-- ---- what became of a block that was put

-- where an entry stands in a history
pub record IsEntryAt (history : List Entry) (at : ℕ) (entry : Entry) : Type 0 where
  pub before : List Entry
  pub after : List Entry
  pub cut : history ≡ before ++ entry ∷ after
  pub place : at ≡ length before

-- the seat's own entry of this event with this reply, since its history had so many entries
pub record HasOwnEntry (history : List Entry) (from who : ℕ) (event : Event) (given : Reply) (at : ℕ) : Type 0 where
  pub later : from ≤ at
  pub here : IsEntryAt history at (record { who = who; event = event; reply = given })

-- a put block; one whose index was open; one whose index was in flight in that window
abbrev pub EndIs : List Entry → ℕ → ℕ → Event → PutEnd → Type 0
EndIs history from who event Stored = (at : ℕ) × (place : ℕ) × (digest : List ℕ) × HasOwnEntry history from who event (reply.Put place digest) at
EndIs history from who event (Present at) = HasOwnEntry history from who event reply.Present at
EndIs history from who event (Busy window at) = HasOwnEntry history from who event (reply.Busy window) at

-- of each put what became of it, in their order
abbrev pub EachEnds : List Entry → ℕ → ℕ → List Event → List PutEnd → Type 0
EachEnds history from who [] [] = Unit {0}
EachEnds history from who [] (end ∷ ends) = ⊥
EachEnds history from who (event ∷ events) [] = ⊥
EachEnds history from who (event ∷ events) (end ∷ ends) = EndIs history from who event end × EachEnds history from who events ends

abbrev pub is_stored : PutEnd → Bool
is_stored Stored = true
is_stored end = false

-- the indices whose blocks were put
abbrev pub stored_among : List ℕ → List PutEnd → List ℕ
stored_among [] ends = []
stored_among (index ∷ indices) [] = []
stored_among (index ∷ indices) (end ∷ ends) = if is_stored end then index ∷ stored_among indices ends else stored_among indices ends

-- what a reply to a put that goes on means, where it stands at this position
abbrev pub end_at : ℕ → Reply → PutEnd
end_at at (reply.Put place digest) = Stored
end_at at (reply.Busy window) = Busy window at
end_at at given = Present at

abbrev pub put_end : ℕ → Result Reply FillStop → Result PutEnd FillStop
put_end at (Ok given) = Ok (end_at at given)
put_end at (Err stop) = Err stop

-- a put went on, and this is what became of its block
pub record PutsOwnBlock (file : CellFooting) (start : View CellFooting) (window : Window) (left : ℕ) (stages : ℕ → Option Stage) (before : List Event) (event : Event) (index : ℕ) (end : PutEnd) (v : View CellFooting) : Type 0 where
  pub runs : FillRuns file start window left (put_stages (is_stored end) index stages) (before ++ event ∷ []) v
  pub end_is : EndIs (heard v) (length (heard start)) window.who event end

abbrev pub PutSteps : CellFooting → View CellFooting → Window → ℕ → (ℕ → Option Stage) → List Event → Event → ℕ → Result PutEnd FillStop → View CellFooting → Type 0
PutSteps file start window left stages before event index (Ok end) v = PutsOwnBlock file start window left stages before event index end v
PutSteps file start window left stages before event index (Err stop) v = FillStops file start window left (before ++ event ∷ []) stop v

-- ---- the claim, and the release

-- the history that the seat has seen has no room for the event, and both numbers say so; the seat added nothing
pub record IsFullFile (file : CellFooting) (start : View CellFooting) (event : Event) (entries claimed : ℕ) (v : View CellFooting) : Type 0 where
  pub adds : AddsOwn start v []
  pub no_room : HasRoom (length (heard v)) (state_after 0 file.opening (heard v)) event → ⊥
  pub entries_are : entries ≡ length (heard v)
  pub claimed_are : claimed ≡ all_places (state_after 0 file.opening (heard v)).claimed

-- the claim alone, of a file that had failed before
pub record IsUnclaimed (file : CellFooting) (start : View CellFooting) (window : Window) (event : Event) (at : ℕ) (v : View CellFooting) : Type 0 where
  pub adds : AddsOwn start v (record { who = window.who; event = event; reply = reply.Failed at } ∷ [])
  pub begins : IsOpening file.opening
  pub legal : IsLegal 0 file.told file.opening (heard v)

abbrev pub ClaimSteps : {T : Type 0} → CellFooting → View CellFooting → Window → ℕ → Result T FillStop → View CellFooting → Type 0
ClaimSteps file start window places (Ok done) v = FillRuns file start window places (λ i. None) (Claim window places ∷ []) v
ClaimSteps file start window places (Err stop.DiskFault) v = ⊥
ClaimSteps file start window places (Err (stop.Failed at)) v = IsUnclaimed file start window (Claim window places) at v
ClaimSteps file start window places (Err (stop.HistoryFull entries claimed)) v = IsFullFile file start (Claim window places) entries claimed v
ClaimSteps file start window places (Err stop.OutOfMemory) v = AddsOwn start v []

-- a window with places left, whatever of its indices is in flight
pub record MayRelease (file : CellFooting) (window : Window) (v : View CellFooting) : Type 0 where
  pub left : ℕ
  pub some : 0 < left
  pub number_is : v.number ≡ window.who
  pub footing_is : v.footing ≡ Some file
  pub stands : WindowStands window left (λ i. None) file.opening file.told (heard v)

abbrev pub release_entry : Window → Entry
release_entry window = record { who = window.who; event = Release window; reply = reply.Released }

pub record Releases (file : CellFooting) (window : Window) (v w : View CellFooting) : Type 0 where
  pub adds : AddsOwn v w (release_entry window ∷ [])
  pub begins : IsOpening file.opening
  pub legal : IsLegal 0 file.told file.opening (heard w)

-- ---- several events

-- it stopped after a front of these events, the last of which is the one with which it stopped
pub record StopsIn (file : CellFooting) (start : View CellFooting) (window : Window) (left : ℕ) (events : List Event) (stop : FillStop) (v : View CellFooting) : Type 0 where
  pub front : List Event
  pub rest : List Event
  pub whole : front ++ rest ≡ events
  pub stops : FillStops file start window left front stop v

abbrev pub FillMoves : {T : Type 0} → CellFooting → View CellFooting → Window → ℕ → (ℕ → Option Stage) → List Event → Result T FillStop → View CellFooting → Type 0
FillMoves file start window left stages events (Ok done) v = FillRuns file start window left stages events v
FillMoves file start window left stages events (Err stop) v = StopsIn file start window left events stop v

-- what follows the puts, for the indices whose blocks were put: their places, a sync, their gates, a sync
abbrev pub finish_events : Window → List ℕ → List Event
finish_events window indices = places_of_each window indices ++ (Settle window ∷ (gates_of_each window indices ++ (Settle window ∷ [])))

-- so many events are they
abbrev pub finish_places : ℕ → ℕ → ℕ
finish_places n left = n + (1 + (n + (1 + left)))

abbrev pub FinishSteps : CellFooting → View CellFooting → Window → ℕ → List Event → Result ℕ FillStop → View CellFooting → Type 0
FinishSteps file start window left events (Ok at) v =
    FillRuns file start window left (λ i. None) events v × EndsWith (heard v) at (record { who = window.who; event = Settle window; reply = reply.Settled })
FinishSteps file start window left events (Err stop) v = StopsIn file start window left events stop v

-- of a group that is put, what became of each block, and the indices that were stored
pub record PutsAll (file : CellFooting) (start : View CellFooting) (window : Window) (left : ℕ) (events : List Event) (group : List Filling) (ends : List PutEnd) (stored : List ℕ) (v : View CellFooting) : Type 0 where
  pub runs : FillRuns file start window left (stage_among stored Written) (events ++ puts_of file.opened window group) v
  pub each : EachEnds (heard v) (length (heard start)) window.who (puts_of file.opened window group) ends
  pub count : length ends ≡ length group
  pub stored_are : stored ≡ stored_among (group_indices group) ends
  pub distinct : AreDistinct stored

-- a front of the group was put, and the next put is the one with which it stopped
pub record PutsSome (file : CellFooting) (start : View CellFooting) (window : Window) (left : ℕ) (events : List Event) (group : List Filling) (ends : List PutEnd) (stored : List ℕ) (stop : FillStop) (v : View CellFooting) : Type 0 where
  pub within : length ends < length group
  pub stops : FillStops file start window left (events ++ puts_of file.opened window (take (length ends + 1) group)) stop v
  pub each : EachEnds (heard v) (length (heard start)) window.who (puts_of file.opened window (take (length ends) group)) ends
  pub stored_are : stored ≡ stored_among (take (length ends) (group_indices group)) ends

abbrev pub PutsOwnGroup : {T : Type 0} → CellFooting → View CellFooting → Window → ℕ → List Event → List Filling → Result T FillStop → List PutEnd → List ℕ → View CellFooting → Type 0
PutsOwnGroup file start window left events group (Ok done) ends stored v = PutsAll file start window left events group ends stored v
PutsOwnGroup file start window left events group (Err stop) ends stored v = PutsSome file start window left events group ends stored stop v

-- after so many of them
pub record PutsFirst (file : CellFooting) (start : View CellFooting) (window : Window) (left : ℕ) (events : List Event) (group : List Filling) (k : ℕ) (ends : List PutEnd) (stored : List ℕ) (v : View CellFooting) : Type 0 where
  pub runs : FillRuns file start window (length group - k + left) (stage_among stored Written) (events ++ puts_of file.opened window (take k group)) v
  pub count : length ends ≡ k
  pub each : EachEnds (heard v) (length (heard start)) window.who (puts_of file.opened window (take k group)) ends
  pub stored_are : stored ≡ stored_among (take k (group_indices group)) ends
  pub distinct : AreDistinct stored
