-- What a group of blocks does to a cell, event by event.
use Rattle.std.specs.Prelude.{◌≡◌, ℕ, ◌+◌, ◌*◌, ◌<◌, ◌≤◌, true, false, not, List, [], ◌∷◌, ◌++◌, length, map, filter, take, slice_index, Result, Ok, Err}
use Rattle.std.specs.List.{filter_map}
use Rattle.std.specs.Prelude.{Option, Some, None}
use Rattle.inc_io.specs.Causes.{Rose}
use Rattle.inc_layout.specs.declared.opened.Opened.{Opened}
use Rattle.inc_model.specs.relation.State.{Digests, has, is_in}
use Rattle.inc_model.specs.declared.words.event.Event.{Event}
use Rattle.inc_model.specs.declared.words.event.Event.TheVariants.{Claim, Gate, PutData, PutPlace, Release, Settle}
use Rattle.inc_model.specs.declared.words.event.Window.{Window}
use Rattle.inc_cell.specs.events.Answers.{IsFullCell}
use Rattle.inc_cell.specs.device.Puts.{digest_for}
use Rattle.inc_cell.specs.seen.Seen.{Seen, state_now}
use Rattle.inc_model.specs.declared.words.file_state.FileState.{FileState}
use Rattle.inc_model.specs.declared.words.file_state.Stage.{Stage}
use Rattle.inc_model.specs.declared.words.file_state.Stage.TheVariants.{Written}
use Rattle.inc_filling.specs.Stands.{HasLeft, HasTaken, IsReleased, MayBeFilled, StandsAt, stage_among}
use Rattle.inc_filling.specs.declared.filling.Filling.{Filling}
use Rattle.inc_filling.specs.declared.stop.FillStop.{FillStop}
use Rattle.inc_filling.specs.declared.stop.FillStop.TheVariants.{DiskFault, Failed, HistoryFull, OutOfMemory}

-- ---- the blocks

abbrev pub group_indices : List Filling → List ℕ
group_indices group = map (λ filling. filling.index) group

-- no index stands twice
abbrev pub AreDistinct : List ℕ → Type 0
AreDistinct indices = (k : ℕ) → k < length indices → has (slice_index indices k) (take k indices) ≡ false

-- those that aren't open are stored
abbrev pub stored_of : Digests → List ℕ → List ℕ
stored_of open_ones indices = filter (λ index. not (is_in index open_ones)) indices

-- each of these is open
abbrev pub AllOpen : Digests → List ℕ → Type 0
AllOpen open_ones indices = (i : ℕ) → has i indices ≡ true → is_in i open_ones ≡ true

-- ---- the events, in their order

abbrev pub put_of : Opened → Window → Filling → Event
put_of opened window filling = PutData window filling.index (digest_for opened filling.index filling.block.bytes)

abbrev pub puts_of : Opened → Window → List Filling → List Event
puts_of opened window group = map (put_of opened window) group

abbrev pub places_of_each : Window → List ℕ → List Event
places_of_each window indices = map (PutPlace window) indices

abbrev pub gates_of_each : Window → List ℕ → List Event
gates_of_each window indices = map (Gate window) indices

-- two syncs for all of them together; none where nothing was stored
abbrev pub stores_of : Window → List ℕ → List Event
stores_of window [] = []
stores_of window (index ∷ indices) =
    places_of_each window (index ∷ indices) ++ (Settle window ∷ (gates_of_each window (index ∷ indices) ++ (Settle window ∷ [])))

-- ---- the puts among them

abbrev pub put_in : Event → Option (ℕ × List ℕ)
put_in (PutData window index digest) = Some (index, digest)
put_in event = None

-- of each put its index and digest
abbrev pub puts_among : List Event → List (ℕ × List ℕ)
puts_among events = filter_map put_in events

-- ---- a group that broke off

pub record EndsEarly (start : Seen) (window : Window) (left : ℕ) (puts : List (ℕ × List ℕ)) (stop : FillStop) (seen : Seen) : Type 0 where
  pub events : List Event
  pub taken : HasTaken start events seen
  pub puts_are : puts_among events ≡ puts
  pub left_is : HasLeft window left seen
  pub is_fault : stop ≡ DiskFault
  pub rose : Rose start.count seen.count

-- ---- the phases of a group

abbrev pub AllMayBeFilled : FileState → List ℕ → Type 0
AllMayBeFilled s indices = (k : ℕ) → k < length indices → MayBeFilled s (slice_index indices k)

-- of a group that is put, the indices that were stored
pub record PutsEach (start : Seen) (window : Window) (left : ℕ) (events : List Event) (group : List Filling) (open_before : Digests) (stored : List ℕ) (seen : Seen) : Type 0 where
  pub stands : StandsAt start window left (stage_among stored Written) (events ++ puts_of start.opened window group) seen
  pub stored_are : stored ≡ stored_of open_before (group_indices group)
  pub distinct : AreDistinct stored
  pub same_map : (state_now seen).map ≡ open_before

-- a front of the group was put, and no more
pub record PutsFront (start : Seen) (window : Window) (left : ℕ) (events : List Event) (group : List Filling) (stop : FillStop) (seen : Seen) : Type 0 where
  pub count : ℕ
  pub within : count ≤ length group
  pub ends : EndsEarly start window left (puts_among (events ++ puts_of start.opened window (take count group))) stop seen

abbrev pub PutsGroup : {T : Type 0} → Seen → Window → ℕ → List Event → List Filling → Digests → Result T FillStop → List ℕ → Seen → Type 0
PutsGroup start window left events group open_before (Ok done) stored seen = PutsEach start window left events group open_before stored seen
PutsGroup start window left events group open_before (Err stop) stored seen = PutsFront start window left events group stop seen

-- each of these indices goes from one stage to the next
abbrev pub MovesEach : {T : Type 0} → Seen → Window → ℕ → List ℕ → Stage → List Event → List Event → Result T FillStop → Seen → Type 0
MovesEach start window left indices stage events more (Ok done) seen = StandsAt start window left (stage_among indices stage) (events ++ more) seen
MovesEach start window left indices stage events more (Err stop) seen = EndsEarly start window left (puts_among events) stop seen

-- as many events as a group of so many blocks has at most between its claim and its release, and some more
abbrev pub needed : ℕ → ℕ → ℕ
needed n left = n + (n + (1 + (n + (1 + left))))

-- all of a group that was claimed, from its puts to the sync after its gates
pub record StoresEach (start : Seen) (window : Window) (left : ℕ) (events : List Event) (group : List Filling) (open_before : Digests) (stored : List ℕ) (seen : Seen) : Type 0 where
  pub stands : StandsAt start window left (λ i. None) ((events ++ puts_of start.opened window group) ++ stores_of window stored) seen
  pub stored_are : stored ≡ stored_of open_before (group_indices group)
  pub there : AllOpen (state_now seen).map stored

abbrev pub StoresGroup : {T : Type 0} → Seen → Window → ℕ → List Event → List Filling → Digests → Result T FillStop → List ℕ → Seen → Type 0
StoresGroup start window left events group open_before (Ok done) stored seen = StoresEach start window left events group open_before stored seen
StoresGroup start window left events group open_before (Err stop) stored seen = PutsFront start window left events group stop seen

-- ---- the whole group

-- all events of a group, in their order
abbrev pub group_events : Opened → Window → ℕ → List Filling → List ℕ → List Event
group_events opened window places group stored = (((Claim window places ∷ []) ++ puts_of opened window group) ++ stores_of window stored) ++ (Release window ∷ [])

-- so many places of the history are claimed for a group
abbrev pub group_places : List Filling → ℕ
group_places group = 5 * length group + 1

-- All its events were taken, nothing is in flight, and what is open is acknowledged: the group among it. The indices that weren't open before were stored.
pub record IsFilled (old : Seen) (window : Window) (group : List Filling) (stored : List ℕ) (new : Seen) : Type 0 where
  pub released : IsReleased old (group_events old.opened window (group_places group) group stored) new
  pub stored_are : stored ≡ stored_of (state_now old).map (group_indices group)
  pub there : AllOpen (state_now new).map (group_indices group)
  pub unfailed : (state_now old).failed ≡ None

-- the last of these events gives the window up
abbrev pub EndReleased : Window → List Event → Type 0
EndReleased window events = (before : List Event) × (events ≡ before ++ (Release window ∷ []))

-- A front of the group was put, and no more: a device call has failed. The window was given up.
pub record FrontIsPut (old : Seen) (window : Window) (group : List Filling) (new : Seen) : Type 0 where
  pub count : ℕ
  pub within : count ≤ length group
  pub events : List Event
  pub taken : HasTaken old events new
  pub puts_are : puts_among events ≡ puts_among (puts_of old.opened window (take count group))
  pub released : EndReleased window events
  pub rose : Rose old.count new.count

abbrev pub FillsGroup : {T : Type 0} → Seen → Window → List Filling → Result T FillStop → List ℕ → Seen → Type 0
FillsGroup old window group (Ok done) stored new = IsFilled old window group stored new
FillsGroup old window group (Err DiskFault) stored new = FrontIsPut old window group new
FillsGroup old window group (Err (Failed at)) stored new = ((state_now old).failed ≡ Some at) × HasTaken old (Claim window (group_places group) ∷ []) new × (new.count ≡ old.count)
FillsGroup old window group (Err (HistoryFull entries claimed)) stored new = IsFullCell old (Claim window (group_places group)) entries claimed new
FillsGroup old window group (Err OutOfMemory) stored new = new ≡ old
