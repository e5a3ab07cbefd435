-- What one step may change in a fill, in words: each stage comes after the one before it, and nothing else moves.
use Rattle.std.specs.Prelude.{◌≡◌, ◌⊎◌, ℕ, ◌-◌, ◌^◌, ◌<◌, is_some, Bool, true, false, List, Some, None, All, Any, Contains}
use Rattle.inc_pending.specs.Keyed.{lookup}
use Rattle.inc_pending.specs.declared.reads.ReadRow.{ReadRow}
use Rattle.inc_pending.specs.Polling.{is_asked}
use Rattle.inc_model.specs.declared.words.event.Event.{Event}
use Rattle.inc_model.specs.declared.words.event.Event.TheVariants.{Poll, Cancel, PutData, PutPlace, Settle, Gate}
use Rattle.inc_model.specs.declared.words.event.Window.{Window}
use Rattle.inc_model.specs.declared.words.file_state.FileState.{FileState}
use Rattle.inc_model.specs.declared.words.file_state.FlightRow.{FlightRow}
use Rattle.inc_model.specs.declared.words.file_state.Stage.{Stage}
use Rattle.inc_model.specs.declared.words.file_state.Stage.TheVariants.{Written as written_stage, Placed as placed_stage, Settled as settled_stage, Gated as gated_stage}
use Rattle.inc_model.specs.declared.words.reply.Reply.{Reply}
use Rattle.inc_model.specs.declared.words.reply.Reply.TheVariants.{Placed, Settled, Gated, Fault}
use Rattle.inc_model.specs.relation.State.{has, flight_row, is_same}
use Rattle.inc_model.specs.relation.Stages.{is_gated, is_settled}
use Rattle.inc_model.specs.relation.Step.{Step}
use Rattle.inc_model.specs.relation.Facts.{FileFacts}
use Rattle.inc_model.specs.laws.WorldLaws.{WasPut, Began, releases}

-- ---- stages

abbrev pub as_stage : Stage → FlightRow → FlightRow
as_stage stage row = record row { stage = stage }

abbrev pub IsSettle : Event → Type 0
IsSettle (Settle window) = Unit {0}
IsSettle event = ⊥

-- a sync that succeeded, of any window
pub record HasSynced (event : Event) (reply : Reply) : Type 0 where
  pub event_is : IsSettle event
  pub reply_is : reply ≡ Settled

abbrev pub WasGated : Reply → Type 0
WasGated (Gated count) = Unit {0}
WasGated reply = ⊥

-- how a row came to its stage: by its own window's put, place and gate, and by any window's sync
abbrev pub CameTo : FileState → Event → Reply → FlightRow → Stage → Type 0
CameTo old event reply row written_stage = (event ≡ PutData row.window row.index row.digest) × WasPut reply
CameTo old event reply row placed_stage = Contains old.flight (as_stage written_stage row) × (event ≡ PutPlace row.window row.index) × (reply ≡ Placed)
CameTo old event reply row settled_stage = Contains old.flight (as_stage placed_stage row) × HasSynced event reply
CameTo old event reply row gated_stage = Contains old.flight (as_stage settled_stage row) × (event ≡ Gate row.window row.index) × WasGated reply

-- each row in flight stood there before, or came to its stage by this step
abbrev pub AdvancesByStages : Type 0
AdvancesByStages = (first old new : FileState) (told : Bool) (at who : ℕ) (event : Event) (reply : Reply) → FileFacts first old → Step at told old who event reply new
    → All (λ row. Contains old.flight row ⊎ CameTo old event reply row row.stage) new.flight

-- ---- what leaves the flight

abbrev pub IsStillFlying : FileState → FlightRow → Type 0
IsStillFlying new row = Any (λ other. (other.window ≡ row.window) × (other.index ≡ row.index) × (other.digest ≡ row.digest)) new.flight

-- a row leaves by the release of its own window, or acknowledged, by a sync after its gate
pub data LeavesFlight (new : FileState) (event : Event) (reply : Reply) (row : FlightRow) : Type 0 where
  Released : releases row.window event ≡ true → LeavesFlight new event reply row
  Acknowledged : HasSynced event reply → is_gated row.stage ≡ true → has row.index new.acknowledged ≡ true → LeavesFlight new event reply row

abbrev pub LeavesFlightOnly : Type 0
LeavesFlightOnly = (old new : FileState) (told : Bool) (at who : ℕ) (event : Event) (reply : Reply) → Step at told old who event reply new
    → All (λ row. IsStillFlying new row ⊎ LeavesFlight new event reply row) old.flight

-- what a sync that succeeded makes of a row, by the stage that the row had: what is written waits for its place, what is placed is
-- durable, what is settled waits for its gate, and what is gated is acknowledged and has left the flight
abbrev pub IsSynced : FileState → FlightRow → Stage → Type 0
IsSynced new row written_stage = Contains new.flight row
IsSynced new row placed_stage = Contains new.flight (as_stage settled_stage row)
IsSynced new row settled_stage = Contains new.flight row
IsSynced new row gated_stage = (has row.index new.acknowledged ≡ true) × (flight_row row.index new.flight ≡ None)

-- a sync of any window moves every row of every window
abbrev pub SettlesAll : Type 0
SettlesAll = (first old new : FileState) (told : Bool) (at who : ℕ) (window : Window) → FileFacts first old → Step at told old who (Settle window) Settled new → All (λ row. IsSynced new row row.stage) old.flight

-- ---- what is acknowledged, opened and begun

-- what is in the map stays there with its digest, whatever the event is
abbrev pub MapStays : Type 0
MapStays = (first old new : FileState) (told : Bool) (at who : ℕ) (event : Event) (reply : Reply) (index : ℕ) (digest : List ℕ) → FileFacts first old → Step at told old who event reply new → lookup index old.map ≡ Some digest → lookup index new.map ≡ Some digest

-- an index is acknowledged by a sync that succeeded after its gate, and by nothing else
abbrev pub AcknowledgesOnlySynced : Type 0
AcknowledgesOnlySynced = (old new : FileState) (told : Bool) (at who : ℕ) (event : Event) (reply : Reply) (index : ℕ) → Step at told old who event reply new → has index new.acknowledged ≡ true
    → (has index old.acknowledged ≡ true) ⊎ (HasSynced event reply × Any (λ row. (row.index ≡ index) × (is_gated row.stage ≡ true)) old.flight)

abbrev pub OpensOnlyByGate : Type 0
OpensOnlyByGate = (old new : FileState) (told : Bool) (at who : ℕ) (event : Event) (reply : Reply) → Step at told old who event reply new → (WasGated reply → ⊥) → new.map ≡ old.map

abbrev pub IsGate : Event → Type 0
IsGate (Gate window index) = Unit {0}
IsGate event = ⊥

abbrev pub BeginsOnlyByGate : Type 0
BeginsOnlyByGate = (old new : FileState) (told : Bool) (at who : ℕ) (event : Event) (reply : Reply) → Step at told old who event reply new → (IsGate event → ⊥) ⊎ (Began reply → ⊥) → new.begun ≡ old.begun

-- a gate write that began, also one that failed, puts the index with the digest that its own window put into `begun`
pub record HasBegun (old new : FileState) (window : Window) (index : ℕ) : Type 0 where
  pub row : FlightRow
  pub flying : flight_row index old.flight ≡ Some row
  pub own : is_same window row.window ≡ true
  pub settled : is_settled row.stage ≡ true
  pub begun : lookup index new.begun ≡ Some row.digest

abbrev pub GateBegins : Type 0
GateBegins = (old new : FileState) (told : Bool) (at who : ℕ) (window : Window) (index : ℕ) (reply : Reply) → Step at told old who (Gate window index) reply new → Began reply → HasBegun old new window index

-- ---- faults

abbrev pub IsPoll : Event → Type 0
IsPoll (Poll serial now) = Unit {0}
IsPoll event = ⊥

abbrev pub IsFault : Reply → Type 0
IsFault (Fault count) = Unit {0}
IsFault reply = ⊥

-- the count rises, and all but a failed read ends the fills
pub record SeesFault (old new : FileState) (event : Event) (count : ℕ) : Type 0 where
  pub counted : new.faults ≡ count
  pub rose : (old.faults < count) ⊎ (count ≡ 2 ^ 64 - 1)
  pub ended : IsPoll event ⊎ (is_some new.failed ≡ true)

abbrev pub FaultsAreSeen : Type 0
FaultsAreSeen = (old new : FileState) (told : Bool) (at who : ℕ) (event : Event) (count : ℕ) → Step at told old who event (Fault count) new → SeesFault old new event count

abbrev pub FaultsStay : Type 0
FaultsStay = (old new : FileState) (told : Bool) (at who : ℕ) (event : Event) (reply : Reply) → Step at told old who event reply new → (IsFault reply → ⊥) → (new.faults ≡ old.faults) × (new.failed ≡ old.failed)

-- ---- after a write or sync that failed

-- the position stays, and nothing is opened, begun or acknowledged any more
pub record IsOver (old new : FileState) : Type 0 where
  pub failed : new.failed ≡ old.failed
  pub map : new.map ≡ old.map
  pub begun : new.begun ≡ old.begun
  pub acknowledged : new.acknowledged ≡ old.acknowledged

abbrev pub FailsForGood : Type 0
FailsForGood = (old new : FileState) (told : Bool) (at who : ℕ) (event : Event) (reply : Reply) (position : ℕ) → Step at told old who event reply new → old.failed ≡ Some position → IsOver old new

-- ---- reads

-- a poll or a cancel that names this read, by its own asker
abbrev pub names_read : ℕ → Event → ReadRow → Bool
names_read who (Poll serial now) row = is_asked who serial row
names_read who (Cancel serial) row = is_asked who serial row
names_read who event row = false

abbrev pub IsStillWaiting : FileState → ReadRow → Type 0
IsStillWaiting new row = Any (λ other. other ≡ record row { done = other.done }) new.reads

-- each read stays, done or not, but for one that its own asker's poll or cancel names
abbrev pub ReadsStay : Type 0
ReadsStay = (old new : FileState) (told : Bool) (at who : ℕ) (event : Event) (reply : Reply) → Step at told old who event reply new → All (λ row. IsStillWaiting new row ⊎ (names_read who event row ≡ true)) old.reads
