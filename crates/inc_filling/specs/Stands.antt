-- Where a group of blocks stands in a cell: what its window has claimed, and how far each of its indices has come.
use Rattle.std.specs.Prelude.{◌≡◌, ◌⊎◌, ℕ, ◌+◌, ◌<◌, ◌≤◌, ◌==◌, Bool, true, false, not, List, [], ◌∷◌, ◌++◌, length, map, Option, Some, None, if◌then◌else◌, Result, Ok, Err}
use Rattle.inc_io.specs.Causes.{Rose}
use Rattle.inc_model.specs.relation.Facts.{FileFacts}
use Rattle.inc_pending.specs.Keyed.{lookup}
use Rattle.inc_model.specs.relation.State.{Digests, IsSameFile, flight_row, has, is_in}
use Rattle.inc_model.specs.declared.words.event.Event.{Event}
use Rattle.inc_model.specs.declared.words.event.Event.TheVariants.{Claim}
use Rattle.inc_model.specs.declared.words.event.Window.{Window}
use Rattle.inc_model.specs.declared.words.file_state.FileState.{FileState}
use Rattle.inc_model.specs.declared.words.file_state.FlightRow.{FlightRow}
use Rattle.inc_model.specs.declared.words.file_state.Stage.{Stage}
use Rattle.inc_model.specs.declared.words.file_state.Stage.TheVariants.{Gated, Placed, Settled, Written}
use Rattle.inc_model.specs.declared.words.limits.TheConstants.{MOST_ENTRIES}
use Rattle.inc_model.specs.declared.words.reply.Entry.{Entry}
use Rattle.inc_cell.specs.events.Answers.{IsFullCell}
use Rattle.inc_cell.specs.laws.Runs.{CellRuns}
use Rattle.inc_cell.specs.seen.Seen.{Seen, state_now}
use Rattle.inc_filling.specs.declared.stop.FillStop.{FillStop}
use Rattle.inc_filling.specs.declared.stop.FillStop.TheVariants.{DiskFault, Failed, HistoryFull, OutOfMemory}

-- ---- what was done

abbrev pub events_of : List Entry → List Event
events_of entries = map (λ entry. entry.event) entries

-- nothing, or a run of events
abbrev pub RunsFrom : Seen → Seen → Type 0
RunsFrom start seen = (seen ≡ start) ⊎ CellRuns start seen

-- what is open stays so, with its digest
abbrev pub KeepsOpen : Digests → Digests → Type 0
KeepsOpen before after = (i : ℕ) (digest : List ℕ) → lookup i before ≡ Some digest → lookup i after ≡ Some digest

-- since the start these events were taken, in this order and no others
pub record HasTaken (start : Seen) (events : List Event) (seen : Seen) : Type 0 where
  pub runs : RunsFrom start seen
  pub taken : events_of seen.history ≡ events_of start.history ++ events
  pub opened : seen.opened ≡ start.opened
  pub opening : seen.opening ≡ start.opening
  pub facts : FileFacts seen.opening (state_now seen)
  pub same : IsSameFile (state_now start) (state_now seen)
  pub stays : KeepsOpen (state_now start).map (state_now seen).map

-- ---- what is left of the claim

-- the window has at least so many places left, and no other has any
pub record HasLeft (window : Window) (left : ℕ) (seen : Seen) : Type 0 where
  pub places : ℕ
  pub claimed : (state_now seen).claimed ≡ (window, places) ∷ []
  pub enough : left ≤ places
  pub within : length seen.history + places ≤ MOST_ENTRIES

-- ---- how far each index has come

abbrev pub FliesAs : Window → Option Stage → Option FlightRow → Type 0
FliesAs window None found = found ≡ None
FliesAs window (Some stage) found = (row : FlightRow) × (found ≡ Some row) × (row.window ≡ window) × (row.stage ≡ stage)

-- at a stage where it is one of these
abbrev pub stage_among : List ℕ → Stage → ℕ → Option Stage
stage_among indices stage i = if has i indices then Some stage else None

-- the first ones are a stage further than the others
abbrev pub staged_first : List ℕ → Stage → List ℕ → Stage → ℕ → Option Stage
staged_first first further others stage i = if has i first then Some further else stage_among others stage i

abbrev pub staged_then : ℕ → Stage → (ℕ → Option Stage) → ℕ → Option Stage
staged_then index stage stages i = if i == index then Some stage else stages i

-- whatever is open is acknowledged, or its gate is written and waits for a sync
abbrev pub AreAcknowledged : FileState → (ℕ → Option Stage) → Type 0
AreAcknowledged s stages = (i : ℕ) → is_in i s.map ≡ true → (has i s.acknowledged ≡ true) ⊎ (stages i ≡ Some Gated)

pub record StandsAt (start : Seen) (window : Window) (left : ℕ) (stages : ℕ → Option Stage) (events : List Event) (seen : Seen) : Type 0 where
  pub taken : HasTaken start events seen
  pub left_is : HasLeft window left seen
  pub flies : (i : ℕ) → FliesAs window (stages i) (flight_row i (state_now seen).flight)
  pub kept : AreAcknowledged (state_now seen) stages
  pub sound : (state_now seen).failed ≡ None
  pub count : seen.count ≡ start.count

-- ---- a write or sync that failed

pub record BreaksOff (start : Seen) (window : Window) (left : ℕ) (events : List Event) (stop : FillStop) (seen : Seen) : Type 0 where
  pub taken : HasTaken start events seen
  pub left_is : HasLeft window left seen
  pub is_fault : stop ≡ DiskFault
  pub rose : Rose start.count seen.count

-- a step of a group, which goes on or breaks off
abbrev pub StepsTo : {T : Type 0} → Seen → Window → ℕ → (ℕ → Option Stage) → List Event → Result T FillStop → Seen → Type 0
StepsTo start window left stages events (Ok done) seen = StandsAt start window left stages events seen
StepsTo start window left stages events (Err stop) seen = BreaksOff start window left events stop seen

-- after a sync: what is placed is settled, and what is gated is in flight no more
abbrev pub synced_stage : Option Stage → Option Stage
synced_stage None = None
synced_stage (Some Placed) = Some Settled
synced_stage (Some Gated) = None
synced_stage (Some stage) = Some stage

-- ---- a put

abbrev pub put_stages : Bool → ℕ → (ℕ → Option Stage) → ℕ → Option Stage
put_stages true index stages = staged_then index Written stages
put_stages false index stages = stages

-- a put stores a block exactly where its index isn't open
pub record PutsOne (start : Seen) (window : Window) (left index : ℕ) (stages : ℕ → Option Stage) (events : List Event) (old : Seen) (put : Bool) (seen : Seen) : Type 0 where
  pub stands : StandsAt start window left (put_stages put index stages) events seen
  pub absent : put ≡ not (is_in index (state_now old).map)
  pub same_map : (state_now seen).map ≡ (state_now old).map

abbrev pub PutsTo : Seen → Window → ℕ → ℕ → (ℕ → Option Stage) → List Event → Seen → Result Bool FillStop → Seen → Type 0
PutsTo start window left index stages events old (Ok put) seen = PutsOne start window left index stages events old put seen
PutsTo start window left index stages events old (Err stop) seen = BreaksOff start window left events stop seen

-- an index of the file that may be filled
pub record MayBeFilled (s : FileState) (index : ℕ) : Type 0 where
  pub within : index < s.n + s.m
  pub undamaged : has index s.damaged ≡ false
  pub uncompressed : has index s.compressed ≡ false

-- ---- between two groups

-- nothing is in flight, nothing is claimed, and what is open is acknowledged
pub record IsAtRest (seen : Seen) : Type 0 where
  pub facts : FileFacts seen.opening (state_now seen)
  pub none_flies : (i : ℕ) → flight_row i (state_now seen).flight ≡ None
  pub none_claimed : (state_now seen).claimed ≡ []
  pub acknowledged : (i : ℕ) → is_in i (state_now seen).map ≡ true → has i (state_now seen).acknowledged ≡ true

-- ---- the claim

-- a claim is done of a file that hasn't failed, and nothing else has begun; or nothing has changed, or the file has failed before
abbrev pub ClaimsTo : {T : Type 0} → Seen → Window → ℕ → Result T FillStop → Seen → Type 0
ClaimsTo old window places (Ok done) new = StandsAt old window places (λ i. None) (Claim window places ∷ []) new × ((state_now new).map ≡ (state_now old).map) × ((state_now old).failed ≡ None)
ClaimsTo old window places (Err DiskFault) new = ⊥
ClaimsTo old window places (Err (Failed at)) new = ((state_now old).failed ≡ Some at) × HasTaken old (Claim window places ∷ []) new × (new.count ≡ old.count)
ClaimsTo old window places (Err (HistoryFull entries claimed)) new = IsFullCell old (Claim window places) entries claimed new
ClaimsTo old window places (Err OutOfMemory) new = new ≡ old

-- ---- the release

-- all that the window had is given up, and nothing of it was left to do
pub record IsReleased (start : Seen) (events : List Event) (seen : Seen) : Type 0 where
  pub taken : HasTaken start events seen
  pub idle : IsAtRest seen
  pub sound : (state_now seen).failed ≡ None
  pub count : seen.count ≡ start.count
