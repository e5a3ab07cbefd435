-- What the relation means in the words of the subject: laws over all runs with crashes, from every start in which the facts hold with its
-- own map as that of the opening.
use Rattle.std.specs.Prelude.{◌≡◌, ◌⊎◌, ℕ, ◌<◌, ◌≤◌, length, Bool, true, false, not, List, [], ◌∷◌, ◌++◌, map, count_by, Some, Any}
use Rattle.std.specs.List.{list_all}
use Rattle.inc_pending.specs.Keyed.{lookup}
use Rattle.inc_pending.specs.Polling.{read_of, waits_on, marked}
use Rattle.inc_pending.specs.declared.reads.ReadRow.{ReadRow}
use Rattle.inc_model.specs.declared.words.event.Event.{Event}
use Rattle.inc_model.specs.declared.words.event.Event.TheVariants.{Poll, PutData, Gate, Release}
use Rattle.inc_model.specs.declared.words.event.Window.{Window}
use Rattle.inc_model.specs.declared.words.file_state.FileState.{FileState}
use Rattle.inc_model.specs.declared.words.file_state.FlightRow.{FlightRow}
use Rattle.inc_model.specs.declared.words.reply.Entry.{Entry}
use Rattle.inc_model.specs.declared.words.reply.Reply.{Reply}
use Rattle.inc_model.specs.declared.words.reply.Reply.TheVariants.{NoPath, Handed, TimedOut, NotYet, Put, Gated, Fault}
use Rattle.inc_ranges.specs.Runs.{is_filled}
use Rattle.inc_model.specs.relation.State.{Digests, is_in, has, flight_row, is_same}
use Rattle.inc_model.specs.relation.Table.{presence}
use Rattle.inc_model.specs.relation.Stages.{is_settled}
use Rattle.inc_model.specs.relation.Polling.{poll_reply, IsLowestAbsent, IsPathThere}
use Rattle.inc_model.specs.relation.Facts.{FileFacts}
use Rattle.inc_model.specs.histories.Worlds.{Move, Does, Crashes, beginning, world_after, IsWorld}

-- ---- polling, exactly, in a state with the facts

-- a read that this asker asked, and whose block is in the map or not
pub record IsAskedRead (s : FileState) (who serial : ℕ) (present : Bool) (row : ReadRow) : Type 0 where
  pub is : read_of who serial s.reads ≡ Some row
  pub block : is_in row.block s.map ≡ present

-- the block isn't there at its deadline
abbrev pub TimesOutWhereAbsent : Type 0
TimesOutWhereAbsent = (first s : FileState) (who serial now : ℕ) (row : ReadRow) → FileFacts first s → IsAskedRead s who serial false row → row.deadline ≤ now → poll_reply s who serial now ≡ TimedOut row.deadline

abbrev pub WaitsWhereAbsent : Type 0
WaitsWhereAbsent = (first s : FileState) (who serial now : ℕ) (row : ReadRow) → FileFacts first s → IsAskedRead s who serial false row → now < row.deadline → poll_reply s who serial now ≡ NotYet

-- also past its deadline
abbrev pub WaitsBeforeFloor : Type 0
WaitsBeforeFloor = (first s : FileState) (who serial now : ℕ) (row : ReadRow) → FileFacts first s → IsAskedRead s who serial true row → now < row.floor → poll_reply s who serial now ≡ NotYet

abbrev pub NamesLowestAbsent : Type 0
NamesLowestAbsent = (first s : FileState) (who serial now hash : ℕ) (row : ReadRow) → FileFacts first s → IsAskedRead s who serial true row → row.floor ≤ now → IsLowestAbsent s.n s.m s.map row.block hash → poll_reply s who serial now ≡ NoPath hash

abbrev pub HandsOutPresent : Type 0
HandsOutPresent = (first s : FileState) (who serial now : ℕ) (row : ReadRow) (digest : List ℕ) → FileFacts first s → IsAskedRead s who serial true row → row.floor ≤ now → IsPathThere s.n s.m s.map row.block → lookup row.block s.map ≡ Some digest
    → poll_reply s who serial now ≡ Handed digest

-- a file without hash blocks has no path, so none lacks
abbrev pub LacksNoPathWithoutTree : Type 0
LacksNoPathWithoutTree = (s : FileState) (who serial now hash : ℕ) → s.m ≡ 0 → poll_reply s who serial now ≡ NoPath hash → ⊥

-- ---- a block that was acknowledged

-- It stays in the map with its digest, whatever comes after, crashes too.
abbrev pub KeepsAcknowledged : Type 0
KeepsAcknowledged = (start : FileState) (told : Bool) (before after : List Move) (index : ℕ) (digest : List ℕ) → FileFacts start start → IsWorld told (beginning start) (before ++ after)
    → has index (world_after (beginning start) before).state.acknowledged ≡ true
    → lookup index (world_after (beginning start) before).state.map ≡ Some digest
    → (has index (world_after (beginning start) (before ++ after)).state.acknowledged ≡ true) × (lookup index (world_after (beginning start) (before ++ after)).state.map ≡ Some digest)

-- and each acknowledged index is in the map
abbrev pub AcknowledgedIsThere : Type 0
AcknowledgedIsThere = (start : FileState) (told : Bool) (moves : List Move) (index : ℕ) → FileFacts start start → IsWorld told (beginning start) moves
    → has index (world_after (beginning start) moves).state.acknowledged ≡ true → is_in index (world_after (beginning start) moves).state.map ≡ true

-- ---- a read that timed out

pub record IsLate (s : FileState) (who serial now deadline : ℕ) : Type 0 where
  pub row : ReadRow
  pub read : IsAskedRead s who serial false row
  pub deadline_is : row.deadline ≡ deadline
  pub late : deadline ≤ now

abbrev pub TimesOutAbsent : Type 0
TimesOutAbsent = (start : FileState) (told : Bool) (before after : List Move) (who serial now deadline : ℕ) → FileFacts start start
    → IsWorld told (beginning start) (before ++ Does (record { who = who; event = Poll serial now; reply = TimedOut deadline }) ∷ after)
    → IsLate (world_after (beginning start) before).state who serial now deadline

-- ---- a read that was handed out, and one whose path isn't there

-- its block and all hash blocks of its path are in the map, its floor is reached, and the digest is the map's where the device tells
pub record IsHandedOut (told : Bool) (s : FileState) (who serial now : ℕ) (digest : List ℕ) : Type 0 where
  pub row : ReadRow
  pub read : IsAskedRead s who serial true row
  pub floor : row.floor ≤ now
  pub path : IsPathThere s.n s.m s.map row.block
  pub held : List ℕ
  pub there : lookup row.block s.map ≡ Some held
  pub same : told ≡ true → digest ≡ held

abbrev pub HandsOutThere : Type 0
HandsOutThere = (start : FileState) (told : Bool) (before after : List Move) (who serial now : ℕ) (digest : List ℕ) → FileFacts start start
    → IsWorld told (beginning start) (before ++ Does (record { who = who; event = Poll serial now; reply = Handed digest }) ∷ after)
    → IsHandedOut told (world_after (beginning start) before).state who serial now digest

pub record LacksPath (s : FileState) (who serial now hash : ℕ) : Type 0 where
  pub row : ReadRow
  pub read : IsAskedRead s who serial true row
  pub floor : row.floor ≤ now
  pub lowest : IsLowestAbsent s.n s.m s.map row.block hash

abbrev pub NamesAbsent : Type 0
NamesAbsent = (start : FileState) (told : Bool) (before after : List Move) (who serial now hash : ℕ) → FileFacts start start
    → IsWorld told (beginning start) (before ++ Does (record { who = who; event = Poll serial now; reply = NoPath hash }) ∷ after)
    → LacksPath (world_after (beginning start) before).state who serial now hash

-- ---- a gate

-- Exactly the reads that wait for this block are done, and counted; the block was settled by its own window, and is in the map now.
pub record Completes (old new : FileState) (window : Window) (index count : ℕ) : Type 0 where
  pub counted : count ≡ count_by (waits_on index) old.reads
  pub reads : new.reads ≡ map (marked index) old.reads
  pub row : FlightRow
  pub flying : flight_row index old.flight ≡ Some row
  pub own : is_same window row.window ≡ true
  pub settled : is_settled row.stage ≡ true
  pub absent : is_in index old.map ≡ false
  pub opened : lookup index new.map ≡ Some row.digest
  pub others : (other : ℕ) → (other ≡ index → ⊥) → lookup other new.map ≡ lookup other old.map

abbrev pub GateCompletes : Type 0
GateCompletes = (start : FileState) (told : Bool) (before after : List Move) (who : ℕ) (window : Window) (index count : ℕ) → FileFacts start start
    → IsWorld told (beginning start) (before ++ Does (record { who = who; event = Gate window index; reply = Gated count }) ∷ after)
    → Completes (world_after (beginning start) before).state (world_after (beginning start) (before ++ Does (record { who = who; event = Gate window index; reply = Gated count }) ∷ [])).state window index count

-- ---- where a digest comes from

abbrev pub WasPut : Reply → Type 0
WasPut (Put place digest) = Unit {0}
WasPut reply = ⊥

pub record PutsBlock (window : Window) (index : ℕ) (digest : List ℕ) (entry : Entry) : Type 0 where
  pub event : entry.event ≡ PutData window index digest
  pub reply : WasPut entry.reply

-- a gate write began, whether it failed or not
abbrev pub Began : Reply → Type 0
Began (Gated count) = Unit {0}
Began (Fault count) = Unit {0}
Began reply = ⊥

pub record BeginsGate (window : Window) (index : ℕ) (entry : Entry) : Type 0 where
  pub event : entry.event ≡ Gate window index
  pub reply : Began entry.reply

abbrev pub releases : Window → Event → Bool
releases window (Release released) = is_same released window
releases window event = false

-- neither a crash nor the window's release
abbrev pub keeps_window : Window → Move → Bool
keeps_window window (Does entry) = not (releases window entry.event)
keeps_window window (Crashes reopened) = false

-- the window put this block, and wasn't released since
pub record PutStands (moves : List Move) (window : Window) (index : ℕ) (digest : List ℕ) : Type 0 where
  pub before : List Move
  pub put : Entry
  pub after : List Move
  pub cut : moves ≡ before ++ Does put ∷ after
  pub puts : PutsBlock window index digest put
  pub held : list_all (keeps_window window) after ≡ true

-- a window put this block, and before its release and before any crash the block's gate write began
pub record PutAndGated (moves : List Move) (index : ℕ) (digest : List ℕ) : Type 0 where
  pub window : Window
  pub before : List Move
  pub gate : Entry
  pub after : List Move
  pub cut : moves ≡ before ++ Does gate ∷ after
  pub put : PutStands before window index digest
  pub gates : BeginsGate window index gate

abbrev pub IsFlying : FileState → ℕ → List ℕ → Type 0
IsFlying start index digest = Any (λ row. (row.index ≡ index) × (row.digest ≡ digest)) start.flight

-- the start has this digest for the index in its map, in its flight or in `begun`, or it was put in the run and its gate write began
abbrev pub ComesFrom : FileState → List Move → ℕ → List ℕ → Type 0
ComesFrom start moves index digest =
    (lookup index start.map ≡ Some digest) ⊎ ((lookup index start.begun ≡ Some digest) ⊎ (IsFlying start index digest ⊎ PutAndGated moves index digest))

abbrev pub DigestsComeFrom : Type 0
DigestsComeFrom = (start : FileState) (told : Bool) (moves : List Move) (index : ℕ) (digest : List ℕ) → FileFacts start start → IsWorld told (beginning start) moves
    → lookup index (world_after (beginning start) moves).state.map ≡ Some digest → ComesFrom start moves index digest

-- ---- what is told of the map

-- the list from which ranges are told has a place for each index, and says of it whether it is in the map
abbrev pub PresenceIsOfMap : Type 0
PresenceIsOfMap = (digests : Digests) (count index : ℕ) → index < count → is_filled (presence digests count) index ≡ is_in index digests

abbrev pub PresenceIsWhole : Type 0
PresenceIsWhole = (digests : Digests) (count : ℕ) → length (presence digests count) ≡ count
