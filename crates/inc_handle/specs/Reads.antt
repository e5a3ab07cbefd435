-- What a reader's calls leave of its seat's own entries, by what they answer.
use Rattle.std.specs.Prelude.{◌≡◌, ◌⊎◌, ℕ, ◌+◌, ◌<◌, ◌≤◌, List, [], ◌∷◌, ◌++◌, length, Option, Some, None, Result, Ok, Err, slice_get, false}
use Rattle.inc_pending.specs.Polling.{read_of}
use Rattle.inc_pending.specs.declared.reads.ReadRow.{ReadRow}
use Rattle.inc_tree.specs.shape.Geometry.{Shape, block_len, data_blocks, depth}
use Rattle.inc_tree.specs.read_block.Path.{NamesBreak, block_digest}
use Rattle.inc_tree.specs.read_block.Unproved.{unproved_content}
use Rattle.inc_tree.specs.read_block.Verified.{content_of}
use Rattle.inc_tree.specs.declared.read_block.shown.Shown.{Shown}
use Rattle.inc_tree.specs.declared.read_block.shown.Shown.TheVariants.{Proved, Unproved as without_proof}
use Rattle.inc_layout.specs.Backing.{sig_root}
use Rattle.inc_model.specs.relation.Polling.{IsLowestAbsent}
use Rattle.inc_model.specs.relation.State.{all_places, is_in}
use Rattle.inc_model.specs.relation.Step.{state_after}
use Rattle.inc_model.specs.declared.words.event.Event.TheVariants.{Ask, Cancel, Leave, Poll}
use Rattle.inc_model.specs.declared.words.file_state.FileState.{FileState}
use Rattle.inc_model.specs.declared.words.limits.TheConstants.{MOST_ENTRIES}
use Rattle.inc_model.specs.declared.words.outcomes.Found.{Found}
use Rattle.inc_model.specs.declared.words.outcomes.ReadError.{ReadError}
use Rattle.inc_model.specs.declared.words.outcomes.ReadError.TheVariants as refused
use Rattle.inc_model.specs.declared.words.reply.Entry.{Entry}
use Rattle.inc_model.specs.declared.words.reply.Reply.{Reply}
use Rattle.inc_model.specs.declared.words.reply.Reply.TheVariants.{Asked, Compressed, Damaged, Fault, Handed, Left, NoPath, NotYet, OutOfRange, TimedOut}
use Rattle.inc_cache.specs.Kept.{CachedHashes}
use Rattle.inc_cache.specs.Known.{KnownBlocks, missing_levels}
use Rattle.inc_cell.specs.device.Handed.{unknown_hashes}
use Rattle.inc_cell.specs.declared.machine.CellFooting.{CellFooting}
use Rattle.inc_cell.specs.declared.words.answer.HandedBytes.{HandedBytes}
use Rattle.inc_cell.specs.declared.words.answer.CellReply.{CellReply}
use Rattle.inc_cell.specs.declared.words.answer.CellReply.TheVariants.{Done, HistoryFull as full, OutOfMemory as unmet}
use Rattle.inc_turn.specs.Turns.{AddsOwn}
use Rattle.inc_handle.specs.declared.reader.asking.BegunRead.{BegunRead}
use Rattle.inc_handle.specs.declared.reader.polling.Polled.{Polled}
use Rattle.inc_handle.specs.declared.reader.polling.Polled.TheVariants.{Given, Late, Pathless, Faulted, Crowded, Starved}
use Rattle.inc_turn.specs.Views.{heard}
use Rattle.inc_turn.specs.declared.view.View.{View}

-- ---- where an entry stands, and a history without room

-- the entry is there at this position of the history that the seat has seen
abbrev pub EntryStands : View CellFooting → ℕ → Entry → Type 0
EntryStands w at entry = slice_get (heard w) at ≡ Some entry

-- At a moment that the seat has seen, since the history had `from` entries, it had so many entries and so many claimed places, and with one
-- more they are too many.
pub record IsOverfull (from : ℕ) (w : View CellFooting) (entries claimed : ℕ) : Type 0 where
  pub footing : CellFooting
  pub front : List Entry
  pub rest : List Entry
  pub footing_is : w.footing ≡ Some footing
  pub heard_is : heard w ≡ front ++ rest
  pub since : from ≤ length front
  pub entries_are : entries ≡ length front
  pub claimed_are : claimed ≡ all_places (state_after 0 footing.opening front).claimed
  pub full : MOST_ENTRIES < entries + claimed + 1

-- ---- a reader that leaves

pub record LeavesAt (v w : View CellFooting) (at : ℕ) : Type 0 where
  pub readers : ℕ
  pub adds : AddsOwn v w ((let entry : Entry = record { who = v.number; event = Leave; reply = Left readers } in entry) ∷ [])
  pub stands : EntryStands w at (record { who = v.number; event = Leave; reply = Left readers })

pub record LeavesNothing (v w : View CellFooting) : Type 0 where
  pub adds : AddsOwn v w []

abbrev pub LeaveRefused : View CellFooting → View CellFooting → ReadError → Type 0
LeaveRefused v w (refused.HistoryFull entries claimed) = LeavesNothing v w × IsOverfull (length (heard v)) w entries claimed
LeaveRefused v w refused.OutOfMemory = LeavesNothing v w
LeaveRefused v w error = ⊥

abbrev pub LeaveTold : View CellFooting → View CellFooting → Result ℕ ReadError → Type 0
LeaveTold v w (Ok at) = LeavesAt v w at
LeaveTold v w (Err error) = LeaveRefused v w error

-- what a reader that leaves is told of a cell's reply, whose entry stands at this position
abbrev pub left_result : ℕ → CellReply → Result ℕ ReadError
left_result at (Done reply) = Ok at
left_result at (full entries claimed) = Err (refused.HistoryFull entries claimed)
left_result at unmet = Err refused.OutOfMemory

-- ---- asking

abbrev pub ask_entry : ℕ → ℕ → ℕ → ℕ → Reply → Entry
ask_entry who index uid moment reply = record { who = who; event = Ask index uid moment; reply = reply }

abbrev pub poll_entry : ℕ → ℕ → ℕ → Reply → Entry
poll_entry who serial moment reply = record { who = who; event = Poll serial moment; reply = reply }

abbrev pub cancel_entry : ℕ → ℕ → Reply → Entry
cancel_entry who serial reply = record { who = who; event = Cancel serial; reply = reply }

-- the seat's read with this serial is there, and it is one of this data block
pub record WaitsFor (footing : CellFooting) (v : View CellFooting) (serial index : ℕ) : Type 0 where
  pub row : ReadRow
  pub there : read_of v.number serial (state_after 0 footing.opening (heard v)).reads ≡ Some row
  pub block_is : row.block ≡ index
  pub here : index < data_blocks footing.opened.areas.geometry

pub record HasAsked (footing : CellFooting) (v w : View CellFooting) (index uid moment serial : ℕ) : Type 0 where
  pub adds : AddsOwn v w (ask_entry v.number index uid moment (Asked serial) ∷ [])
  pub waits : WaitsFor footing w serial index

-- the ask was refused by this reply
pub record AskedFor (v w : View CellFooting) (index uid moment : ℕ) (reply : Reply) : Type 0 where
  pub adds : AddsOwn v w (ask_entry v.number index uid moment reply ∷ [])

abbrev pub AskRefused : View CellFooting → View CellFooting → ℕ → ℕ → ℕ → ReadError → Type 0
AskRefused v w index uid moment refused.OutOfRange = AskedFor v w index uid moment OutOfRange
AskRefused v w index uid moment refused.Damaged = AskedFor v w index uid moment Damaged
AskRefused v w index uid moment refused.Compressed = AskedFor v w index uid moment Compressed
AskRefused v w index uid moment (refused.HistoryFull entries claimed) = LeavesNothing v w × IsOverfull (length (heard v)) w entries claimed
AskRefused v w index uid moment refused.OutOfMemory = LeavesNothing v w
AskRefused v w index uid moment error = ⊥

abbrev pub AskTold : CellFooting → View CellFooting → View CellFooting → ℕ → ℕ → ℕ → Result ℕ ReadError → Type 0
AskTold footing v w index uid moment (Ok serial) = HasAsked footing v w index uid moment serial
AskTold footing v w index uid moment (Err error) = AskRefused v w index uid moment error

-- the serial of a read that was begun, whatever bytes came with it
abbrev pub serial_in : Result BegunRead ReadError → Result ℕ ReadError
serial_in (Ok begun) = Ok begun.serial
serial_in (Err error) = Err error

-- what a cell replies to an ask
abbrev pub IsAskReply : Reply → Type 0
IsAskReply OutOfRange = Unit {0}
IsAskReply Damaged = Unit {0}
IsAskReply Compressed = Unit {0}
IsAskReply (Asked serial) = Unit {0}
IsAskReply reply = ⊥

abbrev pub AsksCell : CellReply → Type 0
AsksCell (Done reply) = IsAskReply reply
AsksCell (full entries claimed) = Unit {0}
AsksCell unmet = Unit {0}

-- what its asker is told
abbrev pub asked_reply : Reply → Result ℕ ReadError
asked_reply OutOfRange = Err refused.OutOfRange
asked_reply Damaged = Err refused.Damaged
asked_reply Compressed = Err refused.Compressed
asked_reply (Asked serial) = Ok serial
asked_reply reply = Err refused.OutOfMemory

abbrev pub asked_result : CellReply → Result ℕ ReadError
asked_result (Done reply) = asked_reply reply
asked_result (full entries claimed) = Err (refused.HistoryFull entries claimed)
asked_result unmet = Err refused.OutOfMemory

-- ---- polling

-- the entry of a poll with this reply, at this position
pub record PolledAs (v w : View CellFooting) (serial moment : ℕ) (reply : Reply) (at : ℕ) : Type 0 where
  pub adds : AddsOwn v w (poll_entry v.number serial moment reply ∷ [])
  pub stands : EntryStands w at (poll_entry v.number serial moment reply)

-- what was handed out is a block of this index, with those blocks of its path that aren't known
pub record IsHandedFor (footing : CellFooting) (index : ℕ) (known : List ℕ) (handed : HandedBytes) : Type 0 where
  pub len_is : handed.block.len ≡ block_len footing.opened.areas.geometry index
  pub path_count : length handed.path ≡ length (unknown_hashes footing.opened.areas.geometry index known)

-- at its last entry, the block wasn't in the map, and the moment was the deadline or later
pub record WasLate (footing : CellFooting) (w : View CellFooting) (index deadline moment : ℕ) : Type 0 where
  pub front : List Entry
  pub last : Entry
  pub heard_is : heard w ≡ front ++ last ∷ []
  pub absent : is_in index (state_after 0 footing.opening front).map ≡ false
  pub passed : deadline ≤ moment

-- at its last entry, this was the lowest hash block of the path that wasn't in the map
pub record LackedPath (footing : CellFooting) (w : View CellFooting) (index hash : ℕ) : Type 0 where
  pub front : List Entry
  pub last : Entry
  pub state : FileState
  pub heard_is : heard w ≡ front ++ last ∷ []
  pub state_is : state ≡ state_after 0 footing.opening front
  pub lowest : IsLowestAbsent state.n state.m state.map index hash

abbrev pub PollEnds : CellFooting → View CellFooting → View CellFooting → ℕ → ℕ → ℕ → List ℕ → Polled → Type 0
PollEnds footing v w serial index moment known (Given handed at) = PolledAs v w serial moment (Handed handed.block.digest) at × IsHandedFor footing index known handed
PollEnds footing v w serial index moment known (Late deadline now at) =
    (now ≡ moment) × PolledAs v w serial moment (TimedOut deadline) at × WasLate footing w index deadline moment
PollEnds footing v w serial index moment known (Pathless hash at) = PolledAs v w serial moment (NoPath hash) at × LackedPath footing w index hash
PollEnds footing v w serial index moment known (Faulted count at) = PolledAs v w serial moment (Fault count) at
PollEnds footing v w serial index moment known (Crowded entries claimed) = LeavesNothing v w × IsOverfull (length (heard v)) w entries claimed
PollEnds footing v w serial index moment known Starved = LeavesNothing v w

-- where the read has to wait on, nothing is left of the poll
abbrev pub PollTold : CellFooting → View CellFooting → View CellFooting → ℕ → ℕ → ℕ → List ℕ → Option Polled → Type 0
PollTold footing v w serial index moment known None = LeavesNothing v w × WaitsFor footing w serial index
PollTold footing v w serial index moment known (Some polled) = PollEnds footing v w serial index moment known polled

-- what a cell replies to a poll of a read that is there
abbrev pub IsPollReply : Reply → Type 0
IsPollReply (NoPath hash) = Unit {0}
IsPollReply (Handed digest) = Unit {0}
IsPollReply (TimedOut deadline) = Unit {0}
IsPollReply NotYet = Unit {0}
IsPollReply (Fault count) = Unit {0}
IsPollReply reply = ⊥

abbrev pub PollsCell : CellReply → Type 0
PollsCell (Done reply) = IsPollReply reply
PollsCell (full entries claimed) = Unit {0}
PollsCell unmet = Unit {0}

abbrev pub hands_now : Option HandedBytes → ℕ → Option Polled
hands_now (Some handed) at = Some (Given handed at)
hands_now None at = None

abbrev pub polled_reply : Reply → ℕ → ℕ → Option HandedBytes → Option Polled
polled_reply (Handed digest) moment at handed = hands_now handed at
polled_reply (TimedOut deadline) moment at handed = Some (Late deadline moment at)
polled_reply (NoPath hash) moment at handed = Some (Pathless hash at)
polled_reply (Fault count) moment at handed = Some (Faulted count at)
polled_reply reply moment at handed = None

-- what its asker is told
abbrev pub polled_by : CellReply → ℕ → ℕ → Option HandedBytes → Option Polled
polled_by (Done reply) moment at handed = polled_reply reply moment at handed
polled_by (full entries claimed) moment at handed = Some (Crowded entries claimed)
polled_by unmet moment at handed = Some Starved

-- some poll ended so, at a moment that the clock may tell
pub record AwaitEnds (may : ℕ → Type 0) (footing : CellFooting) (v w : View CellFooting) (serial index : ℕ) (known : List ℕ) (polled : Polled) : Type 0 where
  pub moment : ℕ
  pub possible : may moment
  pub ends : PollEnds footing v w serial index moment known polled

-- ---- a whole read

-- the ask of this call, at a moment that the clock may tell, and what followed
pub record AsksThen (may : ℕ → Type 0) (v w : View CellFooting) (index uid serial : ℕ) (rest : List Entry) : Type 0 where
  pub moment : ℕ
  pub possible : may moment
  pub adds : AddsOwn v w (ask_entry v.number index uid moment (Asked serial) ∷ rest)

-- the same with one poll, whose entry stands at this position
pub record AsksAndPolls (may : ℕ → Type 0) (v w : View CellFooting) (index uid serial moment : ℕ) (reply : Reply) (at : ℕ) : Type 0 where
  pub asks : AsksThen may v w index uid serial (poll_entry v.number serial moment reply ∷ [])
  pub possible : may moment
  pub stands : EntryStands w at (poll_entry v.number serial moment reply)

-- the block that is shown is this one of this file, and it has the digest
abbrev pub IsShown : Option (List ℕ) → Shape → ℕ → List ℕ → Shown → Type 0
IsShown root shape index digest (Proved block) = (root ≡ Some block.root) × (block.geometry ≡ shape) × (block.index ≡ index) × (block_digest (content_of block) ≡ digest)
IsShown root shape index digest (without_proof block) =
    (root ≡ None) × (block.index ≡ index) × (block.len ≡ block_len shape index) × (block_digest (unproved_content block) ≡ digest)

pub record ReadShows (may : ℕ → Type 0) (footing : CellFooting) (v w : View CellFooting) (index uid : ℕ) (found : Found) : Type 0 where
  pub serial : ℕ
  pub moment : ℕ
  pub digest : List ℕ
  pub polls : AsksAndPolls may v w index uid serial moment (Handed digest) found.at
  pub shown : IsShown (sig_root footing.opened.sig) footing.opened.areas.geometry index digest found.shown

-- the bytes that were handed out have this digest, and the path breaks first there
pub record ReadBreaks (may : ℕ → Type 0) (footing : CellFooting) (v w : View CellFooting) (index uid level : ℕ) (wanted got : List ℕ) (at : ℕ) : Type 0 where
  pub serial : ℕ
  pub moment : ℕ
  pub root : List ℕ
  pub bytes : List ℕ
  pub path : List (List ℕ)
  pub polls : AsksAndPolls may v w index uid serial moment (Handed (block_digest bytes)) at
  pub root_is : sig_root footing.opened.sig ≡ Some root
  pub full : length path ≡ depth footing.opened.areas.geometry
  pub breaks : NamesBreak root index bytes path level wanted got

-- a read that was given up: its ask, what a poll left, and perhaps a cancel
pub record GivesUp (may : ℕ → Type 0) (v w : View CellFooting) (index uid serial : ℕ) (polled : List Entry) : Type 0 where
  pub cancelled : List Entry
  pub asks : AsksThen may v w index uid serial (polled ++ cancelled)
  pub cancel : (cancelled ≡ []) ⊎ ((reply : Reply) × (cancelled ≡ cancel_entry v.number serial reply ∷ []))

abbrev pub ReadRefused : (ℕ → Type 0) → CellFooting → View CellFooting → View CellFooting → ℕ → ℕ → ReadError → Type 0
ReadRefused may footing v w index uid refused.OutOfRange = (moment : ℕ) × may moment × AskedFor v w index uid moment OutOfRange
ReadRefused may footing v w index uid refused.Damaged = (moment : ℕ) × may moment × AskedFor v w index uid moment Damaged
ReadRefused may footing v w index uid refused.Compressed = (moment : ℕ) × may moment × AskedFor v w index uid moment Compressed
ReadRefused may footing v w index uid (refused.TimedOut serial deadline moment at) =
    AsksAndPolls may v w index uid serial moment (TimedOut deadline) at × WasLate footing w index deadline moment
ReadRefused may footing v w index uid (refused.PathAbsent hash at) =
    (serial : ℕ) × (moment : ℕ) × AsksAndPolls may v w index uid serial moment (NoPath hash) at × LackedPath footing w index hash
ReadRefused may footing v w index uid (refused.Corrupt level wanted got at) = ReadBreaks may footing v w index uid level wanted got at
ReadRefused may footing v w index uid refused.ReadFault =
    (serial : ℕ) × (moment : ℕ) × (count : ℕ) × may moment × GivesUp may v w index uid serial (poll_entry v.number serial moment (Fault count) ∷ [])
ReadRefused may footing v w index uid (refused.HistoryFull entries claimed) =
    IsOverfull (length (heard v)) w entries claimed × (LeavesNothing v w ⊎ ((serial : ℕ) × GivesUp may v w index uid serial []))
ReadRefused may footing v w index uid refused.OutOfMemory = LeavesNothing v w ⊎ ((serial : ℕ) × GivesUp may v w index uid serial [])

-- what a read answers, by its seat's own entries
abbrev pub ReadTold : (ℕ → Type 0) → CellFooting → View CellFooting → View CellFooting → ℕ → ℕ → Result Found ReadError → Type 0
ReadTold may footing v w index uid (Ok found) = ReadShows may footing v w index uid found
ReadTold may footing v w index uid (Err error) = ReadRefused may footing v w index uid error

-- ---- what is known of a path before a read

-- of an unsigned file nothing is known; of a signed one, what is known is of this block, under the file's root
pub record KnowsBlock (footing : CellFooting) (index : ℕ) (known : KnownBlocks) : Type 0 where
  pub root_is : sig_root footing.opened.sig ≡ Some known.root
  pub shape_is : known.shape ≡ footing.opened.areas.geometry
  pub index_is : known.index ≡ index
  -- what isn't known is what is missing
  pub count : length (unknown_hashes footing.opened.areas.geometry index known.numbers) ≡ missing_levels known.levels
  pub few : length known.numbers ≤ 4

abbrev pub KnowsPathOf : CellFooting → ℕ → Option KnownBlocks → Type 0
KnowsPathOf footing index None = sig_root footing.opened.sig ≡ None
KnowsPathOf footing index (Some known) = KnowsBlock footing index known

abbrev pub numbers_known : Option KnownBlocks → List ℕ
numbers_known None = []
numbers_known (Some known) = known.numbers

-- the check of what was handed out fails so
pub record ShowBreaks (footing : CellFooting) (index level : ℕ) (wanted got digest : List ℕ) : Type 0 where
  pub root : List ℕ
  pub bytes : List ℕ
  pub path : List (List ℕ)
  pub digest_is : block_digest bytes ≡ digest
  pub root_is : sig_root footing.opened.sig ≡ Some root
  pub full : length path ≡ depth footing.opened.areas.geometry
  pub breaks : NamesBreak root index bytes path level wanted got

abbrev pub ShowRefused : CellFooting → ℕ → List ℕ → ℕ → ReadError → Type 0
ShowRefused footing index digest at (refused.Corrupt level wanted got place) = (place ≡ at) × ShowBreaks footing index level wanted got digest
ShowRefused footing index digest at error = ⊥

abbrev pub ShowTold : CellFooting → ℕ → List ℕ → ℕ → Result Found ReadError → Type 0
ShowTold footing index digest at (Ok found) = (found.at ≡ at) × IsShown (sig_root footing.opened.sig) footing.opened.areas.geometry index digest found.shown
ShowTold footing index digest at (Err error) = ShowRefused footing index digest at error

-- a read that is given up leaves an entry or none
pub record CancelTold (v w : View CellFooting) (serial : ℕ) : Type 0 where
  pub cancelled : List Entry
  pub adds : AddsOwn v w cancelled
  pub cancel : (cancelled ≡ []) ⊎ ((reply : Reply) × (cancelled ≡ cancel_entry v.number serial reply ∷ []))

-- ---- what a cache may keep of a read

-- a block that was checked under a cache's root
abbrev pub IsOfCache : CachedHashes → Shown → Type 0
IsOfCache cache (Proved block) = (block.root ≡ cache.root) × (block.geometry ≡ cache.shape)
IsOfCache cache (without_proof block) = Unit {0}

abbrev pub IsOfRead : Option CachedHashes → Result Found ReadError → Type 0
IsOfRead None result = Unit {0}
IsOfRead (Some cache) (Ok found) = IsOfCache cache found.shown
IsOfRead (Some cache) (Err error) = Unit {0}
