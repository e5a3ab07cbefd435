-- What contracts see of the executed core: the file's state, and for how many more events of fills its lists have room.
use Rattle.std.specs.Prelude.{◌≡◌, ℕ, List, Option, Some, None}
use Rattle.inc_model.specs.declared.words.event.Event.{Event}
use Rattle.inc_model.specs.declared.words.event.Event.TheVariants.{Ask, Poll, Cancel, Claim, PutData, PutPlace, Settle, Gate, Release, TakePending, SetTimes, Ranges, Count, Leave}
use Rattle.inc_model.specs.declared.words.file_state.FileState.{FileState}
use Rattle.inc_model.specs.declared.words.file_state.FlightRow.{FlightRow}
use Rattle.inc_model.specs.declared.words.reply.Reply.{Reply}
use Rattle.inc_model.specs.declared.words.reply.Reply.TheVariants.{Fault}
use Rattle.inc_model.specs.relation.State.{Digests, flight_row}

pub record CoreState : Type 0 where
  pub state : FileState
  -- so many events of fills take no memory
  pub room : ℕ

-- which events may want memory to change the state: those that add a read, a claim or times, and those of a fill where no room is left
abbrev pub MayWantMemory : Event → ℕ → Type 0
MayWantMemory (Ask block uid moment) room = Unit {0}
MayWantMemory (Claim window places) room = Unit {0}
MayWantMemory (SetTimes uid times) room = Unit {0}
MayWantMemory (PutData window index digest) room = room ≡ 0
MayWantMemory (Settle window) room = room ≡ 0
MayWantMemory (Gate window index) room = room ≡ 0
MayWantMemory (PutPlace window index) room = ⊥
MayWantMemory (Release window) room = ⊥
MayWantMemory (Poll serial moment) room = ⊥
MayWantMemory (Cancel serial) room = ⊥
MayWantMemory (TakePending after most) room = ⊥
MayWantMemory (Ranges start end most) room = ⊥
MayWantMemory Count room = ⊥
MayWantMemory Leave room = ⊥

-- ---- what an index may be begun with, where its gate's write failed

abbrev pub MayBeginNow : Type 0 → Reply → Type 0
MayBeginNow can (Fault count) = can
MayBeginNow can reply = Unit {0}

abbrev pub MayBeginBy : (Digests → ℕ → List ℕ → Type 0) → Digests → ℕ → Option FlightRow → Reply → Type 0
MayBeginBy can_begin digests index None reply = Unit {0}
MayBeginBy can_begin digests index (Some row) reply = MayBeginNow (can_begin digests index row.digest) reply

abbrev pub MayBegin : (Digests → ℕ → List ℕ → Type 0) → FileState → Event → Reply → Type 0
MayBegin can_begin s (Gate window index) reply = MayBeginBy can_begin s.map index (flight_row index s.flight) reply
MayBegin can_begin s event reply = Unit {0}
