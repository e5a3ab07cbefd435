-- What a cell takes as a machine, and what it does then.
use Rattle.std.specs.Prelude.{◌≡◌, ℕ, List, [], None}
use Rattle.inc_layout.specs.declared.opened.Opened.{Opened}
use Rattle.inc_model.specs.declared.words.event.Event.{Event}
use Rattle.inc_model.specs.declared.words.event.Event.TheVariants.{Ask, Poll, Cancel, Claim, PutData, PutPlace, Settle, Gate, Release, TakePending, SetTimes, Ranges, Count, Leave}
use Rattle.inc_cell.specs.events.Answers.{CellSteps}
use Rattle.inc_cell.specs.device.Early.{HandsEarly, with_count}
use Rattle.inc_cell.specs.device.Handed.{MayHand}
use Rattle.inc_cell.specs.device.Puts.{digest_for}
use Rattle.inc_model.specs.relation.Step.{IsLegal}
use Rattle.inc_cell.specs.laws.Laws.{BeginsAs}
use Rattle.inc_cell.specs.seen.Seen.{Seen, tells}
use Rattle.inc_cell.specs.declared.words.answer.Answer.{Answer}
use Rattle.inc_cell.specs.declared.words.event.CellEvent.{CellEvent}
use Rattle.inc_cell.specs.declared.words.event.CellEvent.TheVariants.{Put, AskEarly, PollKnown, Plain}
use Rattle.inc_cell.specs.declared.machine.CellFooting.{CellFooting}

-- ---- what it takes

-- a window is the asker's, and a put brings its block
abbrev pub PlainTakes : ℕ → Event → Type 0
PlainTakes who (Ask block uid moment) = Unit {0}
PlainTakes who (Poll serial moment) = Unit {0}
PlainTakes who (Cancel serial) = Unit {0}
PlainTakes who (Claim window places) = window.who ≡ who
PlainTakes who (PutData window index digest) = ⊥
PlainTakes who (PutPlace window index) = window.who ≡ who
PlainTakes who (Settle window) = window.who ≡ who
PlainTakes who (Gate window index) = window.who ≡ who
PlainTakes who (Release window) = window.who ≡ who
PlainTakes who (TakePending after most) = Unit {0}
PlainTakes who (SetTimes uid times) = Unit {0}
PlainTakes who (Ranges start end room) = Unit {0}
PlainTakes who Count = Unit {0}
PlainTakes who Leave = Unit {0}

abbrev pub CellTakes : ℕ → CellEvent → Type 0
CellTakes who (Put window index block) = window.who ≡ who
CellTakes who (AskEarly block uid moment) = Unit {0}
CellTakes who (PollKnown serial moment known hint) = Unit {0}
CellTakes who (Plain event) = PlainTakes who event

-- ---- the event that it is in the history, and the block that it brings

abbrev pub event_of : Opened → CellEvent → Event
event_of opened (Put window index block) = PutData window index (digest_for opened index block.bytes)
event_of opened (AskEarly block uid moment) = Ask block uid moment
event_of opened (PollKnown serial moment known hint) = Poll serial moment
event_of opened (Plain event) = event

abbrev pub block_in : CellEvent → List ℕ
block_in (Put window index block) = block.bytes
block_in (AskEarly block uid moment) = []
block_in (PollKnown serial moment known hint) = []
block_in (Plain event) = []

-- ---- what it hands out

abbrev pub PlainHands : Seen → ℕ → Event → Answer → Type 0
PlainHands old who (Poll serial moment) answer = MayHand old who serial [] answer.reply answer.handed
PlainHands old who (Ask block uid moment) answer = answer.handed ≡ None
PlainHands old who (Cancel serial) answer = answer.handed ≡ None
PlainHands old who (Claim window places) answer = answer.handed ≡ None
PlainHands old who (PutData window index digest) answer = answer.handed ≡ None
PlainHands old who (PutPlace window index) answer = answer.handed ≡ None
PlainHands old who (Settle window) answer = answer.handed ≡ None
PlainHands old who (Gate window index) answer = answer.handed ≡ None
PlainHands old who (Release window) answer = answer.handed ≡ None
PlainHands old who (TakePending after most) answer = answer.handed ≡ None
PlainHands old who (SetTimes uid times) answer = answer.handed ≡ None
PlainHands old who (Ranges start end room) answer = answer.handed ≡ None
PlainHands old who Count answer = answer.handed ≡ None
PlainHands old who Leave answer = answer.handed ≡ None

abbrev pub HandsIn : Seen → ℕ → CellEvent → Answer → Type 0
HandsIn old who (Put window index block) answer = answer.handed ≡ None
HandsIn old who (AskEarly block uid moment) answer = answer.handed ≡ None
HandsIn old who (PollKnown serial moment known hint) answer = MayHand old who serial known answer.reply answer.handed
HandsIn old who (Plain event) answer = PlainHands old who event answer

-- ---- what it hands out early, and what that does to the disk's count of faults

-- an ask leaves the count, whatever comes of the read for its early bytes
abbrev pub count_of : CellEvent → ℕ → ℕ → ℕ
count_of (AskEarly block uid moment) before now = before
count_of event before now = now

-- the cell as the event itself leaves it: there the count differs, and nothing else
abbrev pub event_left : CellEvent → Seen → Seen → Seen
event_left event old new = with_count (count_of event old.count new.count) new

abbrev pub EarlyIn : Seen → CellEvent → Answer → Seen → Type 0
EarlyIn old (AskEarly block uid moment) answer new = HandsEarly old.count new block answer.reply answer.early
EarlyIn old event answer new = answer.early ≡ None

-- ---- one step

pub record CellMoves (old : Seen) (who : ℕ) (event : CellEvent) (answer : Answer) (new : Seen) : Type 0 where
  -- whoever comes between two steps of a seat has left a legal history, from the opening of the mounted file on
  pub begins : BeginsAs old.opened old.opening
  pub legal : IsLegal 0 (tells old.states) old.opening old.history
  pub steps : CellSteps old who (event_of old.opened event) (block_in event) answer (event_left event old new)
  pub hands : HandsIn old who event answer
  pub early : EarlyIn old event answer new

-- what no event changes
abbrev pub footing_of : Seen → CellFooting
footing_of seen = record { opening = seen.opening; opened = seen.opened; told = tells seen.states }
