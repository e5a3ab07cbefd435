-- The reads of one file that were asked and not yet answered, and what a poll answers.
--
-- A read is done where its block is there: it was when the read was asked, or it came since. It is handed out from its
-- floor on, also past its deadline. A read that isn't done times out from its deadline on.
use Rattle.std.specs.Prelude.{◌≡◌, ◌⊎◌, ℕ, ◌+◌, ◌-◌, ◌^◌, ◌<◌, ◌≤◌, Bool, true, false, not, ◌&&◌, List, [], ◌∷◌, ◌++◌, length, min, map, filter, find, Option, Some, None, ◌==◌, nat_lt, nat_le, if◌then◌else◌, All, Any, AllPairs}
use Rattle.inc_pending.specs.declared.reads.ReadRow.{ReadRow}
use Rattle.inc_pending.specs.declared.reads.Decision.{Decision}
use Rattle.inc_pending.specs.declared.reads.Decision.TheVariants.{Stranger, Hand, TimedOut, NotYet}
use Rattle.inc_pending.specs.declared.timeouts.Times.{Times}
use Rattle.inc_pending.specs.declared.pending_record.PendingRecord.{PendingRecord}

pub record Waiting : Type 0 where
  -- by rising serial
  pub reads : List ReadRow
  -- the serial of the read that is asked next
  pub next : ℕ

abbrev pub no_reads : Waiting
no_reads = record { reads = []; next = 1 }

abbrev pub AreRising : List ReadRow → Type 0
AreRising reads = AllPairs (λ earlier later. earlier.serial < later.serial) reads

pub record HoldsReads (reads : List ReadRow) (next : ℕ) : Type 0 where
  pub rising : AreRising reads
  pub below : All (λ row. row.serial < next) reads
  pub few : length reads < next

-- ---- asking

-- a moment so much later; the count of microseconds stops at the greatest number
abbrev pub later : ℕ → ℕ → ℕ
later at span = min (at + span) (2 ^ 64 - 1)

-- a read that is asked at a moment, whose block is there or not
abbrev pub asked_row : ℕ → ℕ → ℕ → Bool → ℕ → ℕ → Times → ReadRow
asked_row serial who block present uid at times = record {
  serial = serial;
  who = who;
  block = block;
  uid = uid;
  asked = at;
  floor = later at (if present then times.least_read else times.least_pending);
  deadline = later at times.most_pending;
  done = present;
}

abbrev pub asked : ReadRow → Waiting → Waiting
asked row table = record { reads = table.reads ++ row ∷ []; next = table.next + 1 }

-- ---- polling

-- the read with this serial, where this asker asked it
abbrev pub is_asked : ℕ → ℕ → ReadRow → Bool
is_asked who serial row = (row.serial == serial) && (row.who == who)

abbrev pub read_of : ℕ → ℕ → List ReadRow → Option ReadRow
read_of who serial reads = find (λ row. is_asked who serial row) reads

-- the other reads
abbrev pub reads_but : ℕ → ℕ → List ReadRow → List ReadRow
reads_but who serial reads = filter (λ row. not (is_asked who serial row)) reads

abbrev pub decision : ReadRow → ℕ → Decision
decision row at =
    if row.done then (if nat_le row.floor at then Hand row.block else NotYet) else (if nat_le row.deadline at then TimedOut row.deadline else NotYet)

abbrev pub decision_of : Option ReadRow → ℕ → Decision
decision_of None at = Stranger
decision_of (Some row) at = decision row at

abbrev pub IsAsked : ℕ → ℕ → ReadRow → Type 0
IsAsked who serial row = (row.serial ≡ serial) × (row.who ≡ who)

-- which answer of a poll at a moment is right: there is no read with this serial that this asker asked, or there is, and it is
-- done and its floor reached, or it isn't done and its deadline reached, or neither
abbrev pub IsAnswer : List ReadRow → ℕ → ℕ → ℕ → Decision → Type 0
IsAnswer reads who serial at Stranger = All (λ row. IsAsked who serial row → ⊥) reads
IsAnswer reads who serial at (Hand block) = Any (λ row. IsAsked who serial row × (row.block ≡ block) × (row.done ≡ true) × (row.floor ≤ at)) reads
IsAnswer reads who serial at (TimedOut deadline) = Any (λ row. IsAsked who serial row × (row.deadline ≡ deadline) × (row.done ≡ false) × (row.deadline ≤ at)) reads
IsAnswer reads who serial at NotYet = Any (λ row. IsAsked who serial row × (((row.done ≡ true) × (at < row.floor)) ⊎ ((row.done ≡ false) × (at < row.deadline)))) reads

-- which answers end a read
abbrev pub ends : Decision → Bool
ends Stranger = false
ends (Hand block) = true
ends (TimedOut deadline) = true
ends NotYet = false

abbrev pub cancelled : ℕ → ℕ → Waiting → Waiting
cancelled who serial table = record table { reads = reads_but who serial table.reads }

abbrev pub polled : ℕ → ℕ → Decision → Waiting → Waiting
polled who serial decision table = if ends decision then cancelled who serial table else table

-- ---- a block that came

-- a read of exactly this block that isn't done
abbrev pub waits_on : ℕ → ReadRow → Bool
waits_on block row = (row.block == block) && not row.done

abbrev pub marked : ℕ → ReadRow → ReadRow
marked block row = if waits_on block row then record row { done = true } else row

abbrev pub marked_all : ℕ → Waiting → Waiting
marked_all block table = record table { reads = map (marked block) table.reads }

-- ---- what a loader is told

abbrev pub is_pending_after : ℕ → ReadRow → Bool
is_pending_after serial row = not row.done && nat_lt serial row.serial

abbrev pub record_of : List ℕ → ReadRow → PendingRecord
record_of id row = record { id = id; asked = row.asked; block = row.block; serial = row.serial; uid = row.uid }
