-- The replies, by tests in order: the first that holds gives it. What is looked up comes in as an argument.
--
-- The place of a `Put` is 0 here and free in the relation, and no row of this table gives a `Fault`: where the device's call fails, that
-- stands in place of what the table gives.
use Rattle.std.specs.Prelude.{ℕ, zero, suc, ◌+◌, ◌-◌, Bool, true, false, not, ◌&&◌, ◌||◌, List, [], ◌∷◌, ◌++◌, map, take, drop, filter, length, count_by, Option, Some, None, ◌==◌, nat_lt, nat_le, if◌then◌else◌}
use Rattle.inc_pending.specs.Polling.{read_of, waits_on, is_pending_after, record_of}
use Rattle.inc_pending.specs.declared.reads.ReadRow.{ReadRow}
use Rattle.inc_pending.specs.declared.timeouts.TheConstants.{MOST_ROWS}
use Rattle.inc_ranges.specs.Runs.{runs_of, start_or}
use Rattle.inc_model.specs.declared.words.event.Event.{Event}
use Rattle.inc_model.specs.declared.words.event.Event.TheVariants.{Ask, Poll, Cancel, Claim, PutData, PutPlace, Settle, Gate, Release, TakePending, SetTimes, Ranges, Count, Leave}
use Rattle.inc_model.specs.declared.words.file_state.FileState.{FileState}
use Rattle.inc_model.specs.declared.words.file_state.FlightRow.{FlightRow}
use Rattle.inc_model.specs.declared.words.reply.Reply.{Reply}
use Rattle.inc_model.specs.declared.words.reply.Reply.TheVariants.{OutOfRange, Damaged, Compressed, Asked, Stranger, Cancelled, Failed, Claimed, Busy, Present, Put, Placed, Settled, Gated, Released, Taken, TimesFull, TimesSet, BadRange, Filled, Counted, Left}
use Rattle.inc_model.specs.relation.State.{Digests, is_in, has, flight_row}
use Rattle.inc_model.specs.relation.Stages.{is_at, is_written, is_settled}
use Rattle.inc_model.specs.relation.Polling.{poll_reply}

-- ---- reads

-- past the data blocks; damaged; compressed
abbrev pub ask_reply : Bool → Bool → Bool → ℕ → Reply
ask_reply past damaged compressed next =
    if past then OutOfRange else if damaged then Damaged else if compressed then Compressed else Asked next

abbrev pub cancel_reply : Option ReadRow → Reply
cancel_reply None = Stranger
cancel_reply (Some row) = Cancelled

-- ---- fills

-- after a write or sync that failed there are no fills
abbrev pub unless_failed : Option ℕ → Reply → Reply
unless_failed (Some at) reply = Failed at
unless_failed None reply = reply

-- where an index is in flight, that is tested before the map: its gate may be written and not yet acknowledged
abbrev pub flight_reply : Option FlightRow → Bool → List ℕ → Reply
flight_reply (Some row) present digest = Busy row.window
flight_reply None true digest = Present
flight_reply None false digest = Put 0 digest

-- past all blocks; damaged; compressed
abbrev pub put_reply : Bool → Bool → Bool → Reply → Reply
put_reply past damaged compressed reply =
    if past then OutOfRange else if damaged then Damaged else if compressed then Compressed else reply

abbrev pub place_reply : Bool → Reply
place_reply mine = if mine then Placed else Stranger

abbrev pub gate_reply : Bool → ℕ → Reply
gate_reply mine waiting = if mine then Gated waiting else Stranger

-- ---- loaders, the session, questions

abbrev pub take_reply : FileState → ℕ → ℕ → Reply
take_reply s after most = Taken (map (record_of s.id) (take most (filter (is_pending_after after) s.reads))) s.readers

-- all rows are taken, and this user has none
abbrev pub times_reply : Bool → Bool → Reply
times_reply full known = if full && not known then TimesFull else TimesSet

-- which of the first so many indices are in the map
unfoldable pub presence : Digests → ℕ → List Bool
presence digests zero = []
presence digests (suc count) = presence digests count ++ is_in count digests ∷ []

abbrev pub filled_reply : List Bool → ℕ → ℕ → ℕ → Reply
filled_reply present start end room =
    Filled (take room (runs_of present start end)) (start_or end (drop room (runs_of present start end))) (nat_lt room (length (runs_of present start end)))

abbrev pub ranges_reply : Digests → ℕ → ℕ → ℕ → ℕ → Reply
ranges_reply digests count start end room =
    if nat_lt end start || nat_lt count end then BadRange else filled_reply (presence digests count) start end room

-- data blocks and hash blocks of the map
abbrev pub count_reply : Digests → ℕ → Reply
count_reply digests n = Counted (count_by (λ row. nat_lt row.0 n) digests) (count_by (λ row. nat_le n row.0) digests)

-- the events whose replies own a list, and so take memory
abbrev pub has_list : Event → Bool
has_list (TakePending after most) = true
has_list (Ranges start end room) = true
has_list (Ask block uid at) = false
has_list (Poll serial at) = false
has_list (Cancel serial) = false
has_list (Claim window places) = false
has_list (PutData window index digest) = false
has_list (PutPlace window index) = false
has_list (Settle window) = false
has_list (Gate window index) = false
has_list (Release window) = false
has_list (SetTimes uid times) = false
has_list Count = false
has_list Leave = false

-- the replies that own a list
abbrev pub lists_rows : Reply → Bool
lists_rows (Taken records readers) = true
lists_rows (Filled list next more) = true
lists_rows reply = false

-- ---- the table

abbrev pub reply_of : FileState → ℕ → Event → Reply
reply_of s who (Ask block uid at) = ask_reply (nat_le s.n block) (has block s.damaged) (has block s.compressed) s.next
reply_of s who (Poll serial at) = poll_reply s who serial at
reply_of s who (Cancel serial) = cancel_reply (read_of who serial s.reads)
reply_of s who (Claim window places) = unless_failed s.failed Claimed
reply_of s who (PutData window index digest) =
    unless_failed s.failed (put_reply (nat_le (s.n + s.m) index) (has index s.damaged) (has index s.compressed) (flight_reply (flight_row index s.flight) (is_in index s.map) digest))
reply_of s who (PutPlace window index) = unless_failed s.failed (place_reply (is_at is_written window (flight_row index s.flight)))
reply_of s who (Settle window) = unless_failed s.failed Settled
reply_of s who (Gate window index) = unless_failed s.failed (gate_reply (is_at is_settled window (flight_row index s.flight)) (count_by (waits_on index) s.reads))
reply_of s who (Release window) = Released
reply_of s who (TakePending after most) = take_reply s after most
reply_of s who (SetTimes uid times) = times_reply (length s.times == MOST_ROWS) (is_in uid s.times)
reply_of s who (Ranges start end room) = ranges_reply s.map (s.n + s.m) start end room
reply_of s who Count = count_reply s.map s.n
reply_of s who Leave = Left (s.readers - 1)
