-- Every event but a poll leaves an entry, and hands out no bytes.
use Rattle.std.proofs.Common.{◌≡◌, ℕ, Bool, true, false, ◌||◌, ltb, ◌+◌, if◌then◌else◌, Option, Some, None, List, refl, subst}
use Rattle.std.specs.Prelude.{count_by}
use Rattle.inc_pending.specs.Polling.{read_of, waits_on}
use Rattle.inc_pending.specs.declared.reads.ReadRow.{ReadRow}
use Rattle.inc_model.specs.relation.Stages.{is_at, is_settled, is_written}
use Rattle.inc_model.specs.relation.State.{flight_row, has, is_in}
use Rattle.inc_model.specs.relation.Step.{IsHanded, IsKept}
use Rattle.inc_model.specs.relation.Table.{ask_reply, cancel_reply, filled_reply, flight_reply, gate_reply, place_reply, presence, put_reply, reply_of, times_reply, unless_failed}
use Rattle.inc_model.specs.declared.words.event.Event.{Event}
use Rattle.inc_model.specs.declared.words.event.Event.TheVariants.{Ask, Poll, Cancel, Claim, PutData, PutPlace, Settle, Gate, Release, TakePending, SetTimes, Ranges, Count, Leave}
use Rattle.inc_model.specs.declared.words.file_state.FileState.{FileState}
use Rattle.inc_model.specs.declared.words.file_state.FlightRow.{FlightRow}
use Rattle.inc_model.specs.declared.words.reply.Reply.{Reply}
use Rattle.inc_model.specs.declared.words.reply.Reply.TheVariants.{BadRange, Handed, NotYet}
use Rattle.inc_cell.specs.events.Answers.{hands_out}
use Rattle.inc_cell.specs.events.Wanted.{ComesOf}
use Rattle.inc_cell.specs.declared.words.answer.CellReply.TheVariants.{Done}

abbrev pub IsPlainReply : Reply → Type 0
IsPlainReply NotYet = ⊥
IsPlainReply (Handed digest) = ⊥
IsPlainReply reply = Unit {0}

pub plain_kept : (reply : Reply) → IsPlainReply reply → IsKept reply
plain_kept NotYet plain = absurd plain
plain_kept reply plain = tt

pub plain_unhanded : (reply : Reply) → IsPlainReply reply → hands_out (Done reply) ≡ false
plain_unhanded (Handed digest) plain = absurd plain
plain_unhanded reply plain = refl

ask_kept : (past damaged compressed : Bool) (next : ℕ) → IsPlainReply (ask_reply past damaged compressed next)
ask_kept true damaged compressed next = tt
ask_kept false true compressed next = tt
ask_kept false false true next = tt
ask_kept false false false next = tt

cancel_kept : (found : Option ReadRow) → IsPlainReply (cancel_reply found)
cancel_kept None = tt
cancel_kept (Some row) = tt

failed_kept : (failed : Option ℕ) (reply : Reply) → IsPlainReply reply → IsPlainReply (unless_failed failed reply)
failed_kept (Some at) reply h = tt
failed_kept None reply h = h

flight_kept : (found : Option FlightRow) (present : Bool) (digest : List ℕ) → IsPlainReply (flight_reply found present digest)
flight_kept (Some row) present digest = tt
flight_kept None true digest = tt
flight_kept None false digest = tt

put_kept : (past damaged compressed : Bool) (reply : Reply) → IsPlainReply reply → IsPlainReply (put_reply past damaged compressed reply)
put_kept true damaged compressed reply h = tt
put_kept false true compressed reply h = tt
put_kept false false true reply h = tt
put_kept false false false reply h = h

place_kept : (mine : Bool) → IsPlainReply (place_reply mine)
place_kept true = tt
place_kept false = tt

gate_kept : (mine : Bool) (count : ℕ) → IsPlainReply (gate_reply mine count)
gate_kept true count = tt
gate_kept false count = tt

times_kept : (full known : Bool) → IsPlainReply (times_reply full known)
times_kept true true = tt
times_kept true false = tt
times_kept false known = tt

bounds_kept : (bad : Bool) (reply : Reply) → IsPlainReply reply → IsPlainReply (if bad then BadRange else reply)
bounds_kept true reply h = tt
bounds_kept false reply h = h

abbrev pub IsNoPoll : Event → Type 0
IsNoPoll (Poll serial moment) = ⊥
IsNoPoll event = Unit {0}

pub reply_plain : (s : FileState) (who : ℕ) (event : Event) → IsNoPoll event → IsPlainReply (reply_of s who event)
reply_plain s who (Ask block uid moment) other = ask_kept _ (has block s.damaged) (has block s.compressed) s.next
reply_plain s who (Poll serial moment) other = absurd other
reply_plain s who (Cancel serial) other = cancel_kept (read_of who serial s.reads)
reply_plain s who (Claim window count) other = failed_kept s.failed _ tt
reply_plain s who (PutData window index digest) other =
    failed_kept s.failed _ (put_kept _ (has index s.damaged) (has index s.compressed) (flight_reply (flight_row index s.flight) (is_in index s.map) digest) (flight_kept (flight_row index s.flight) (is_in index s.map) digest))
reply_plain s who (PutPlace window index) other = failed_kept s.failed _ (place_kept (is_at is_written window (flight_row index s.flight)))
reply_plain s who (Settle window) other = failed_kept s.failed _ tt
reply_plain s who (Gate window index) other = failed_kept s.failed _ (gate_kept (is_at is_settled window (flight_row index s.flight)) (count_by (waits_on index) s.reads))
reply_plain s who (Release window) other = tt
reply_plain s who (TakePending after most) other = tt
reply_plain s who (SetTimes uid times) other = times_kept _ (is_in uid s.times)
reply_plain s who (Ranges start limit room) other = bounds_kept (ltb limit start || ltb (s.n + s.m) limit) (filled_reply (presence s.map (s.n + s.m)) start limit room) tt
reply_plain s who Count other = tt
reply_plain s who Leave other = tt

handed_wanted : (wanted : Reply) (digest : List ℕ) → IsHanded true digest wanted → IsPlainReply wanted → ⊥
handed_wanted (Handed other) digest is plain = plain
handed_wanted wanted digest is plain = absurd is

pub comes_plain : (wanted reply : Reply) → IsPlainReply wanted → ComesOf wanted reply → IsPlainReply reply
comes_plain wanted NotYet plain comes = subst IsPlainReply comes plain
comes_plain wanted (Handed digest) plain comes = absurd (handed_wanted wanted digest comes plain)
comes_plain wanted reply plain comes = tt
