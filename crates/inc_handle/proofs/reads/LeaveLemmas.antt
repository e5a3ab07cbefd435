-- What a reader that leaves is told, by the reply of the cell.
use Rattle.std.proofs.Common.{◌≡◌, ℕ, ◌-◌, [], ◌++◌, length, refl, sym, subst}
use Rattle.inc_model.specs.executed.EntriesLeft.{entry_left}
use Rattle.inc_model.specs.declared.words.event.Event.TheVariants.{Leave}
use Rattle.inc_model.specs.declared.words.reply.Reply.{Reply}
use Rattle.inc_model.specs.declared.words.reply.Reply.TheVariants.{Left}
use Rattle.inc_cell.specs.events.Answers.{CellReplies}
use Rattle.inc_cell.specs.events.CellEvents.{footing_of}
use Rattle.inc_cell.specs.events.Steps.{ReplyDoes}
use Rattle.inc_cell.specs.seen.Seen.{state_now, tells}
use Rattle.inc_cell.specs.declared.words.answer.Answer.{Answer}
use Rattle.inc_cell.specs.declared.words.answer.CellReply.{CellReply}
use Rattle.inc_cell.specs.declared.words.answer.CellReply.TheVariants.{Done, HistoryFull, OutOfMemory}
use Rattle.inc_cell.specs.declared.words.event.CellEvent.TheVariants.{Plain}
use Rattle.inc_cell.specs.declared.machine.CellFooting.{CellFooting}
use Rattle.inc_turn.specs.Turns.{AddsOwn}
use Rattle.inc_turn.specs.Views.{heard}
use Rattle.inc_turn.specs.declared.view.View.{View}
use Rattle.inc_handle.specs.CellTurns.{CellTurn, entries_by}
use Rattle.inc_handle.specs.Reads.{IsOverfull, LeaveTold, LeavesAt, LeavesNothing, left_result}
use Rattle.inc_handle.proofs.reads.AskLemmas.{fits_same, footing_after, overfull, seen_before}
use Rattle.inc_handle.proofs.reads.PollLemmas.{stands_last}

leave_full : (v w : View CellFooting) (entries claimed : ℕ) (answer : Answer) → CellTurn v (Plain Leave) answer w → answer.reply ≡ HistoryFull entries claimed
    → LeavesNothing v w × IsOverfull (length (heard v)) w entries claimed
leave_full v w entries claimed answer t is =
    let adds = rw is at t.adds in (
      record { adds = adds },
      overfull (footing_of t.before) (length (heard v)) w t.before t.after Leave entries claimed (seen_before v t.before.history t.between t.told) refl (footing_after (footing_of t.before) v w _ t.adds (sym t.floor)) refl (rw is at t.heard_is)
          (rw is at t.moves.steps.reply_is),
    )

leaves_at : (v w : View CellFooting) (answer : Answer) (t : CellTurn v (Plain Leave) answer w) (reply : Reply) → answer.reply ≡ Done reply → LeavesAt v w answer.at
leaves_at v w answer t reply is =
    let s = state_now t.before in
    let does : ReplyDoes t.before v.number Leave [] reply t.after = subst (λ (r : CellReply). CellReplies t.before v.number Leave [] r t.after) is t.moves.steps.reply_is in
    let same = fits_same (tells t.before.states) s.faults (Left (s.readers - 1)) reply refl does.step.allowed.fits in
    let adds : AddsOwn v w (entry_left v.number Leave reply) = subst (λ (r : CellReply). AddsOwn v w (entries_by v.number Leave r)) is t.adds in
    let told : heard w ≡ t.before.history ++ entry_left v.number Leave reply = subst (λ (r : CellReply). heard w ≡ t.before.history ++ entries_by v.number Leave r) is t.heard_is in
    record {
      readers = s.readers - 1;
      adds = subst (λ (r : Reply). AddsOwn v w (entry_left v.number Leave r)) (sym same) adds;
      stands =
          stands_last w t.before.history (record { who = v.number; event = Leave; reply = Left (s.readers - 1) }) answer.at
          (subst (λ (r : Reply). heard w ≡ t.before.history ++ entry_left v.number Leave r) (sym same) told) t.moves.steps.at_is;
    }

leave_by : (v w : View CellFooting) (answer : Answer) (t : CellTurn v (Plain Leave) answer w) (reply : CellReply) → answer.reply ≡ reply → LeaveTold v w (left_result answer.at reply)
leave_by v w answer t (Done reply) is = leaves_at v w answer t reply is
leave_by v w answer t (HistoryFull entries claimed) is = leave_full v w entries claimed answer t is
leave_by v w answer t OutOfMemory is = record { adds = subst (λ (r : CellReply). AddsOwn v w (entries_by v.number Leave r)) is t.adds }

pub leave_told : (v w : View CellFooting) (answer : Answer) → CellTurn v (Plain Leave) answer w → LeaveTold v w (left_result answer.at answer.reply)
leave_told v w answer t = leave_by v w answer t answer.reply refl
