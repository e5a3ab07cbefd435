-- A turn of the lock is one event of the cell.
use Rattle.std.proofs.Common.{◌≡◌, ℕ, true, false, ◌==◌, List, [], ◌∷◌, ◌++◌, Option, Some, None, refl, sym, ap, subst, ◌∙◌}
use Rattle.std.proofs.lemmas.List.{append-nil, append_cancel_left}
use Rattle.std.proofs.lemmas.Bool.{eqb-true, false_from_ne_true}
use Rattle.inc_model.specs.histories.Machines.{added}
use Rattle.inc_model.specs.laws.HistoryLaws.{are_others}
use Rattle.inc_model.specs.declared.words.event.Event.{Event}
use Rattle.inc_model.specs.declared.words.reply.Entry.{Entry}
use Rattle.inc_cell.specs.events.Answers.{CellReplies}
use Rattle.inc_cell.specs.events.CellEvents.{block_in, event_left, event_of}
use Rattle.inc_cell.specs.seen.Seen.{Seen}
use Rattle.inc_cell.specs.declared.machine.CellFooting.{CellFooting}
use Rattle.inc_cell.specs.declared.words.answer.Answer.{Answer}
use Rattle.inc_cell.specs.declared.words.answer.CellReply.{CellReply}
use Rattle.inc_cell.specs.declared.words.answer.CellReply.TheVariants.{Done, HistoryFull, OutOfMemory}
use Rattle.inc_cell.specs.declared.words.event.CellEvent.{CellEvent}
use Rattle.inc_turn.specs.Lists.{AreOthers, entries_of_turns}
use Rattle.inc_turn.specs.Turns.{AddsOwn}
use Rattle.inc_turn.specs.declared.view.View.{View}
use Rattle.inc_handle.specs.Shared.{TakesTurn}
use Rattle.inc_handle.specs.CellTurns.{CellTurn, entries_by}

-- the history that an event leaves
left_by : (old : Seen) (who : ℕ) (event : Event) (block : List ℕ) (reply : CellReply) (new : Seen) → CellReplies old who event block reply new
    → new.history ≡ old.history ++ entries_by who event reply
left_by old who event block (Done reply) new replies = replies.history
left_by old who event block (HistoryFull entries claimed) new full = ap (λ (seen : Seen). seen.history) full.same ∙ sym (append-nil old.history)
left_by old who event block OutOfMemory new wants = ap (λ (seen : Seen). seen.history) wants.same ∙ sym (append-nil old.history)

-- turns of others leave no entry of this seat
others_of_turns : (number : ℕ) (turns : List (Option Entry)) → AreOthers number turns → are_others number (entries_of_turns turns) ≡ true
others_of_turns number [] h = refl
others_of_turns number (None ∷ turns) h = others_of_turns number turns h.1
others_of_turns number (Some entry ∷ turns) h =
    let other : (entry.who == number) ≡ false = false_from_ne_true (entry.who == number) (λ e. h.0 (eqb-true entry.who number e)) in
    rw other (others_of_turns number turns h.1)

pub cell_turn : (v w : View CellFooting) (event : CellEvent) (answer : Answer) (t : TakesTurn v event answer w) → AddsOwn v w (added t.turn) → CellTurn v event answer w
cell_turn v w event answer t adds =
    let left = left_by t.before v.number (event_of t.before.opened event) (block_in event) answer.reply (event_left event t.before t.after) t.stepped.steps.reply_is in
    let same = append_cancel_left t.before.history (added t.turn) (entries_by v.number (event_of t.before.opened event) answer.reply) (sym t.told_after ∙ left) in
    record {
      before = t.before;
      after = t.after;
      between = entries_of_turns t.between;
      moves = t.stepped;
      floor = t.floor_before;
      others = others_of_turns v.number t.between t.others;
      told = t.told_before;
      adds = subst (AddsOwn v w) same adds;
      heard_is = sym t.all_heard ∙ left;
    }
