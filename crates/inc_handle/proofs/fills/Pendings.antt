-- Taking the waiting reads is one entry of the seat, or none where there is no room or no memory.
use Rattle.std.proofs.Common.{◌≡◌, ℕ, List, [], length, Some, None, refl, sym, ap, subst, ◌∙◌, arith, append-nil}
use Rattle.std.proofs.lemmas.List.{append_cancel_left}
use Rattle.inc_model.specs.histories.Machines.{added}
use Rattle.inc_model.specs.relation.State.{all_places}
use Rattle.inc_model.specs.relation.Step.{HasRoom, state_after}
use Rattle.inc_model.specs.relation.Table.{reply_of}
use Rattle.inc_model.specs.declared.words.event.Event.TheVariants.{TakePending}
use Rattle.inc_model.specs.declared.words.event.Window.{Window}
use Rattle.inc_model.specs.declared.words.file_state.FileState.{FileState}
use Rattle.inc_model.specs.declared.words.reply.Entry.{Entry}
use Rattle.inc_model.specs.declared.words.reply.Reply.{Reply}
use Rattle.inc_turn.specs.Turns.{AddsOwn}
use Rattle.inc_turn.specs.Views.{heard}
use Rattle.inc_turn.specs.declared.view.View.{View}
use Rattle.inc_turn.proofs.TurnLemmas.{nothing_adds, turn_adds}
use Rattle.inc_cell.specs.events.Answers.{CellReplies}
use Rattle.inc_cell.specs.events.CellEvents.{CellMoves, footing_of}
use Rattle.inc_cell.specs.events.Steps.{ReplyDoes}
use Rattle.inc_cell.specs.seen.Seen.{Seen, state_now, tells}
use Rattle.inc_cell.specs.declared.machine.CellFooting.{CellFooting}
use Rattle.inc_cell.specs.declared.words.answer.Answer.{Answer}
use Rattle.inc_cell.specs.declared.words.answer.CellReply.{CellReply}
use Rattle.inc_cell.specs.declared.words.answer.CellReply.TheVariants.{Done, HistoryFull, OutOfMemory}
use Rattle.inc_cell.specs.declared.words.event.CellEvent.{CellEvent}
use Rattle.inc_cell.specs.declared.words.event.CellEvent.TheVariants as cell
use Rattle.inc_handle.specs.Shared.{TakesTurn}
use Rattle.inc_handle.specs.Pending.{TakesPending, taken_by}
use Rattle.inc_handle.proofs.fills.Claims.{quiet_reply}
use Rattle.inc_handle.proofs.fills.Turns.{added_on, floor, own_stands, stands_on}

module _ (file : CellFooting) (v w : View CellFooting) (after most : ℕ) (footing_is : v.footing ≡ Some file) (answer : Answer) (t : TakesTurn v (cell.Plain (TakePending after most)) answer w) where
  abbrev window : Window
  window = record { who = v.number; count = 0 }

  abbrev event : CellEvent
  event = cell.Plain (TakePending after most)

  abbrev Does : Reply → Type 0
  Does given = ReplyDoes t.before v.number (TakePending after most) [] given t.after

  abbrev Takes : CellReply → Type 0
  Takes r = TakesPending file v after most (taken_by answer.at r) w

  taken_now : (given : Reply) → given ≡ reply_of (state_now t.before) v.number (TakePending after most) → Does given → Takes (Done given)
  taken_now given e does = subst (λ (g : Reply). Takes (Done g)) (sym e) (by (subst Does e does))
    where
      by : Does (reply_of (state_now t.before) v.number (TakePending after most)) → Takes (Done (reply_of (state_now t.before) v.number (TakePending after most)))
      by done = record {
        adds = added_on file v v w window [] [] (nothing_adds v) refl tt refl footing_is event answer t (reply_of (state_now t.before) v.number (TakePending after most)) done refl;
        here = record { before = t.before.history; after = []; cut = sym t.all_heard ∙ done.history; place = t.stepped.steps.at_is };
        legal = (stands_on file v v w window [] [] (nothing_adds v) refl tt refl footing_is event answer t (reply_of (state_now t.before) v.number (TakePending after most)) done refl 0 (λ i. None)
            (own_stands file v v w window [] [] (nothing_adds v) refl tt refl footing_is event answer t (reply_of (state_now t.before) v.number (TakePending after most)) done refl 0 (λ i. None) tt (omega arith) (λ i. tt))).legal;
      }

  -- a turn in which nothing changed
  added_none : t.after ≡ t.before → AddsOwn v w []
  added_none same =
      let none : added t.turn ≡ [] = append_cancel_left t.before.history (added t.turn) [] (sym t.told_after ∙ ap (λ (seen : Seen). seen.history) same ∙ sym (append-nil t.before.history)) in
      subst (λ (es : List Entry). AddsOwn v w es) none (turn_adds (λ (cell : Seen). cell.history) footing_of CellMoves v w event answer t)

  heard_is : t.after ≡ t.before → t.before.history ≡ heard w
  heard_is same = sym (ap (λ (seen : Seen). seen.history) same) ∙ t.all_heard

  opening_is : t.before.opening ≡ file.opening
  opening_is = ap (λ (f : CellFooting). f.opening) (floor file v v w window [] [] (nothing_adds v) refl tt refl footing_is event answer t)

  abbrev IsFullNow : ℕ → ℕ → FileState → List Entry → Type 0
  IsFullNow entries claimed opening history =
      (HasRoom (length history) (state_after 0 opening history) (TakePending after most) → ⊥) × (entries ≡ length history) × (claimed ≡ all_places (state_after 0 opening history).claimed)

  take_by : (r : CellReply) → CellReplies t.before v.number (TakePending after most) [] r t.after → Takes r
  take_by (Done given) does =
      taken_now given (quiet_reply (tells t.before.states) (state_now t.before).faults (reply_of (state_now t.before) v.number (TakePending after most)) given tt refl does.step.allowed.fits) does
  take_by (HistoryFull entries claimed) full =
      let now : IsFullNow entries claimed file.opening (heard w) =
      subst (λ (history : List Entry). IsFullNow entries claimed file.opening history) (heard_is full.same)
      (subst (λ (opening : FileState). IsFullNow entries claimed opening t.before.history) opening_is (full.no_room, full.entries_are, full.claimed_are)) in
      record { adds = added_none full.same; no_room = now.0; entries_are = now.1; claimed_are = now.2 }
  take_by OutOfMemory wants = added_none wants.same

  pub take_steps : Takes answer.reply
  take_steps = take_by answer.reply t.stepped.steps.reply_is
