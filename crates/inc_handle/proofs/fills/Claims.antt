-- The claim with which a fill begins, and the release with which it ends.
use Rattle.std.proofs.Common.{◌≡◌, ◌⊎◌, inl, inr, ℕ, ◌+◌, Bool, false, List, [], ◌∷◌, length, Option, Some, None, refl, sym, ap, subst, ◌∙◌, arith, append-nil}
use Rattle.std.specs.Prelude.{Result}
use Rattle.std.proofs.lemmas.List.{append_cancel_left}
use Rattle.inc_model.specs.histories.Machines.{added}
use Rattle.inc_model.specs.relation.State.{all_places, claim, places_left}
use Rattle.inc_model.specs.relation.Step.{Fits, HasRoom, may_fail, state_after}
use Rattle.inc_model.specs.relation.Table.{unless_failed}
use Rattle.inc_model.specs.declared.words.event.Event.TheVariants.{Claim, Release}
use Rattle.inc_model.specs.declared.words.event.Window.{Window}
use Rattle.inc_model.specs.declared.words.file_state.FileState.{FileState}
use Rattle.inc_model.specs.declared.words.reply.Entry.{Entry}
use Rattle.inc_model.specs.declared.words.reply.Reply.{Reply}
use Rattle.inc_model.specs.declared.words.reply.Reply.TheVariants as reply
use Rattle.inc_model.proofs.lists.Claims.{claim_own}
use Rattle.inc_turn.specs.Turns.{AddsOwn}
use Rattle.inc_turn.specs.Views.{heard}
use Rattle.inc_turn.specs.declared.view.View.{View}
use Rattle.inc_turn.proofs.TurnLemmas.{nothing_adds, turn_adds}
use Rattle.inc_cell.specs.events.Answers.{CellReplies}
use Rattle.inc_cell.specs.events.CellEvents.{CellMoves, footing_of}
use Rattle.inc_cell.specs.events.Steps.{ReplyDoes}
use Rattle.inc_cell.specs.seen.Seen.{Seen, state_now, tells}
use Rattle.inc_cell.specs.declared.machine.CellFooting.{CellFooting}
use Rattle.inc_cell.specs.declared.words.answer.Answer.{Answer}
use Rattle.inc_cell.specs.declared.words.answer.CellReply.{CellReply}
use Rattle.inc_cell.specs.declared.words.answer.CellReply.TheVariants.{Done, HistoryFull, OutOfMemory}
use Rattle.inc_cell.specs.declared.words.event.CellEvent.{CellEvent}
use Rattle.inc_cell.specs.declared.words.event.CellEvent.TheVariants as cell
use Rattle.inc_filling.specs.Stops.{going_on, goes_on}
use Rattle.inc_filling.specs.declared.stop.FillStop.{FillStop}
use Rattle.inc_filling.proofs.lemmas.EventLemmas.{IsPlainReply, came}
use Rattle.inc_handle.specs.Shared.{TakesTurn}
use Rattle.inc_handle.specs.UnderWay.{ClaimSteps, MayRelease, Releases}
use Rattle.inc_handle.proofs.fills.Turns.{added_on, floor, is_reply, mid, more, own_stands, runs_on, stands_on}

-- a reply for which no device is called
pub quiet_reply : (told : Bool) (faults : ℕ) (wanted given : Reply) → IsPlainReply wanted → may_fail wanted ≡ false → Fits told faults wanted given → given ≡ wanted
quiet_reply told faults wanted given plain quiet h = elim (came told faults wanted given plain h) [
  | inl e ↦ e
  | inr fault ↦ absurd (let may = (subst (Fits told faults wanted) fault.1 h).0 in cc)
]

claim_which : (told : Bool) (faults : ℕ) (failed : Option ℕ) (given : Reply) → Fits told faults (unless_failed failed reply.Claimed) given → (given ≡ reply.Claimed) ⊎ ((at : ℕ) × (given ≡ reply.Failed at))
claim_which told faults None given h = inl (quiet_reply told faults reply.Claimed given tt refl h)
claim_which told faults (Some at) given h = inr (at, quiet_reply told faults (reply.Failed at) given tt refl h)

module _ (file : CellFooting) (v w : View CellFooting) (window : Window) (places : ℕ) (number_is : v.number ≡ window.who) (footing_is : v.footing ≡ Some file) (answer : Answer) (t : TakesTurn v (cell.Plain (Claim window places)) answer w) where
  abbrev event : CellEvent
  event = cell.Plain (Claim window places)

  abbrev Does : Reply → Type 0
  Does given = ReplyDoes t.before v.number (Claim window places) [] given t.after

  abbrev Steps : Result Reply FillStop → Type 0
  Steps result = ClaimSteps file v window places result w

  claimed_now : Does reply.Claimed → Steps (going_on reply.Claimed)
  claimed_now does =
      let rows : (state_now t.after).claimed ≡ claim window places (state_now t.before).claimed = ap (λ (s : FileState). s.claimed) does.step.after in
      let own = claim_own window places (state_now t.before).claimed (more file v v w window [] [] (nothing_adds v) refl tt number_is footing_is event answer t).claims in
      let count : places_left window (state_now t.after).claimed ≡ places_left window (state_now t.before).claimed + places = ap (places_left window) rows ∙ own in
      runs_on file v v w window [] [] (nothing_adds v) refl tt number_is footing_is event answer t reply.Claimed does refl places (λ i. None) refl
      (own_stands file v v w window [] [] (nothing_adds v) refl tt number_is footing_is event answer t reply.Claimed does refl places (λ i. None) tt (omega arith) (λ i. tt))

  failed_now : (at : ℕ) → Does (reply.Failed at) → Steps (going_on (reply.Failed at))
  failed_now at does = record {
    adds = subst (λ (who : ℕ). AddsOwn v w (record { who = who; event = Claim window places; reply = reply.Failed at } ∷ [])) number_is
        (added_on file v v w window [] [] (nothing_adds v) refl tt number_is footing_is event answer t (reply.Failed at) does refl);
    begins = (stands_on file v v w window [] [] (nothing_adds v) refl tt number_is footing_is event answer t (reply.Failed at) does refl 0 (λ i. None)
        (own_stands file v v w window [] [] (nothing_adds v) refl tt number_is footing_is event answer t (reply.Failed at) does refl 0 (λ i. None) tt (omega arith) (λ i. tt))).begins;
    legal = (stands_on file v v w window [] [] (nothing_adds v) refl tt number_is footing_is event answer t (reply.Failed at) does refl 0 (λ i. None)
        (own_stands file v v w window [] [] (nothing_adds v) refl tt number_is footing_is event answer t (reply.Failed at) does refl 0 (λ i. None) tt (omega arith) (λ i. tt))).legal;
  }

  -- a turn in which nothing changed
  added_none : t.after ≡ t.before → AddsOwn v w []
  added_none same =
      let none : added t.turn ≡ [] = append_cancel_left t.before.history (added t.turn) [] (sym t.told_after ∙ ap (λ (seen : Seen). seen.history) same ∙ sym (append-nil t.before.history)) in
      subst (λ (es : List Entry). AddsOwn v w es) none (turn_adds (λ (cell : Seen). cell.history) footing_of CellMoves v w event answer t)

  heard_is : t.after ≡ t.before → t.before.history ≡ heard w
  heard_is same = sym (ap (λ (seen : Seen). seen.history) same) ∙ t.all_heard

  opening_is : t.before.opening ≡ file.opening
  opening_is = ap (λ (f : CellFooting). f.opening) (floor file v v w window [] [] (nothing_adds v) refl tt number_is footing_is event answer t)

  abbrev IsFullNow : ℕ → ℕ → FileState → List Entry → Type 0
  IsFullNow entries claimed opening history =
      (HasRoom (length history) (state_after 0 opening history) (Claim window places) → ⊥) × (entries ≡ length history) × (claimed ≡ all_places (state_after 0 opening history).claimed)

  claim_by : (r : CellReply) → CellReplies t.before v.number (Claim window places) [] r t.after → Steps (goes_on r)
  claim_by (Done given) does = elim (claim_which (tells t.before.states) (state_now t.before).faults (state_now t.before).failed given does.step.allowed.fits) [
    | inl e ↦ subst (λ (g : Reply). Steps (going_on g)) (sym e) (claimed_now (subst Does e does))
    | inr failed ↦ subst (λ (g : Reply). Steps (going_on g)) (sym failed.1) (failed_now failed.0 (subst Does failed.1 does))
  ]
  claim_by (HistoryFull entries claimed) full =
      let now : IsFullNow entries claimed file.opening (heard w) =
      subst (λ (history : List Entry). IsFullNow entries claimed file.opening history) (heard_is full.same)
      (subst (λ (opening : FileState). IsFullNow entries claimed opening t.before.history) opening_is (full.no_room, full.entries_are, full.claimed_are)) in
      record { adds = added_none full.same; no_room = now.0; entries_are = now.1; claimed_are = now.2 }
  claim_by OutOfMemory wants = added_none wants.same

  pub claim_steps : Steps (goes_on answer.reply)
  claim_steps = claim_by answer.reply t.stepped.steps.reply_is

-- ---- the release

module _ (file : CellFooting) (v w : View CellFooting) (window : Window) (m : MayRelease file window v) (answer : Answer) (t : TakesTurn v (cell.Plain (Release window)) answer w) where
  abbrev then : CellEvent
  then = cell.Plain (Release window)

  stands : (given : Reply) × (answer.reply ≡ Done given) × ReplyDoes t.before v.number (Release window) [] given t.after
  stands =
      let enough = (mid file v v w window [] [] (nothing_adds v) refl tt m.number_is m.footing_is then answer t m.left (λ i. None) m.stands).enough in
      let some = m.some in
      is_reply file v v w window [] [] (nothing_adds v) refl tt m.number_is m.footing_is then answer t refl (omega arith)

  released : (given : Reply) → ReplyDoes t.before v.number (Release window) [] given t.after → given ≡ reply.Released → Releases file window v w
  released given did e =
      let does : ReplyDoes t.before v.number (Release window) [] reply.Released t.after = subst (λ (g : Reply). ReplyDoes t.before v.number (Release window) [] g t.after) e did in
      record {
        adds = subst (λ (who : ℕ). AddsOwn v w (record { who = who; event = Release window; reply = reply.Released } ∷ [])) m.number_is
            (added_on file v v w window [] [] (nothing_adds v) refl tt m.number_is m.footing_is then answer t reply.Released does refl);
        begins = (stands_on file v v w window [] [] (nothing_adds v) refl tt m.number_is m.footing_is then answer t reply.Released does refl 0 (λ i. None)
            (own_stands file v v w window [] [] (nothing_adds v) refl tt m.number_is m.footing_is then answer t reply.Released does refl 0 (λ i. None) tt (omega arith) (λ i. tt))).begins;
        legal = (stands_on file v v w window [] [] (nothing_adds v) refl tt m.number_is m.footing_is then answer t reply.Released does refl 0 (λ i. None)
            (own_stands file v v w window [] [] (nothing_adds v) refl tt m.number_is m.footing_is then answer t reply.Released does refl 0 (λ i. None) tt (omega arith) (λ i. tt))).legal;
      }

  pub release_steps : Releases file window v w
  release_steps = released stands.0 stands.2 (quiet_reply (tells t.before.states) (state_now t.before).faults reply.Released stands.0 tt refl stands.2.step.allowed.fits)
