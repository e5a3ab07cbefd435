-- Where a group stands after its claim and after its release.
use Rattle.std.proofs.Common.{◌≡◌, inl, inr, ℕ, ◌+◌, ◌<◌, Bool, true, false, not, cond, List, [], ◌∷◌, ◌++◌, length, Option, Some, None, refl, sym, ap, subst, ◌∙◌, arith, length-append}
use Rattle.inc_model.specs.relation.Changes.{change}
use Rattle.inc_model.specs.relation.Facts.{FileFacts}
use Rattle.inc_model.specs.relation.State.{claim, unclaim, IsSameFile, all_places, flight_row, has, is_in}
use Rattle.inc_model.specs.relation.Step.{Fits, may_fail}
use Rattle.inc_model.specs.relation.Table.{unless_failed}
use Rattle.inc_model.specs.declared.words.event.Event.{Event}
use Rattle.inc_model.specs.declared.words.event.Event.TheVariants.{Claim, Release}
use Rattle.inc_model.specs.declared.words.event.Window.{Window}
use Rattle.inc_model.specs.declared.words.file_state.FileState.{FileState}
use Rattle.inc_model.specs.declared.words.file_state.Stage.{Stage}
use Rattle.inc_model.specs.declared.words.reply.Reply.{Reply}
use Rattle.inc_model.specs.declared.words.reply.Reply.TheVariants as reply
use Rattle.inc_cell.specs.events.Answers.{CellReplies}
use Rattle.inc_cell.specs.seen.Seen.{Seen, state_now, tells}
use Rattle.inc_cell.specs.events.Steps.{ReplyDoes}
use Rattle.inc_cell.specs.declared.words.answer.CellReply.{CellReply}
use Rattle.inc_cell.specs.declared.words.answer.CellReply.TheVariants.{Done, HistoryFull, OutOfMemory}
use Rattle.inc_filling.specs.Stands.{ClaimsTo, IsAtRest, IsReleased, HasLeft, HasTaken, StandsAt, events_of}
use Rattle.inc_filling.specs.Stops.{going_on, goes_on}
use Rattle.inc_filling.proofs.lemmas.EventLemmas.{IsPlainReply, no_handed, no_put, entry_of, is_done, takes_on}
use Rattle.inc_filling.proofs.lemmas.StageLemmas.{land_flies, same_window}

-- a reply of the table for which no disk is called
came_plain : (told : Bool) (faults : ℕ) (wanted given : Reply) → IsPlainReply wanted → may_fail wanted ≡ false → Fits told faults wanted given → given ≡ wanted
came_plain told faults wanted (reply.Fault count) plain quiet h = absurd (let e = h.0 in cc)
came_plain told faults wanted (reply.Put place digest) plain quiet h = absurd (no_put digest wanted plain h)
came_plain told faults wanted (reply.Handed digest) plain quiet h = absurd (no_handed told digest wanted plain h)
came_plain told faults wanted given plain quiet h = sym h

-- ---- the claim

pub nothing_taken : (old : Seen) → FileFacts old.opening (state_now old) → HasTaken old [] old
nothing_taken old facts = record {
  runs = inl refl;
  taken = right (events_of old.history);
  opened = refl;
  opening = refl;
  facts = facts;
  same = (refl, refl, refl, refl, refl, refl);
  stays = λ i digest there. there;
}
  where
    right : (xs : List Event) → xs ≡ xs ++ []
    right [] = refl
    right (x ∷ xs) = ap (λ (rest : List Event). x ∷ rest) (right xs)

module _ (old new : Seen) (window : Window) (places : ℕ) (idle : IsAtRest old) where
  abbrev event : Event
  event = Claim window places

  abbrev claimed_by : Option ℕ → Reply
  claimed_by failed = unless_failed failed reply.Claimed

  claimed_now : (state_now old).failed ≡ None → ReplyDoes old window.who event [] reply.Claimed new → StandsAt old window places (λ i. None) (event ∷ []) new × ((state_now new).map ≡ (state_now old).map) × ((state_now old).failed ≡ None)
  claimed_now sound r =
      let after : state_now new ≡ change (length old.history) (state_now old) window.who event reply.Claimed = r.step.after in
      let room = r.step.allowed.room in
      let none : all_places (state_now old).claimed ≡ 0 = ap all_places idle.none_claimed in
      let more : length new.history ≡ length old.history + 1 = ap length r.history ∙ length-append old.history (entry_of window.who event reply.Claimed ∷ []) in (
        record {
          taken = takes_on old old new [] window.who event [] reply.Claimed (nothing_taken old idle.facts) r refl (subst (λ (s : FileState). IsSameFile (state_now old) s) (sym after) (refl, refl, refl, refl, refl, refl));
          left_is = record {
            places = places;
            claimed = ap (λ (s : FileState). s.claimed) after ∙ ap (claim window places) idle.none_claimed;
            enough = omega arith;
            within = omega arith;
          };
          flies = λ i. ap (λ (s : FileState). flight_row i s.flight) after ∙ idle.none_flies i;
          kept = λ i inside. inl (ap (λ (s : FileState). has i s.acknowledged) after ∙ idle.acknowledged i (sym (ap (λ (s : FileState). is_in i s.map) after) ∙ inside));
          sound = ap (λ (s : FileState). s.failed) after ∙ sound;
          count = r.cause;
        },
        ap (λ (s : FileState). s.map) after,
        sound,
      )

  failed_now : (at : ℕ) → (state_now old).failed ≡ Some at → ReplyDoes old window.who event [] (reply.Failed at) new → ((state_now old).failed ≡ Some at) × HasTaken old (event ∷ []) new × (new.count ≡ old.count)
  failed_now at before r =
      let after : state_now new ≡ change (length old.history) (state_now old) window.who event (reply.Failed at) = r.step.after in
      (before, takes_on old old new [] window.who event [] (reply.Failed at) (nothing_taken old idle.facts) r refl (subst (λ (s : FileState). IsSameFile (state_now old) s) (sym after) (refl, refl, refl, refl, refl, refl)), r.cause)

  claim_by : (failed : Option ℕ) → (state_now old).failed ≡ failed → (given : Reply) → ReplyDoes old window.who event [] given new → ClaimsTo old window places (going_on given) new
  claim_by None e given r = subst (λ (g : Reply). ClaimsTo old window places (going_on g) new) (sym is) (claimed_now e (subst (λ (g : Reply). ReplyDoes old window.who event [] g new) is r))
    where
      is : given ≡ reply.Claimed
      is = came_plain (tells old.states) (state_now old).faults reply.Claimed given tt refl (subst (λ (w : Reply). Fits (tells old.states) (state_now old).faults w given) (ap claimed_by e) r.step.allowed.fits)
  claim_by (Some at) e given r = subst (λ (g : Reply). ClaimsTo old window places (going_on g) new) (sym is) (failed_now at e (subst (λ (g : Reply). ReplyDoes old window.who event [] g new) is r))
    where
      is : given ≡ reply.Failed at
      is = came_plain (tells old.states) (state_now old).faults (reply.Failed at) given tt refl (subst (λ (w : Reply). Fits (tells old.states) (state_now old).faults w given) (ap claimed_by e) r.step.allowed.fits)

  pub claim_comes : (answer : CellReply) → CellReplies old window.who event [] answer new → ClaimsTo old window places (goes_on answer) new
  claim_comes (Done given) r = claim_by (state_now old).failed refl given r
  claim_comes (HistoryFull entries claimed) r = r
  claim_comes OutOfMemory r = r.same

-- ---- the release

unclaimed : (window : Window) (places : ℕ) → unclaim window ((window, places) ∷ []) ≡ []
unclaimed window places = ap (λ b. cond (not b) ((window, places) ∷ []) []) (same_window window)

module _ (start old new : Seen) (window : Window) (left : ℕ) (events : List Event) (taken : HasTaken start events old) (left_is : HasLeft window left old) (some : 0 < left) where
  abbrev last : Event
  last = Release window

  abbrev released : FileState
  released = change (length old.history) (state_now old) window.who last reply.Released

  given_is : (given : Reply) → ReplyDoes old window.who last [] given new → given ≡ reply.Released
  given_is given r = came_plain (tells old.states) (state_now old).faults reply.Released given tt refl r.step.allowed.fits

  pub release_done : (answer : CellReply) → CellReplies old window.who last [] answer new → ReplyDoes old window.who last [] reply.Released new
  release_done answer r =
      let done = is_done old new window.who last [] answer window left left_is some refl r in
      subst (λ (g : Reply). ReplyDoes old window.who last [] g new) (given_is done.0 done.2) done.2

  pub release_taken : ReplyDoes old window.who last [] reply.Released new → HasTaken start (events ++ last ∷ []) new
  release_taken r = takes_on start old new events window.who last [] reply.Released taken r refl (subst (λ (s : FileState). IsSameFile (state_now old) s) (sym r.step.after) (refl, refl, refl, refl, refl, refl))

pub release_ends : (start old new : Seen) (window : Window) (left : ℕ) (stages : ℕ → Option Stage) (events : List Event) → StandsAt start window left stages events old → 0 < left → ((i : ℕ) → stages i ≡ None)
    → (answer : CellReply) → CellReplies old window.who (Release window) [] answer new → IsReleased start (events ++ Release window ∷ []) new
release_ends start old new window left stages events h some none answer replies =
    let r = release_done start old new window left events h.taken h.left_is some answer replies in
    let after : state_now new ≡ released start old new window left events h.taken h.left_is some = r.step.after in
    let taken = release_taken start old new window left events h.taken h.left_is some r in
    record {
      taken = taken;
      idle = record {
        facts = taken.facts;
        none_flies = λ i. ap (λ (s : FileState). flight_row i s.flight) after ∙ land_flies window (state_now old).flight stages h.taken.facts.flying.once h.flies i;
        none_claimed = ap (λ (s : FileState). s.claimed) after ∙ ap (unclaim window) h.left_is.claimed ∙ unclaimed window h.left_is.places;
        acknowledged = λ i inside. ap (λ (s : FileState). has i s.acknowledged) after ∙ still i (sym (ap (λ (s : FileState). is_in i s.map) after) ∙ inside);
      };
      sound = ap (λ (s : FileState). s.failed) after ∙ h.sound;
      count = r.cause ∙ h.count;
    }
  where
    still : (i : ℕ) → is_in i (state_now old).map ≡ true → has i (state_now old).acknowledged ≡ true
    still i inside = elim (h.kept i inside) [
      | inl acked ↦ acked
      | inr gated ↦ absurd (let n = none i in cc)
    ]
