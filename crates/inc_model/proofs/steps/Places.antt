-- The claimed places of one window, step by step.
use Rattle.std.proofs.Common.{◌≡◌, ℕ, ◌+◌, ◌-◌, ◌<◌, ◌≤◌, Bool, false, cond, eqb, Option, Some, None, refl, sym, ap, subst, ◌∙◌, arith}
use Rattle.std.proofs.lemmas.Bool.{ne_eqb, false_from_ne_true}
use Rattle.inc_model.specs.declared.words.limits.TheConstants.{MOST_ENTRIES}
use Rattle.inc_model.specs.declared.words.event.Event.{Event}
use Rattle.inc_model.specs.declared.words.event.Event.TheVariants.{Ask, Poll, Cancel, Claim, PutData, PutPlace, Settle, Gate, Release, TakePending, SetTimes, Ranges, Count, Leave}
use Rattle.inc_model.specs.declared.words.event.Window.{Window}
use Rattle.inc_model.specs.declared.words.file_state.FileState.{FileState}
use Rattle.inc_model.specs.declared.words.reply.Reply.{Reply}
use Rattle.inc_model.specs.declared.words.reply.Reply.TheVariants.{Claimed}
use Rattle.inc_model.specs.relation.State.{Claims, is_same, places_left, all_places, WindowsRise}
use Rattle.inc_model.specs.relation.Changes.{window_of, claim_change, claims_after}
use Rattle.inc_model.specs.relation.Step.{HasRoom, needs, needs_beside, Step}
use Rattle.inc_model.specs.laws.HistoryLaws.{IsClaim, places_then}
use Rattle.inc_model.proofs.lists.Claims.{same_is, claim_other, spend_other, unclaim_other, claim_own, spend_own, unclaim_own}

-- ---- room

needs_nothing : (claimed : Claims) (found : Option Window) (window : Window) → found ≡ Some window → 0 < places_left window claimed → needs_beside claimed found ≡ 0
needs_nothing claimed found window e some =
    let ne : eqb (places_left window claimed) 0 ≡ false = ne_eqb (places_left window claimed) 0 (λ z. absurd (omega arith)) in
    ap (λ (o : Option Window). needs_beside claimed o) e ∙ ap (λ (b : Bool). cond b 1 0) ne

needs_of : (claimed : Claims) (event : Event) → (IsClaim event → ⊥) → needs claimed event ≡ needs_beside claimed (window_of event)
needs_of claimed (Claim window places) other = absurd (other tt)
needs_of claimed (PutData window index digest) other = refl
needs_of claimed (PutPlace window index) other = refl
needs_of claimed (Settle window) other = refl
needs_of claimed (Gate window index) other = refl
needs_of claimed (Release window) other = refl
needs_of claimed (Ask block uid moment) other = refl
needs_of claimed (Poll serial moment) other = refl
needs_of claimed (Cancel serial) other = refl
needs_of claimed (TakePending after most) other = refl
needs_of claimed (SetTimes uid times) other = refl
needs_of claimed (Ranges start end room) other = refl
needs_of claimed Count other = refl
needs_of claimed Leave other = refl

pub claimed_room : (at : ℕ) (s : FileState) (event : Event) (window : Window) → at + all_places s.claimed ≤ MOST_ENTRIES → window_of event ≡ Some window → (IsClaim event → ⊥) → 0 < places_left window s.claimed → HasRoom at s event
claimed_room at s event window within e other some =
    let none = needs_of s.claimed event other ∙ needs_nothing s.claimed (window_of event) window e some in
    omega arith

-- ---- the window's own places

the_window : (a b : Window) → Some a ≡ Some b → a ≡ b
the_window a b e = ap (λ (o : Option Window). elim o as (λ _. Window) [ Some w ↦ w | None ↦ a ]) e

claim_counted : (claimed : Claims) (window : Window) (places : ℕ) (reply : Reply) → WindowsRise claimed → places_left window (claim_change claimed window places reply) ≡ places_then (places_left window claimed) (Claim window places) reply
claim_counted claimed window places Claimed rise = claim_own window places claimed rise
claim_counted claimed window places reply rise = refl

counted_self : (claimed : Claims) (event : Event) (reply : Reply) (window : Window) → WindowsRise claimed → window_of event ≡ Some window → places_left window (claims_after claimed event reply) ≡ places_then (places_left window claimed) event reply
counted_self claimed (Claim own places) reply window rise e = subst (λ (w : Window). places_left w (claim_change claimed own places reply) ≡ places_then (places_left w claimed) (Claim own places) reply) (the_window own window e) (claim_counted claimed own places reply rise)
counted_self claimed (PutData own index digest) reply window rise e = subst (λ (w : Window). places_left w (claims_after claimed (PutData own index digest) reply) ≡ places_left w claimed - 1) (the_window own window e) (spend_own own claimed)
counted_self claimed (PutPlace own index) reply window rise e = subst (λ (w : Window). places_left w (claims_after claimed (PutPlace own index) reply) ≡ places_left w claimed - 1) (the_window own window e) (spend_own own claimed)
counted_self claimed (Settle own) reply window rise e = subst (λ (w : Window). places_left w (claims_after claimed (Settle own) reply) ≡ places_left w claimed - 1) (the_window own window e) (spend_own own claimed)
counted_self claimed (Gate own index) reply window rise e = subst (λ (w : Window). places_left w (claims_after claimed (Gate own index) reply) ≡ places_left w claimed - 1) (the_window own window e) (spend_own own claimed)
counted_self claimed (Release own) reply window rise e = subst (λ (w : Window). places_left w (claims_after claimed (Release own) reply) ≡ 0) (the_window own window e) (unclaim_own own claimed)
counted_self claimed (Ask block uid moment) reply window rise e = absurd (cc)
counted_self claimed (Poll serial moment) reply window rise e = absurd (cc)
counted_self claimed (Cancel serial) reply window rise e = absurd (cc)
counted_self claimed (TakePending after most) reply window rise e = absurd (cc)
counted_self claimed (SetTimes uid times) reply window rise e = absurd (cc)
counted_self claimed (Ranges start end room) reply window rise e = absurd (cc)
counted_self claimed Count reply window rise e = absurd (cc)
counted_self claimed Leave reply window rise e = absurd (cc)

pub claims_counted : (old new : FileState) (told : Bool) (at who : ℕ) (event : Event) (reply : Reply) (window : Window) → WindowsRise old.claimed → Step at told old who event reply new → window_of event ≡ Some window
    → places_left window new.claimed ≡ places_then (places_left window old.claimed) event reply
claims_counted old new told at who event reply window rise step e = ap (λ (s : FileState). places_left window s.claimed) step.after ∙ counted_self old.claimed event reply window rise e

-- ---- and those of others

apart_from : (a b : Window) → (Some b ≡ Some a → ⊥) → is_same a b ≡ false
apart_from a b other = false_from_ne_true (is_same a b) (λ t. other (ap (λ (w : Window). Some w) (sym (same_is a b t))))

claim_others : (claimed : Claims) (own : Window) (places : ℕ) (reply : Reply) (window : Window) → is_same window own ≡ false → places_left window (claim_change claimed own places reply) ≡ places_left window claimed
claim_others claimed own places Claimed window ne = claim_other window own places claimed ne
claim_others claimed own places reply window ne = refl

others_counted : (claimed : Claims) (event : Event) (reply : Reply) (window : Window) → (window_of event ≡ Some window → ⊥) → places_left window (claims_after claimed event reply) ≡ places_left window claimed
others_counted claimed (Claim own places) reply window other = claim_others claimed own places reply window (apart_from window own other)
others_counted claimed (PutData own index digest) reply window other = spend_other window own claimed (apart_from window own other)
others_counted claimed (PutPlace own index) reply window other = spend_other window own claimed (apart_from window own other)
others_counted claimed (Settle own) reply window other = spend_other window own claimed (apart_from window own other)
others_counted claimed (Gate own index) reply window other = spend_other window own claimed (apart_from window own other)
others_counted claimed (Release own) reply window other = unclaim_other window own claimed (apart_from window own other)
others_counted claimed event reply window other = refl

pub claims_of_others : (old new : FileState) (told : Bool) (at who : ℕ) (event : Event) (reply : Reply) (window : Window) → Step at told old who event reply new → (window_of event ≡ Some window → ⊥) → places_left window new.claimed ≡ places_left window old.claimed
claims_of_others old new told at who event reply window step other = ap (λ (s : FileState). places_left window s.claimed) step.after ∙ others_counted old.claimed event reply window other
