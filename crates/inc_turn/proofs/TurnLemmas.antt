-- A turn from its ticket to its end, and what several turns of one seat add.
use Rattle.std.proofs.Common.{◌≡◌, ℕ, ◌+◌, ◌%◌, ◌^◌, Bool, false, List, [], ◌∷◌, ◌++◌, Option, Some, None, refl, sym, ap, subst, ◌∙◌, eq-eqb, ne_eqb}
use Rattle.std.proofs.lemmas.List.{append-nil, append_assoc}
use mathlib.Core.Option.{none}
use Rattle.atomic_table.specs.Table.{Me, Step, step, Allows}
use Rattle.inc_model.specs.declared.words.reply.Entry.{Entry}
use Rattle.inc_model.specs.histories.Machines.{added, IsOf, Grows}
use Rattle.inc_turn.specs.Lists.{entries_of_turns, IsOther, AreOthers}
use Rattle.inc_turn.specs.Views.{heard, holding, entering, IsIdle, seeing}
use Rattle.inc_turn.specs.Rules.{KeepsTurns, EntersTurn, LeavesTurn, GivesBack}
use Rattle.inc_turn.specs.Turns.{HasTurn, own_entry, own_of, AddsOwn}
use Rattle.inc_turn.specs.SeatLaws.{KeepsSeat}
use Rattle.inc_turn.specs.declared.view.View.{View}
use Rattle.inc_turn.proofs.ListLemmas.{entries_of_turns-append, entries_of_turns-one}
use Rattle.inc_turn.proofs.Moves.{value_or, gives_at}

abbrev carrying : {M : Type 0} → M → List (ℕ × M)
carrying machine = (0, machine) ∷ []

same_machine : {M : Type 0} (first second : M) → carrying first ≡ carrying second → first ≡ second
unfolding value_or
same_machine {M} first second e = ap (λ (xs : List (ℕ × M)). value_or xs first) e

module _ {M F : Type 0} (history : M → List Entry) (footing : M → F) where
  -- a seat in turn whose machine went from one state to another
  pub record IsStepped (v : View F) (ticket : ℕ) (before after : M) (me : Me M (View F)) : Type 0 where
    pub between : List (Option Entry)
    pub others : AreOthers v.number between
    pub me_is : me ≡ (entering (holding v ticket) between, (0, after) ∷ [])
    pub told : history before ≡ heard v ++ entries_of_turns between
    pub floor : Some (footing before) ≡ v.footing

  pub stepped_in_turn : (v : View F) (ticket : ℕ) (before after : M) (drawn entered stepped : Me M (View F)) → drawn ≡ (holding v ticket, []) → EntersTurn history footing drawn.0 entered
      → entered.1 ≡ (0, before) ∷ [] → stepped ≡ (entered.0, (0, after) ∷ []) → IsStepped v ticket before after stepped
  stepped_in_turn v ticket before after drawn entered stepped drawn-is enters was is =
      let e : EntersTurn history footing (holding v ticket) entered = subst (λ (me : Me M (View F)). EntersTurn history footing me.0 entered) drawn-is enters in
      let machine : before ≡ e.machine = same_machine before e.machine (sym was ∙ ap (λ (me : Me M (View F)). me.1) e.after) in
      record {
        between = e.between;
        others = e.others;
        me_is = is ∙ ap (λ (me : Me M (View F)). (me.0, (0, after) ∷ [])) e.after;
        told = ap history machine ∙ e.told;
        floor = ap (λ (m : M). Some (footing m)) machine ∙ e.floor;
      }

  heard_between : (v : View F) (ticket : ℕ) (between : List (Option Entry)) → heard v ++ entries_of_turns between ≡ heard (entering (holding v ticket) between)
  heard_between v ticket between = append_assoc v.base (entries_of_turns v.seen) (entries_of_turns between) ∙ ap (λ (es : List Entry). v.base ++ es) (sym (entries_of_turns-append v.seen between))

  pub told_stepped : (v : View F) (ticket : ℕ) (before after : M) (me : Me M (View F)) (s : IsStepped v ticket before after me) (turn : Option Entry) → history after ≡ history before ++ added turn
      → history after ≡ heard (entering (holding v ticket) s.between) ++ added turn
  told_stepped v ticket before after me s turn grown = grown ∙ ap (λ (es : List Entry). es ++ added turn) (s.told ∙ heard_between v ticket s.between)

  -- a view between two turns
  idle_view : (v : View F) (seen : List (Option Entry)) → IsIdle v → record v { ticket = None; in_turn = false; seen = seen } ≡ record v { seen = seen }
  idle_view v seen idle =
      let of : Option ℕ → Bool → View F = λ (ticket : Option ℕ) (in_turn : Bool). record v { ticket = ticket; in_turn = in_turn; seen = seen } in
      ap (λ (ticket : Option ℕ). of ticket false) (sym idle.no_ticket) ∙ ap (λ (in_turn : Bool). of v.ticket in_turn) (sym idle.no_turn)

  pub turn_done : {E A : Type 0} (steps : M → ℕ → E → A → M → Type 0) (v : View F) (ticket : ℕ) (before after : M) (me done : Me M (View F)) (event : E) (answer : A)
      → IsIdle v → IsStepped v ticket before after me → steps before v.number event answer after → footing after ≡ footing before → LeavesTurn history me.0 after done → HasTurn history footing steps v event answer done.0
  turn_done steps v ticket before after me done event answer idle s did stays leaves =
      let mid = entering (holding v ticket) s.between in
      let l : LeavesTurn history mid after done = subst (λ (x : Me M (View F)). LeavesTurn history x.0 after done) s.me_is leaves in
      let grouped : (v.seen ++ s.between) ++ l.turn ∷ [] ≡ v.seen ++ (s.between ++ l.turn ∷ []) = append_assoc v.seen s.between (l.turn ∷ []) in
      let view : done.0 ≡ seeing v (s.between ++ l.turn ∷ []) =
      ap (λ (x : Me M (View F)). x.0) l.after
      ∙ idle_view v ((v.seen ++ s.between) ++ l.turn ∷ []) idle
      ∙ ap (λ (seen : List (Option Entry)). record v { seen = seen }) grouped in
      let told : history after ≡ history before ++ added l.turn = l.told ∙ ap (λ (es : List Entry). es ++ added l.turn) (sym (s.told ∙ heard_between v ticket s.between)) in
      let heard_all : heard (seeing v (s.between ++ l.turn ∷ [])) ≡ heard mid ++ added l.turn =
      ap (λ (turns : List (Option Entry)). v.base ++ entries_of_turns turns) (sym grouped)
      ∙ ap (λ (es : List Entry). v.base ++ es) (entries_of_turns-append (v.seen ++ s.between) (l.turn ∷ []))
      ∙ ap (λ (es : List Entry). v.base ++ (entries_of_turns (v.seen ++ s.between) ++ es)) (entries_of_turns-one l.turn)
      ∙ sym (append_assoc v.base (entries_of_turns (v.seen ++ s.between)) (added l.turn)) in
      record {
        before = before;
        after = after;
        between = s.between;
        turn = l.turn;
        stepped = did;
        others = s.others;
        own = l.own;
        view_is = view;
        told_before = s.told;
        told_after = told;
        all_heard = l.told ∙ sym heard_all ∙ ap heard (sym view);
        floor_before = s.floor;
        floor_after = ap (λ (f : F). Some f) stays ∙ s.floor;
      }

  -- what a seat that has the machine does with it
  abbrev pub Steps : {E A : Type 0} → (M → ℕ → E → A → M → Type 0) → ℕ → E → A → Me M (View F) → Me M (View F) → Type 0
  Steps steps number event answer entered stepped = (before : M) × (after : M) × (entered.1 ≡ (0, before) ∷ []) × (stepped ≡ (entered.0, (0, after) ∷ [])) × steps before number event answer after

  module _ {E A : Type 0} (steps : M → ℕ → E → A → M → Type 0) (grows : (old : M) (who : ℕ) (event : E) (answer : A) (new : M) → steps old who event answer new → Grows who (history old) (history new))
      (stays : (old : M) (who : ℕ) (event : E) (answer : A) (new : M) → steps old who event answer new → footing new ≡ footing old) where
    pub may_give_back : (slots id ticket number : ℕ) (v : View F) (event : E) (answer : A) (drawn entered stepped : Me M (View F)) → IsIdle v → v.number ≡ number → drawn ≡ (holding v ticket, [])
        → EntersTurn history footing drawn.0 entered → Steps steps number event answer entered stepped → Allows (KeepsTurns history footing) slots id stepped 0 (λ n. (n + 1) % 2 ^ 64) (GivesBack history (step slots 0 1 0 none) stepped)
    may_give_back slots id ticket number v event answer drawn entered stepped idle same drawn-is enters did =
        let s = stepped_in_turn v ticket did.0 did.1 drawn entered stepped drawn-is enters did.2 did.3 in
        let grown = grows did.0 number event answer did.1 did.4 in
        let own : IsOf v.number grown.entry = subst (λ (k : ℕ). IsOf k grown.entry) (sym same) grown.own in
        let floor : Some (footing did.1) ≡ v.footing = ap (λ (f : F). Some f) (stays did.0 number event answer did.1 did.4) ∙ s.floor in
        gives_at history footing slots id stepped (entering (holding v ticket) s.between) did.1 grown.entry s.me_is idle.unspent refl own (told_stepped v ticket did.0 did.1 stepped s grown.entry grown.joined) floor

    pub turn_taken : (st : Step M) (found ticket number : ℕ) (v : View F) (event : E) (answer : A) (drawn entered stepped done : Me M (View F)) → IsIdle v → v.number ≡ number → drawn ≡ (holding v ticket, [])
        → EntersTurn history footing drawn.0 entered → Steps steps number event answer entered stepped → GivesBack history st stepped found done → HasTurn history footing steps v event answer done.0 × (done.1 ≡ [])
    turn_taken st found ticket number v event answer drawn entered stepped done idle same drawn-is enters did gives =
        let s = stepped_in_turn v ticket did.0 did.1 drawn entered stepped drawn-is enters did.2 did.3 in
        let leaves = gives did.1 (ap (λ (me : Me M (View F)). me.1) did.3) in
        let own : steps did.0 v.number event answer did.1 = subst (λ (k : ℕ). steps did.0 k event answer did.1) (sym same) did.4 in (
          turn_done steps v ticket did.0 did.1 stepped done event answer idle s own (stays did.0 number event answer did.1 did.4) leaves,
          ap (λ (me : Me M (View F)). me.1) leaves.after,
        )

-- ---- what several turns add

pub own_of-append : (number : ℕ) (first second : List (Option Entry)) → own_of number (first ++ second) ≡ own_of number first ++ own_of number second
own_of-append number [] second = refl
own_of-append number (turn ∷ first) second =
    ap (λ (es : List Entry). own_entry number turn ++ es) (own_of-append number first second) ∙ sym (append_assoc (own_entry number turn) (own_of number first) (own_of number second))

other_entry : (number : ℕ) (turn : Option Entry) → IsOther number turn → own_entry number turn ≡ []
other_entry number None other = refl
other_entry number (Some entry) other = rw (ne_eqb entry.who number other) refl

pub own_of-others : (number : ℕ) (turns : List (Option Entry)) → AreOthers number turns → own_of number turns ≡ []
own_of-others number [] others = refl
own_of-others number (turn ∷ turns) others = rw (other_entry number turn others.0) (own_of-others number turns others.1)

own_entry-own : (number : ℕ) (turn : Option Entry) → IsOf number turn → own_entry number turn ≡ added turn
own_entry-own number None own = refl
own_entry-own number (Some entry) own = rw (eq-eqb entry.who number own) refl

pub turn_adds : {M F E A : Type 0} (history : M → List Entry) (footing : M → F) (steps : M → ℕ → E → A → M → Type 0) (v w : View F) (event : E) (answer : A) (t : HasTurn history footing steps v event answer w) → AddsOwn v w (added t.turn)
turn_adds history footing steps v w event answer t = record {
  since = t.between ++ t.turn ∷ [];
  view_is = t.view_is;
  own =
      own_of-append v.number t.between (t.turn ∷ [])
      ∙ ap (λ (es : List Entry). es ++ own_of v.number (t.turn ∷ [])) (own_of-others v.number t.between t.others)
      ∙ append-nil (own_entry v.number t.turn)
      ∙ own_entry-own v.number t.turn t.own;
}

pub adds_both : {F : Type 0} (v w x : View F) (first second : List Entry) → AddsOwn v w first → AddsOwn w x second → AddsOwn v x (first ++ second)
adds_both {F} v w x first second a b =
    let number : w.number ≡ v.number = ap (λ (y : View F). y.number) a.view_is in
    let seen : w.seen ≡ v.seen ++ a.since = ap (λ (y : View F). y.seen) a.view_is in
    record {
      since = a.since ++ b.since;
      view_is = b.view_is ∙ ap (λ (y : View F). seeing y b.since) a.view_is ∙ ap (λ (turns : List (Option Entry)). record v { seen = turns }) (append_assoc v.seen a.since b.since);
      own =
          own_of-append v.number a.since b.since
          ∙ ap (λ (es : List Entry). es ++ own_of v.number b.since) a.own
          ∙ ap (λ (k : ℕ). first ++ own_of k b.since) (sym number)
          ∙ ap (λ (es : List Entry). first ++ es) b.own;
    }

pub nothing_adds : {F : Type 0} (v : View F) → AddsOwn v v []
nothing_adds {F} v = record { since = []; view_is = ap (λ (turns : List (Option Entry)). record v { seen = turns }) (sym (append-nil v.seen)); own = refl }

pub adds_keeps : {F : Type 0} (v w : View F) (mine : List Entry) → AddsOwn v w mine → KeepsSeat v w
adds_keeps {F} v w mine a = record {
  number_is = ap (λ (y : View F). y.number) a.view_is;
  made_is = ap (λ (y : View F). y.made) a.view_is;
  base_is = ap (λ (y : View F). y.base) a.view_is;
  footing_is = ap (λ (y : View F). y.footing) a.view_is;
}
