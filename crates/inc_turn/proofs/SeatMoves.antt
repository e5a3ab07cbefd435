-- A new seat, a seat that is given back, and the first and last state keep the rule.
use Rattle.std.proofs.Common.{◌≡◌, ◌≢◌, ℕ, zero, suc, ◌+◌, ◌<◌, ◌⊎◌, inl, inr, ⊎_elim, Bool, true, false, cond, eqb, List, [], ◌∷◌, ◌++◌, length, set, Option, Some, None, refl, sym, ap, subst, ◌∙◌, arith, eq-eqb, ne_eqb, length-set}
use Rattle.std.proofs.lemmas.List.{append-nil}
use mathlib.Core.Option.{none, some, some-injective, some-ne-none}
use mathlib.Core.Option as maybe
use lib.ListN.{get_elem?}
use Rattle.atomic_table.specs.Table.{State, Me, Splits, Joins, opening}
use Rattle.atomic_table.proofs.Lists.{at_set, set_else}
use Rattle.inc_model.specs.declared.words.reply.Entry.{Entry}
use Rattle.inc_turn.specs.Lists.{IsOther, AreOthers, IsSeated, AreSeated}
use Rattle.inc_turn.specs.Views.{newcomer, spent_view, counting, next_seat, past_of, keeping, IsIdle}
use Rattle.inc_turn.specs.Rules.{TurnOrder, is_busy, FitsPast, AllFitPast, FitsView, IsHome, KeepsTurns}
use Rattle.inc_turn.specs.declared.view.View.{View}
use Rattle.inc_turn.specs.declared.view.PastSeat.{PastSeat}
use Rattle.inc_turn.proofs.ListLemmas.{AreSeated-more, seen_all}
use Rattle.inc_turn.proofs.Moves.{each_set, distinct, past_map}

-- the last place of a list that was made one longer
at_end : {A : Type 0} (xs : List A) (a b : A) (j : ℕ) → get_elem? (xs ++ a ∷ []) j ≡ some b → (get_elem? xs j ≡ some b) ⊎ ((j ≡ length xs) × (a ≡ b))
at_end [] a b zero e = inr (refl, some-injective a b e)
at_end [] a b (suc j) e = absurd (some-ne-none b (sym e))
at_end (x ∷ xs) a b zero e = inl e
at_end (x ∷ xs) a b (suc j) e = ⊎_elim (λ h. inl h) (λ (t : (j ≡ length xs) × (a ≡ b)). inr (ap suc t.0, t.1)) (at_end xs a b j e)

seated_other : (made : ℕ) (turn : Option Entry) → IsSeated made turn → IsOther made turn
seated_other made None h = tt
seated_other made (Some entry) h = λ e. omega (arith, h, e)

seated_others : (made : ℕ) (first rest : List (Option Entry)) → AreSeated made (first ++ rest) → AreOthers made rest
seated_others made [] [] h = tt
seated_others made [] (turn ∷ rest) h = (seated_other made turn h.0, seated_others made [] rest h.1)
seated_others made (turn ∷ first) rest h = seated_others made first rest h.1

past_append : {F : Type 0} (o : TurnOrder F) (cs : List PastSeat) (c : PastSeat) → AllFitPast o cs → FitsPast o c → AllFitPast o (cs ++ c ∷ [])
past_append o [] c all one = (one, tt)
past_append o (d ∷ cs) c all one = (all.0, past_append o cs c all.1 one)

given_none : (b : Bool) (owner : Option ℕ) → owner ≡ None → cond b None owner ≡ None
given_none true owner e = refl
given_none false owner e = e

module _ {F : Type 0} where
  -- ---- a new seat

  abbrev split : TurnOrder F → ℕ → TurnOrder F
  split o id = record o { made = o.made + 1; owner = λ k. cond (eqb k o.made) (Some id) (o.owner k) }

  split_owner : (o : TurnOrder F) (id k : ℕ) → k < o.made → (split o id).owner k ≡ o.owner k
  split_owner o id k lt = rw (ne_eqb k o.made (λ e. omega arith)) refl

  split_past : (o : TurnOrder F) (id : ℕ) (c : PastSeat) → FitsPast o c → FitsPast (split o id) c
  split_past o id c fits = record { unowned = split_owner o id c.number fits.low ∙ fits.unowned; low = omega (arith, fits.low); idle = fits.idle; base_is = fits.base_is; seen_is = fits.seen_is; full = fits.full }

  split_view : (o : TurnOrder F) (id j : ℕ) (v w : View F) → (w.number ≡ 0 → w.made ≡ o.made + 1) → FitsView o j v → w ≡ record v { made = w.made } → FitsView (split o id) j w
  split_view o id j v w made-is fits same =
      let Fits : View F → Type 0 = λ (x : View F). (x.number ≡ 0 → x.made ≡ o.made + 1) → FitsView (split o id) j x in
      subst Fits (sym same)
      (λ made. record {
        owned = split_owner o id v.number fits.low ∙ fits.owned;
        low = omega (arith, fits.low);
        held = fits.held;
        busy_is = fits.busy_is;
        up_to = fits.up_to;
        seen_is = fits.seen_is;
        full = fits.full;
        base_is = fits.base_is;
        footing_is = fits.footing_is;
        made_is = made;
        past_fit = past_map o (split o id) (split_past o id) v.past fits.past_fit;
      })
      made-is

  busy_below : {M : Type 0} (history : M → List Entry) (footing : M → F) (o : TurnOrder F) (busy : Option ℕ) (homes : List (maybe.Option M)) → IsHome o history footing busy homes → is_busy busy o.made ≡ false
  busy_below history footing o None homes home = refl
  busy_below history footing o (Some k) homes home = ne_eqb k o.made (λ e. omega (arith, home.2, e))

  split_new : (o : TurnOrder F) (id j : ℕ) (v : View F) → v.number ≡ 0 → IsIdle v → o.fullest < o.made → is_busy o.busy o.made ≡ false → AreSeated o.made o.all → FitsView o id v → FitsView (split o j) j (next_seat v)
  split_new o id j v first idle fullest free seated fits =
      let made : v.made ≡ o.made = fits.made_is first in
      let some_made : 0 < o.made = omega (arith, fits.low) in
      record {
        owned = rw (eq-eqb v.made o.made made) refl;
        low = omega (arith, made);
        held = λ ticket has. let none : None ≡ Some ticket = sym idle.no_ticket ∙ has in absurd cc;
        busy_is = idle.no_turn ∙ sym (ap (λ (k : ℕ). is_busy o.busy k) made ∙ free);
        up_to = λ in_turn. let both : false ≡ true = sym idle.no_turn ∙ in_turn in absurd cc;
        seen_is = record {
          rest = fits.seen_is.rest;
          whole = fits.seen_is.whole;
          others = subst (λ (k : ℕ). AreOthers k fits.seen_is.rest) (sym made) (seated_others o.made v.seen fits.seen_is.rest (subst (λ (turns : List (Option Entry)). AreSeated o.made turns) fits.seen_is.whole seated));
        };
        full = λ same. absurd (omega (arith, fullest, made, same));
        base_is = fits.base_is;
        footing_is = fits.footing_is;
        made_is = λ none. absurd (omega (arith, none, made, some_made));
        past_fit = tt;
      }

  -- ---- a seat that is given back

  abbrev given : TurnOrder F → ℕ → TurnOrder F
  given o number = record o { owner = λ k. cond (eqb k number) None (o.owner k) }

  given_past : (o : TurnOrder F) (number : ℕ) (c : PastSeat) → FitsPast o c → FitsPast (given o number) c
  given_past o number c fits = record { unowned = given_none (eqb c.number number) (o.owner c.number) fits.unowned; low = fits.low; idle = fits.idle; base_is = fits.base_is; seen_is = fits.seen_is; full = fits.full }

  given_other : (o : TurnOrder F) (number j : ℕ) (v : View F) → v.number ≢ number → FitsView o j v → FitsView (given o number) j v
  given_other o number j v ne fits = record {
    owned = rw (ne_eqb v.number number ne) fits.owned;
    low = fits.low;
    held = fits.held;
    busy_is = fits.busy_is;
    up_to = fits.up_to;
    seen_is = fits.seen_is;
    full = fits.full;
    base_is = fits.base_is;
    footing_is = fits.footing_is;
    made_is = fits.made_is;
    past_fit = past_map o (given o number) (given_past o number) v.past fits.past_fit;
  }

  given_one : (o : TurnOrder F) (j : ℕ) (w : View F) → IsIdle w → FitsView o j w → FitsPast (given o w.number) (past_of w)
  given_one o j w idle fits = record {
    unowned = rw (eq-eqb w.number w.number refl) refl;
    low = fits.low;
    idle = sym fits.busy_is ∙ idle.no_turn;
    base_is = fits.base_is;
    seen_is = fits.seen_is;
    full = fits.full;
  }

  given_own : (o : TurnOrder F) (id j : ℕ) (v w : View F) → j ≢ id → IsIdle w → FitsView o id v → FitsView o j w → FitsView (given o w.number) id (keeping v w)
  given_own o id j v w ne idle fv fw =
      let other = given_other o w.number id v (distinct o id j v w ne fv fw) fv in
      record {
        owned = other.owned;
        low = other.low;
        held = other.held;
        busy_is = other.busy_is;
        up_to = other.up_to;
        seen_is = other.seen_is;
        full = other.full;
        base_is = other.base_is;
        footing_is = other.footing_is;
        made_is = other.made_is;
        past_fit = past_append (given o w.number) v.past (past_of w) other.past_fit (given_one o j w idle fw);
      }

module _ {M F : Type 0} (history : M → List Entry) (footing : M → F) where
  abbrev Rule : State M (View F) → Type 0
  Rule = KeepsTurns history footing

  home_split : (o : TurnOrder F) (id : ℕ) (busy : Option ℕ) (homes : List (maybe.Option M)) → IsHome o history footing busy homes → IsHome (split o id) history footing busy homes
  home_split o id None homes home = home
  home_split o id (Some k) homes home = (home.0, home.1, omega (arith, home.2), home.3)

  pub splits_seat : (id : ℕ) (v : View F) → v.number ≡ 0 → IsIdle v → Splits Rule id v (counting v) (next_seat v)
  splits_seat id v first idle s kept at =
      let o = kept.order in
      let fits = kept.each id v at idle.unspent in
      let new = length s.views in
      let len : length (set s.views id (counting v)) ≡ new = length-set s.views id (counting v) in
      let Fitting : ℕ → View F → Type 0 = λ (j : ℕ) (w : View F). w.spent ≡ false → FitsView (split o new) j w in
      let old = each_set Fitting s.views id (counting v)
      (λ _. split_view o new id v (counting v) (λ _. ap (λ (k : ℕ). k + 1) (fits.made_is first)) fits refl)
      (λ j w ne there live.
      let other = kept.each j w there live in
      split_view o new j w w (λ none. absurd (distinct o id j v w ne fits other (first ∙ sym none))) other refl) in
      record {
        order = split o new;
        words_are = kept.words_are;
        ordered = kept.ordered;
        small = kept.small;
        counted = kept.counted;
        fullest_low = omega (arith, kept.fullest_low);
        seated = AreSeated-more o.made (o.made + 1) o.all (omega arith) kept.seated;
        home = home_split o new o.busy s.homes kept.home;
        each = λ j w there live.
            ⊎_elim (λ (here : get_elem? (set s.views id (counting v)) j ≡ some w). old j w here live)
            (λ (t : (j ≡ length (set s.views id (counting v))) × (next_seat v ≡ w)).
            subst (λ (x : ℕ × View F). FitsView (split o new) x.0 x.1) (λ i. (sym (t.0 ∙ len) i, t.1 i))
            (split_new o id new v first idle kept.fullest_low (busy_below history footing o o.busy s.homes kept.home) kept.seated fits))
            (at_end (set s.views id (counting v)) (next_seat v) w j there);
      }

  home_given : (o : TurnOrder F) (number : ℕ) (busy : Option ℕ) (homes : List (maybe.Option M)) → IsHome o history footing busy homes → IsHome (given o number) history footing busy homes
  home_given o number None homes home = home
  home_given o number (Some k) homes home = home

  pub joins_seat : (id other : ℕ) (v w : View F) → IsIdle v → IsIdle w → Joins Rule id v other w (keeping v w) spent_view
  joins_seat id other v w idle idle' s kept at apart there' =
      let o = kept.order in
      let there : get_elem? s.views other ≡ some w = sym (set_else s.views id other (keeping v w) apart) ∙ there' in
      let fv = kept.each id v at idle.unspent in
      let fw = kept.each other w there idle'.unspent in
      let Fitting : ℕ → View F → Type 0 = λ (j : ℕ) (x : View F). x.spent ≡ false → FitsView (given o w.number) j x in
      record {
        order = given o w.number;
        words_are = kept.words_are;
        ordered = kept.ordered;
        small = kept.small;
        counted = kept.counted;
        fullest_low = kept.fullest_low;
        seated = kept.seated;
        home = home_given o w.number o.busy s.homes kept.home;
        each = each_set Fitting (set s.views id (keeping v w)) other spent_view (λ spent. absurd cc)
            (λ j x ne here.
            ⊎_elim (λ (t : (j ≡ id) × (keeping v w ≡ x)) (live : x.spent ≡ false).
            subst (λ (y : ℕ × View F). FitsView (given o w.number) y.0 y.1) (λ i. (sym t.0 i, t.1 i)) (given_own o id other v w apart idle' fv fw))
            (λ (t : (j ≢ id) × (get_elem? s.views j ≡ some x)) (live : x.spent ≡ false).
            let fx = kept.each j x t.1 live in
            given_other o w.number j x (λ same. distinct o other j w x ne fw fx (sym same)) fx)
            (at_set s.views id j (keeping v w) x here));
      }

  -- ---- the start

  only_newcomer : (P : ℕ → View F → Type 0) (v : View F) → P 0 v → (j : ℕ) (w : View F) → get_elem? (v ∷ []) j ≡ some w → P j w
  only_newcomer P v mine zero w e = subst (P 0) (some-injective v w e) mine
  only_newcomer P v mine (suc j) w e = absurd (some-ne-none w (sym e))

  pub opens : (machine : M) → Rule (opening (0 ∷ 0 ∷ []) (machine ∷ []) (newcomer (history machine) (footing machine)))
  opens machine =
      let o : TurnOrder F = record { serving = 0; ticket = 0; made = 1; fullest = 0; busy = None; all = []; base = history machine; footing = footing machine; holder = λ _. 0; owner = λ _. Some 0 } in
      record {
        order = o;
        words_are = refl;
        ordered = omega arith;
        small = omega arith;
        counted = refl;
        fullest_low = omega arith;
        seated = tt;
        home = (machine, refl, sym (append-nil (history machine)), refl);
        each = only_newcomer (λ (j : ℕ) (w : View F). w.spent ≡ false → FitsView o j w) (newcomer (history machine) (footing machine))
            (λ _. record {
              owned = refl;
              low = omega arith;
              held = λ ticket has. absurd cc;
              busy_is = refl;
              up_to = λ in_turn. absurd cc;
              seen_is = seen_all 0 [];
              full = λ _. refl;
              base_is = refl;
              footing_is = refl;
              made_is = λ _. refl;
              past_fit = tt;
            });
      }

  -- ---- the same of what the code has

  pub opens_with : (items : List M) (key machine : M) → items ≡ machine ∷ [] → key ≡ machine → Rule (opening (0 ∷ 0 ∷ []) items (newcomer (history key) (footing key)))
  opens_with items key machine items-are key-is =
      subst (λ (xs : List M). Rule (opening (0 ∷ 0 ∷ []) xs (newcomer (history key) (footing key)))) (sym items-are)
      (subst (λ (m : M). Rule (opening (0 ∷ 0 ∷ []) (machine ∷ []) (newcomer (history m) (footing m)))) (sym key-is) (opens machine))

  pub splits_at : (id made : ℕ) (me start : Me M (View F)) → me ≡ (record start.0 { made = made }, start.1) → start.0.number ≡ 0 → IsIdle start.0 → Splits Rule id me.0 (counting me.0) (next_seat me.0)
  splits_at id made me start same first idle =
      let now : IsIdle (record start.0 { made = made }) = record { unspent = idle.unspent; no_ticket = idle.no_ticket; no_turn = idle.no_turn } in
      subst (λ (x : Me M (View F)). Splits Rule id x.0 (counting x.0) (next_seat x.0)) (sym same) (splits_seat id (record start.0 { made = made }) first now)

  pub joins_at : (id other : ℕ) (v start w : View F) → v ≡ record start { past = v.past } → IsIdle start → IsIdle w → Joins Rule id v other w (keeping v w) spent_view
  joins_at id other v start w same idle idle' =
      let now : IsIdle (record start { past = v.past }) = record { unspent = idle.unspent; no_ticket = idle.no_ticket; no_turn = idle.no_turn } in
      joins_seat id other v w (subst (λ (x : View F). IsIdle x) (sym same) now) idle'
