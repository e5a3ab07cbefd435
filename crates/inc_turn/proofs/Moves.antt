-- The steps of a turn keep the rule.
use Rattle.std.proofs.Common.{◌≡◌, ◌≢◌, ℕ, ◌+◌, ◌%◌, ◌^◌, ◌<◌, ◌≤◌, ⊎_elim, true, false, cond, eqb, List, [], ◌∷◌, ◌++◌, get_or, set, Option, Some, None, refl, sym, ap, subst, ◌∙◌, arith, eq-eqb, ne_eqb}
use Rattle.std.proofs.lemmas.Bool.{eqb-true}
use Rattle.std.proofs.lemmas.List.{append_assoc, length-append}
use mathlib.Core.Logic.{dite}
use mathlib.Core.Option.{none, some}
use mathlib.Core.Option as maybe
use native.Mathlib.Decide.{ℕ_discrete}
use lib.ListN.{get_elem?}
use prog.Atomic.{either}
use Rattle.atomic_table.specs.Table.{State, Me, step, Act, keeps, takes, gives, stepped, Valid, carried_after, Allows}
use Rattle.atomic_table.proofs.Lists.{at_set, set_again, exchanged}
use lib.Seq.{set-get_or}
use Rattle.std.proofs.Common.{mod-eq_of_lt}
use Rattle.inc_model.specs.declared.words.reply.Entry.{Entry}
use Rattle.inc_model.specs.histories.Machines.{added, IsOf}
use Rattle.inc_turn.specs.Lists.{entries_of_turns, HasSeen}
use Rattle.inc_turn.specs.Views.{heard, holding, entering, ending, IsIdle}
use Rattle.inc_turn.specs.Rules.{TurnOrder, is_busy, FitsPast, AllFitPast, FitsView, IsHome, KeepsTurns, TakesTicket, SeesTurn, GivesBack}
use Rattle.inc_turn.specs.declared.view.View.{View}
use Rattle.inc_turn.specs.declared.view.PastSeat.{PastSeat}
use Rattle.inc_turn.proofs.ListLemmas.{entries_of_turns-append, entries_of_turns-one, other_of, AreSeated-append, seated_of, seen_more, seen_all}

only_busy : (busy : Option ℕ) (number other : ℕ) → is_busy busy number ≡ true → number ≢ other → is_busy busy other ≡ false
only_busy None number other e ne = refl
only_busy (Some k) number other e ne = ne_eqb k other (λ same. ne (sym (eqb-true k number e) ∙ same))

module _ {F : Type 0} where
  -- what holds of the changed view and of each other one holds of all
  pub each_set : (P : ℕ → View F → Type 0) (views : List (View F)) (id : ℕ) (w : View F) → P id w → ((j : ℕ) (v : View F) → j ≢ id → get_elem? views j ≡ some v → P j v)
      → (j : ℕ) (v : View F) → get_elem? (set views id w) j ≡ some v → P j v
  each_set P views id w mine others j v e =
      ⊎_elim (λ (t : (j ≡ id) × (w ≡ v)). subst (λ (x : ℕ × View F). P x.0 x.1) (λ i. (sym t.0 i, t.1 i)) mine) (λ (t : (j ≢ id) × (get_elem? views j ≡ some v)). others j v t.0 t.1) (at_set views id j w v e)

  -- two seats at two places have two numbers
  pub distinct : (o : TurnOrder F) (id j : ℕ) (v w : View F) → j ≢ id → FitsView o id v → FitsView o j w → v.number ≢ w.number
  distinct o id j v w ne fv fw same =
      let both : Some id ≡ Some j = sym fv.owned ∙ ap o.owner same ∙ fw.owned in
      let one : id ≡ j = cc in
      ne (sym one)

  pub past_distinct : (o : TurnOrder F) (id : ℕ) (v : View F) (c : PastSeat) → FitsView o id v → FitsPast o c → v.number ≢ c.number
  past_distinct o id v c fv fc same = let both : Some id ≡ None = sym fv.owned ∙ ap o.owner same ∙ fc.unowned in cc

  -- the seats that were given back fit after a step
  pub past_map : (o p : TurnOrder F) → ((c : PastSeat) → FitsPast o c → FitsPast p c) → (cs : List PastSeat) → AllFitPast o cs → AllFitPast p cs
  past_map o p f [] fits = tt
  past_map o p f (c ∷ cs) fits = (f c fits.0, past_map o p f cs fits.1)

  -- ---- a ticket

  abbrev drawn : TurnOrder F → ℕ → TurnOrder F
  drawn o number = record o { ticket = o.ticket + 1; holder = λ k. cond (eqb k o.ticket) number (o.holder k) }

  drawn_holder : (o : TurnOrder F) (number k : ℕ) → k < o.ticket → (drawn o number).holder k ≡ o.holder k
  drawn_holder o number k lt = rw (ne_eqb k o.ticket (λ e. omega arith)) refl

  drawn_past : (o : TurnOrder F) (number : ℕ) (c : PastSeat) → FitsPast o c → FitsPast (drawn o number) c
  drawn_past o number c fits = record { unowned = fits.unowned; low = fits.low; idle = fits.idle; base_is = fits.base_is; seen_is = fits.seen_is; full = fits.full }

  drawn_other : (o : TurnOrder F) (number j : ℕ) (v : View F) → FitsView o j v → FitsView (drawn o number) j v
  drawn_other o number j v fits = record {
    owned = fits.owned;
    low = fits.low;
    held = λ ticket has. let h = fits.held ticket has in (drawn_holder o number ticket h.2 ∙ h.0, h.1, omega (arith, h.2));
    busy_is = fits.busy_is;
    up_to = fits.up_to;
    seen_is = fits.seen_is;
    full = fits.full;
    base_is = fits.base_is;
    footing_is = fits.footing_is;
    made_is = fits.made_is;
    past_fit = past_map o (drawn o number) (drawn_past o number) v.past fits.past_fit;
  }

  drawn_own : (o : TurnOrder F) (id : ℕ) (v : View F) → o.serving ≤ o.ticket → v.in_turn ≡ false → FitsView o id v → FitsView (drawn o v.number) id (holding v o.ticket)
  drawn_own o id v le idle fits = record {
    owned = fits.owned;
    low = fits.low;
    held = λ ticket has.
        let is : o.ticket ≡ ticket = cc in
        (rw (eq-eqb ticket o.ticket (sym is)) refl, omega (arith, is), omega (arith, is));
    busy_is = fits.busy_is;
    up_to = λ in_turn. absurd cc;
    seen_is = fits.seen_is;
    full = fits.full;
    base_is = fits.base_is;
    footing_is = fits.footing_is;
    made_is = fits.made_is;
    past_fit = past_map o (drawn o v.number) (drawn_past o v.number) v.past fits.past_fit;
  }

  -- ---- the machine is taken

  abbrev entered : TurnOrder F → ℕ → TurnOrder F
  entered o number = record o { busy = Some number }

  entered_past : (o : TurnOrder F) (id : ℕ) (v : View F) (c : PastSeat) → FitsView o id v → FitsPast o c → FitsPast (entered o v.number) c
  entered_past o id v c fv fits = record { unowned = fits.unowned; low = fits.low; idle = ne_eqb v.number c.number (past_distinct o id v c fv fits); base_is = fits.base_is; seen_is = fits.seen_is; full = fits.full }

  entered_other : (o : TurnOrder F) (id j : ℕ) (v w : View F) → j ≢ id → o.busy ≡ None → FitsView o id v → FitsView o j w → FitsView (entered o v.number) j w
  entered_other o id j v w ne free fv fits =
      let idle : w.in_turn ≡ false = fits.busy_is ∙ ap (λ (busy : Option ℕ). is_busy busy w.number) free in
      record {
        owned = fits.owned;
        low = fits.low;
        held = fits.held;
        busy_is = idle ∙ sym (ne_eqb v.number w.number (distinct o id j v w ne fv fits));
        up_to = λ in_turn. absurd cc;
        seen_is = fits.seen_is;
        full = fits.full;
        base_is = fits.base_is;
        footing_is = fits.footing_is;
        made_is = fits.made_is;
        past_fit = past_map o (entered o v.number) (λ c. entered_past o id v c fv) w.past fits.past_fit;
      }

  entered_own : (o : TurnOrder F) (id : ℕ) (v : View F) (between : List (Option Entry)) → v.ticket ≡ Some o.serving → o.all ≡ v.seen ++ between → FitsView o id v → FitsView (entered o v.number) id (entering v between)
  entered_own o id v between has whole fits = record {
    owned = fits.owned;
    low = fits.low;
    held = fits.held;
    busy_is = sym (eq-eqb v.number v.number refl);
    up_to = λ _. (has, sym whole);
    seen_is = subst (λ (seen : List (Option Entry)). HasSeen v.number seen o.all) whole (seen_all v.number o.all);
    full = λ _. sym whole;
    base_is = fits.base_is;
    footing_is = fits.footing_is;
    made_is = fits.made_is;
    past_fit = past_map o (entered o v.number) (λ c. entered_past o id v c fits) v.past fits.past_fit;
  }

  -- ---- the machine is given back

  abbrev left : TurnOrder F → ℕ → Option Entry → TurnOrder F
  left o number turn = record o { serving = o.serving + 1; busy = None; all = o.all ++ turn ∷ []; fullest = number }

  left_past : (o : TurnOrder F) (id : ℕ) (v : View F) (turn : Option Entry) (c : PastSeat) → IsOf v.number turn → FitsView o id v → FitsPast o c → FitsPast (left o v.number turn) c
  left_past o id v turn c own fv fits =
      let other = past_distinct o id v c fv fits in
      record {
        unowned = fits.unowned;
        low = fits.low;
        idle = refl;
        base_is = fits.base_is;
        seen_is = seen_more c.number c.seen o.all turn fits.seen_is (other_of v.number c.number turn other own);
        full = λ same. absurd (other same);
      }

  left_other : (o : TurnOrder F) (id j : ℕ) (v w : View F) (turn : Option Entry) → j ≢ id → v.in_turn ≡ true → v.ticket ≡ Some o.serving → IsOf v.number turn → FitsView o id v → FitsView o j w → FitsView (left o v.number turn) j w
  left_other o id j v w turn ne in_turn has own fv fits =
      let other = distinct o id j v w ne fv fits in
      let busy : is_busy o.busy v.number ≡ true = sym fv.busy_is ∙ in_turn in
      let idle : w.in_turn ≡ false = fits.busy_is ∙ only_busy o.busy v.number w.number busy other in
      record {
        owned = fits.owned;
        low = fits.low;
        held = λ ticket found.
            let h = fits.held ticket found in
            let mine = (fv.held o.serving has).0 in
            let later : o.serving ≢ ticket = λ same. other (sym mine ∙ ap o.holder same ∙ h.0) in
            (h.0, omega (arith, h.1, later), h.2);
        busy_is = idle;
        up_to = λ now. absurd cc;
        seen_is = seen_more w.number w.seen o.all turn fits.seen_is (other_of v.number w.number turn other own);
        full = λ same. absurd (other same);
        base_is = fits.base_is;
        footing_is = fits.footing_is;
        made_is = fits.made_is;
        past_fit = past_map o (left o v.number turn) (λ c. left_past o id v turn c own fv) w.past fits.past_fit;
      }

  left_own : (o : TurnOrder F) (id : ℕ) (v : View F) (turn : Option Entry) → v.in_turn ≡ true → IsOf v.number turn → FitsView o id v → FitsView (left o v.number turn) id (ending v turn)
  left_own o id v turn in_turn own fits =
      let seen : v.seen ++ turn ∷ [] ≡ o.all ++ turn ∷ [] = ap (λ (turns : List (Option Entry)). turns ++ turn ∷ []) (fits.up_to in_turn).1 in
      record {
        owned = fits.owned;
        low = fits.low;
        held = λ ticket has. absurd cc;
        busy_is = refl;
        up_to = λ now. absurd cc;
        seen_is = subst (λ (turns : List (Option Entry)). HasSeen v.number turns (o.all ++ turn ∷ [])) (sym seen) (seen_all v.number (o.all ++ turn ∷ []));
        full = λ _. seen;
        base_is = fits.base_is;
        footing_is = fits.footing_is;
        made_is = fits.made_is;
        past_fit = past_map o (left o v.number turn) (λ c. left_past o id v turn c own fits) v.past fits.past_fit;
      }

-- the machine that a seat took last
unfoldable pub value_or : {M : Type 0} → List (ℕ × M) → M → M
value_or [] machine = machine
value_or (x ∷ xs) machine = x.1

module _ {M F : Type 0} (history : M → List Entry) (footing : M → F) where
  abbrev Rule : State M (View F) → Type 0
  Rule = KeepsTurns history footing

  abbrev Fitting : TurnOrder F → ℕ → View F → Type 0
  Fitting o id v = v.spent ≡ false → FitsView o id v

  -- a step that changes nothing
  same_state : (s : State M (View F)) (i id : ℕ) (v : View F) → Rule s → get_elem? s.views id ≡ some v → Rule (record { words = set s.words i (get_or s.words i 0); homes = s.homes; views = set s.views id v })
  same_state s i id v kept at = record {
    order = kept.order;
    words_are = set-get_or s.words i 0 ∙ kept.words_are;
    ordered = kept.ordered;
    small = kept.small;
    counted = kept.counted;
    fullest_low = kept.fullest_low;
    seated = kept.seated;
    home = kept.home;
    each = λ j w here. kept.each j w (subst (λ (views : List (View F)). get_elem? views j ≡ some w) (set_again s.views id v at) here);
  }

  -- ---- a ticket

  home_drawn : (o : TurnOrder F) (number : ℕ) (busy : Option ℕ) (homes : List (maybe.Option M)) → IsHome o history footing busy homes → IsHome (drawn o number) history footing busy homes
  home_drawn o number None homes home = home
  home_drawn o number (Some k) homes home = (home.0, drawn_holder o number o.serving home.3 ∙ home.1, home.2, omega (arith, home.3))

  pub takes_ticket : (slots id t : ℕ) (v : View F) (c : List (ℕ × M)) → v.spent ≡ false → v.in_turn ≡ false → t + 1 < 2 ^ 64
      → Allows Rule slots id (v, c) 1 (λ n. either (eqb n t) (t + 1) n) (TakesTicket (step slots 1 t (t + 1) none) (v, c))
  takes_ticket slots id t v c unspent idle low s kept sized at small =
      let o = kept.order in
      let n = get_or s.words 1 0 in
      let word : n ≡ o.ticket = ap (λ (words : List ℕ). get_or words 1 0) kept.words_are in
      let Goes : ℕ → Type 0 = λ (x : ℕ). (w : View F) × (a : Act M) × Valid s.homes c a × Rule (stepped s 1 x id c w a) × TakesTicket (step slots 1 t (t + 1) none) (v, c) n (w, carried_after c a) in
      let fits = kept.each id v at unspent in
      exchanged n t (t + 1) Goes
      (λ hit. (
        holding v n,
        keeps,
        tt,
        record {
          order = drawn o v.number;
          words_are = ap (λ (words : List ℕ). set words 1 (t + 1)) kept.words_are ∙ ap (λ (k : ℕ). o.serving ∷ k ∷ []) (omega (arith, hit, word));
          ordered = omega (arith, kept.ordered);
          small = omega (arith, hit, word);
          counted = kept.counted;
          fullest_low = kept.fullest_low;
          seated = kept.seated;
          home = home_drawn o v.number o.busy s.homes kept.home;
          each = each_set (Fitting (drawn o v.number)) s.views id (holding v n)
              (λ _. subst (λ (k : ℕ). FitsView (drawn o v.number) id (holding v k)) (sym word) (drawn_own o id v kept.ordered idle fits))
              (λ j w ne there live. drawn_other o v.number j w (kept.each j w there live));
        },
        (λ _. refl, λ miss. absurd (miss hit)),
      ))
      (λ miss. (v, keeps, tt, same_state s 1 id v kept at, (λ hit. absurd (miss hit), λ _. refl)))

  -- ---- the ticket that is served

  free_by : (o : TurnOrder F) (busy : Option ℕ) (number : ℕ) (homes : List (maybe.Option M)) → is_busy busy number ≡ false → o.holder o.serving ≡ number → IsHome o history footing busy homes → busy ≡ None
  free_by o None number homes idle has home = refl
  free_by o (Some k) number homes idle has home = absurd (let busy : eqb k number ≡ true = eq-eqb k number (sym home.1 ∙ has) in cc)

  told_before : (o : TurnOrder F) (id : ℕ) (v : View F) (machine : M) (between : List (Option Entry)) → FitsView o id v → o.all ≡ v.seen ++ between → history machine ≡ o.base ++ entries_of_turns o.all → history machine ≡ heard v ++ entries_of_turns between
  told_before o id v machine between fits whole told =
      told
      ∙ ap (λ (turns : List (Option Entry)). o.base ++ entries_of_turns turns) whole
      ∙ ap (λ (es : List Entry). o.base ++ es) (entries_of_turns-append v.seen between)
      ∙ sym (append_assoc o.base (entries_of_turns v.seen) (entries_of_turns between))
      ∙ ap (λ (base : List Entry). base ++ entries_of_turns v.seen ++ entries_of_turns between) (sym fits.base_is)

  pub sees_turn : (slots id ticket : ℕ) (v : View F) → v.spent ≡ false → v.in_turn ≡ false → v.ticket ≡ Some ticket → Allows Rule slots id (v, []) 0 (λ n. n) (SeesTurn history footing (step slots 0 0 0 none) (v, []))
  sees_turn slots id ticket v unspent idle has s kept sized at small =
      let o = kept.order in
      let n = get_or s.words 0 0 in
      let word : n ≡ o.serving = ap (λ (words : List ℕ). get_or words 0 0) kept.words_are in
      let fits = kept.each id v at unspent in
      dite (ℕ_discrete n ticket)
      (λ hit.
      let served : v.ticket ≡ Some o.serving = has ∙ ap (λ (k : ℕ). Some k) (sym hit ∙ word) in
      let held = fits.held o.serving served in
      let free : o.busy ≡ None = free_by o o.busy v.number s.homes (sym fits.busy_is ∙ idle) held.0 kept.home in
      let home : IsHome o history footing None s.homes = subst (λ (busy : Option ℕ). IsHome o history footing busy s.homes) free kept.home in
      let between = fits.seen_is.rest in (
        entering v between,
        takes 0 home.0,
        ap (λ (homes : List (maybe.Option M)). get_elem? homes 0) home.1,
        record {
          order = entered o v.number;
          words_are = set-get_or s.words 0 0 ∙ kept.words_are;
          ordered = kept.ordered;
          small = kept.small;
          counted = kept.counted;
          fullest_low = kept.fullest_low;
          seated = kept.seated;
          home = (ap (λ (homes : List (maybe.Option M)). set homes 0 none) home.1, held.0, fits.low, held.2);
          each = each_set (Fitting (entered o v.number)) s.views id (entering v between)
              (λ _. entered_own o id v between served fits.seen_is.whole fits)
              (λ j w ne there live. entered_other o id j v w ne free fits (kept.each j w there live));
        },
        λ other found _. (
          λ miss. absurd (miss (let same : Some ticket ≡ Some other = sym has ∙ found in hit ∙ cc)),
          λ _. record {
            between = between;
            machine = home.0;
            others = fits.seen_is.others;
            after = refl;
            told = told_before o id v home.0 between fits fits.seen_is.whole home.2;
            floor = ap (λ (f : F). Some f) home.3 ∙ sym fits.footing_is;
          },
        ),
      ))
      (λ miss. (v, keeps, tt, same_state s 0 id v kept at, λ other found _. (λ _. refl, λ hit. absurd (miss (let same : Some ticket ≡ Some other = sym has ∙ found in hit ∙ cc)))))

  -- ---- the machine is given back

  out_by : (o : TurnOrder F) (busy : Option ℕ) (number : ℕ) (homes : List (maybe.Option M)) → is_busy busy number ≡ true → IsHome o history footing busy homes → homes ≡ none ∷ []
  out_by o None number homes e home = absurd cc
  out_by o (Some k) number homes e home = home.0

  pub gives_back : (slots id : ℕ) (v : View F) (machine : M) (turn : Option Entry) → v.spent ≡ false → v.in_turn ≡ true → IsOf v.number turn → history machine ≡ heard v ++ added turn → Some (footing machine) ≡ v.footing
      → Allows Rule slots id (v, (0, machine) ∷ []) 0 (λ n. (n + 1) % 2 ^ 64) (GivesBack history (step slots 0 1 0 none) (v, (0, machine) ∷ []))
  unfolding value_or
  gives_back slots id v machine turn unspent in_turn own told floor s kept sized at small =
      let o = kept.order in
      let n = get_or s.words 0 0 in
      let word : n ≡ o.serving = ap (λ (words : List ℕ). get_or words 0 0) kept.words_are in
      let fits = kept.each id v at unspent in
      let served = fits.up_to in_turn in
      let held = fits.held o.serving served.0 in
      let out : s.homes ≡ none ∷ [] = out_by o o.busy v.number s.homes (sym fits.busy_is ∙ in_turn) kept.home in
      let next : (n + 1) % 2 ^ 64 ≡ o.serving + 1 = ap (λ (k : ℕ). (k + 1) % 2 ^ 64) word ∙ mod-eq_of_lt (omega (arith, held.2, kept.small)) in
      let same_footing : footing machine ≡ o.footing = let both : Some (footing machine) ≡ Some o.footing = floor ∙ fits.footing_is in cc in
      let whole : history machine ≡ o.base ++ entries_of_turns (o.all ++ turn ∷ []) =
      told
      ∙ ap (λ (base : List Entry). base ++ entries_of_turns v.seen ++ added turn) fits.base_is
      ∙ ap (λ (turns : List (Option Entry)). o.base ++ entries_of_turns turns ++ added turn) served.1
      ∙ append_assoc o.base (entries_of_turns o.all) (added turn)
      ∙ ap (λ (es : List Entry). o.base ++ (entries_of_turns o.all ++ es)) (sym (entries_of_turns-one turn))
      ∙ ap (λ (es : List Entry). o.base ++ es) (sym (entries_of_turns-append o.all (turn ∷ []))) in (
        ending v turn,
        gives,
        tt,
        record {
          order = left o v.number turn;
          words_are = ap (λ (words : List ℕ). set words 0 ((n + 1) % 2 ^ 64)) kept.words_are ∙ ap (λ (k : ℕ). k ∷ o.ticket ∷ []) next;
          ordered = omega (arith, held.2);
          small = kept.small;
          counted = length-append o.all (turn ∷ []) ∙ omega (arith, kept.counted);
          fullest_low = fits.low;
          seated = AreSeated-append o.made o.all (turn ∷ []) kept.seated (seated_of v.number o.made turn fits.low own, tt);
          home = (machine, ap (λ (homes : List (maybe.Option M)). set homes 0 (some machine)) out, whole, same_footing);
          each = each_set (Fitting (left o v.number turn)) s.views id (ending v turn)
              (λ _. left_own o id v turn in_turn own fits)
              (λ j w ne there live. left_other o id j v w turn ne in_turn served.0 own fits (kept.each j w there live));
        },
        λ other same.
            let is : machine ≡ other = ap (λ (xs : List (ℕ × M)). value_or xs machine) same in
            record { turn = turn; own = own; told = subst (λ (m : M). history m ≡ heard v ++ added turn) is told; after = refl },
      )

  -- ---- the same of a seat that is as it was at the start

  pub takes_at : (slots id t : ℕ) (me start : Me M (View F)) → me ≡ start → IsIdle start.0 → t < 18446744073709551615
      → Allows Rule slots id me 1 (λ n. either (eqb n t) (t + 1) n) (TakesTicket (step slots 1 t (t + 1) none) me)
  takes_at slots id t me start same idle low =
      subst (λ (x : Me M (View F)). Allows Rule slots id x 1 (λ n. either (eqb n t) (t + 1) n) (TakesTicket (step slots 1 t (t + 1) none) x)) (sym same)
      (takes_ticket slots id t start.0 start.1 idle.unspent idle.no_turn (omega arith))

  pub sees_at : (slots id ticket : ℕ) (me start : Me M (View F)) → me ≡ start → start.0.spent ≡ false → start.0.in_turn ≡ false → start.0.ticket ≡ Some ticket → start.1 ≡ []
      → Allows Rule slots id me 0 (λ n. n) (SeesTurn history footing (step slots 0 0 0 none) me)
  sees_at slots id ticket me start same unspent idle has empty =
      let whole : me ≡ (start.0, []) = same ∙ ap (λ (c : List (ℕ × M)). (start.0, c)) empty in
      subst (λ (x : Me M (View F)). Allows Rule slots id x 0 (λ n. n) (SeesTurn history footing (step slots 0 0 0 none) x)) (sym whole) (sees_turn slots id ticket start.0 unspent idle has)

  pub gives_at : (slots id : ℕ) (me : Me M (View F)) (v : View F) (machine : M) (turn : Option Entry) → me ≡ (v, (0, machine) ∷ []) → v.spent ≡ false → v.in_turn ≡ true → IsOf v.number turn
      → history machine ≡ heard v ++ added turn → Some (footing machine) ≡ v.footing → Allows Rule slots id me 0 (λ n. (n + 1) % 2 ^ 64) (GivesBack history (step slots 0 1 0 none) me)
  gives_at slots id me v machine turn same unspent in_turn own told floor =
      subst (λ (x : Me M (View F)). Allows Rule slots id x 0 (λ n. (n + 1) % 2 ^ 64) (GivesBack history (step slots 0 1 0 none) x)) (sym same) (gives_back slots id v machine turn unspent in_turn own told floor)
