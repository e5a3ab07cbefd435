-- Which of a fill's own entries tells what became of a block: the one of its put, since no index is put twice.
use Rattle.std.proofs.Common.{◌≡◌, ◌⊎◌, inl, inr, ℕ, ◌+◌, ◌≤◌, Bool, true, false, cond, eqb, ◌||◌, List, [], ◌∷◌, ◌++◌, length, Option, Some, None, refl, sym, ap, subst, ◌∙◌, arith}
use Rattle.std.specs.Prelude.{map}
use Rattle.std.proofs.lemmas.Bool.{eq-eqb}
use Rattle.std.proofs.lemmas.List.Sums.{sum_by-cons}
use Rattle.inc_layout.specs.declared.opened.Opened.{Opened}
use Rattle.inc_model.specs.relation.State.{has}
use Rattle.inc_model.specs.declared.words.event.Event.{Event}
use Rattle.inc_model.specs.declared.words.event.Event.TheVariants.{Claim, Gate, PutData, PutPlace, Release, Settle}
use Rattle.inc_model.specs.declared.words.event.Window.{Window}
use Rattle.inc_model.specs.declared.words.outcomes.Outcome.{Outcome}
use Rattle.inc_model.specs.declared.words.reply.Entry.{Entry}
use Rattle.inc_model.specs.declared.words.reply.Reply.{Reply}
use Rattle.inc_model.specs.declared.words.reply.Reply.TheVariants as reply
use Rattle.inc_turn.specs.Lists.{entries_of_turns}
use Rattle.inc_turn.specs.Turns.{AddsOwn, own_of}
use Rattle.inc_turn.specs.Views.{heard}
use Rattle.inc_turn.specs.declared.view.View.{View}
use Rattle.inc_turn.proofs.ListLemmas.{entries_of_turns-append}
use Rattle.std.proofs.lemmas.List.{append_assoc}
use Rattle.inc_cell.specs.declared.machine.CellFooting.{CellFooting}
use Rattle.inc_filling.specs.Grouped.{gates_of_each, group_indices, places_of_each, put_of, puts_of, stores_of}
use Rattle.inc_filling.specs.Stands.{events_of}
use Rattle.inc_filling.specs.declared.filling.Filling.{Filling}
use Rattle.inc_filling.proofs.contents.InOrder.{Differ}
use Rattle.inc_handle.specs.Outcomes.{outcome_at}
use Rattle.inc_handle.specs.UnderWay.{AllGoOn, EachEnds, EndIs, GoesOnWith, HasOwnEntry, IsGatedReply}
use Rattle.inc_handle.specs.declared.fill.window.PutEnd.{PutEnd}
use Rattle.inc_handle.specs.declared.fill.window.PutEnd.TheVariants.{Busy, Present, Stored}
use Rattle.inc_session.specs.DeedFills.{reply_count}
use Rattle.inc_session.specs.Deeds.{was_busy, was_present, was_written}
use Rattle.inc_session.specs.Outcomes.{is_busy_outcome, is_present_outcome, is_written_outcome, outcome_count}

-- ---- an entry among others

abbrev pub Among : Entry → List Entry → Type 0
Among x [] = ⊥
Among x (y ∷ ys) = (x ≡ y) ⊎ Among x ys

among_here : (before : List Entry) (x : Entry) (after : List Entry) → Among x (before ++ x ∷ after)
among_here [] x after = inl refl
among_here (y ∷ before) x after = inr (among_here before x after)

-- what comes after a front
among_later : (front rest before : List Entry) (x : Entry) (after : List Entry) → front ++ rest ≡ before ++ x ∷ after → length front ≤ length before → Among x rest
among_later [] rest before x after e le = subst (λ (l : List Entry). Among x l) (sym e) (among_here before x after)
among_later (y ∷ front) rest [] x after e le = absurd (omega arith)
among_later (y ∷ front) rest (z ∷ before) x after e le = among_later front rest before x after (tails e) (omega arith)
  where
    tails : y ∷ (front ++ rest) ≡ z ∷ (before ++ x ∷ after) → front ++ rest ≡ before ++ x ∷ after
    tails f = cc

among_turns : (number : ℕ) (turns : List (Option Entry)) (x : Entry) → x.who ≡ number → Among x (entries_of_turns turns) → Among x (own_of number turns)
among_turns number [] x e h = h
among_turns number (None ∷ turns) x e h = among_turns number turns x e h
among_turns number (Some y ∷ turns) x e h = step (λ later. among_turns number turns x e later) (eqb y.who number) refl h
  where
    step : (Among x (entries_of_turns turns) → Among x (own_of number turns)) → (b : Bool) → eqb y.who number ≡ b → (x ≡ y) ⊎ Among x (entries_of_turns turns) → Among x (cond b (y ∷ []) [] ++ own_of number turns)
    step rest true t (inl same) = inl same
    step rest true t (inr later) = inr (rest later)
    step rest false t (inl same) = absurd (let own : eqb y.who number ≡ true = eq-eqb y.who number (ap (λ (z : Entry). z.who) (sym same) ∙ e) in cc)
    step rest false t (inr later) = rest later

heard_on : (v w : View CellFooting) (mine : List Entry) (a : AddsOwn v w mine) → heard w ≡ heard v ++ entries_of_turns a.since
heard_on v w mine a =
    ap (λ (y : View CellFooting). heard y) a.view_is
    ∙ ap (λ (l : List Entry). v.base ++ l) (entries_of_turns-append v.seen a.since)
    ∙ sym (append_assoc v.base (entries_of_turns v.seen) (entries_of_turns a.since))

-- an own entry of since then is among those that were added
pub among_own : (v w : View CellFooting) (mine : List Entry) → AddsOwn v w mine → (event : Event) (given : Reply) (at : ℕ) → HasOwnEntry (heard w) (length (heard v)) v.number event given at
    → Among (record { who = v.number; event = event; reply = given }) mine
among_own v w mine a event given at h =
    let x : Entry = record { who = v.number; event = event; reply = given } in
    let later : length (heard v) ≤ length h.here.before = omega (arith, h.later, h.here.place) in
    let there = among_later (heard v) (entries_of_turns a.since) h.here.before x h.here.after (sym (heard_on v w mine a) ∙ h.here.cut) later in
    subst (λ (l : List Entry). Among x l) a.own (among_turns v.number a.since x refl there)

-- ---- the puts alone

abbrev pub is_put_event : Event → Bool
is_put_event (PutData window index digest) = true
is_put_event event = false

abbrev pub put_entries : List Entry → List Entry
put_entries [] = []
put_entries (entry ∷ entries) = cond (is_put_event entry.event) (entry ∷ put_entries entries) (put_entries entries)

abbrev pub put_events : List Event → List Event
put_events [] = []
put_events (event ∷ events) = cond (is_put_event event) (event ∷ put_events events) (put_events events)

pub put_events_of : (entries : List Entry) → events_of (put_entries entries) ≡ put_events (events_of entries)
put_events_of [] = refl
put_events_of (entry ∷ entries) = step (put_events_of entries) (is_put_event entry.event)
  where
    step : events_of (put_entries entries) ≡ put_events (events_of entries) → (b : Bool) → events_of (cond b (entry ∷ put_entries entries) (put_entries entries)) ≡ cond b (entry.event ∷ put_events (events_of entries)) (put_events (events_of entries))
    step h true = ap (λ (l : List Event). entry.event ∷ l) h
    step h false = h

pub put_events_both : (first second : List Event) → put_events (first ++ second) ≡ put_events first ++ put_events second
put_events_both [] second = refl
put_events_both (event ∷ first) second = step (put_events_both first second) (is_put_event event)
  where
    step : put_events (first ++ second) ≡ put_events first ++ put_events second → (b : Bool) → cond b (event ∷ put_events (first ++ second)) (put_events (first ++ second)) ≡ cond b (event ∷ put_events first) (put_events first) ++ put_events second
    step h true = ap (λ (l : List Event). event ∷ l) h
    step h false = h

pub all_puts : (opened : Opened) (window : Window) (group : List Filling) → put_events (puts_of opened window group) ≡ puts_of opened window group
all_puts opened window [] = refl
all_puts opened window (f ∷ fs) = ap (λ (l : List Event). put_of opened window f ∷ l) (all_puts opened window fs)

no_put_places : (window : Window) (indices : List ℕ) → put_events (places_of_each window indices) ≡ []
no_put_places window [] = refl
no_put_places window (i ∷ is) = no_put_places window is

no_put_gates : (window : Window) (indices : List ℕ) → put_events (gates_of_each window indices) ≡ []
no_put_gates window [] = refl
no_put_gates window (i ∷ is) = no_put_gates window is

pub no_put_stores : (window : Window) (stored : List ℕ) → put_events (stores_of window stored) ≡ []
no_put_stores window [] = refl
no_put_stores window (i ∷ is) =
    put_events_both (places_of_each window (i ∷ is)) (Settle window ∷ (gates_of_each window (i ∷ is) ++ (Settle window ∷ [])))
    ∙ ap (λ (l : List Event). l ++ put_events (gates_of_each window (i ∷ is) ++ (Settle window ∷ []))) (no_put_places window (i ∷ is))
    ∙ put_events_both (gates_of_each window (i ∷ is)) (Settle window ∷ [])
    ∙ ap (λ (l : List Event). l ++ []) (no_put_gates window (i ∷ is))

pub among_puts : (x : Entry) (entries : List Entry) → is_put_event x.event ≡ true → Among x entries → Among x (put_entries entries)
among_puts x [] put h = h
among_puts x (y ∷ entries) put (inl same) =
    let here : is_put_event y.event ≡ true = ap (λ (z : Entry). is_put_event z.event) (sym same) ∙ put in
    subst (λ b. Among x (cond b (y ∷ put_entries entries) (put_entries entries))) (sym here) (inl same)
among_puts x (y ∷ entries) put (inr later) = step (among_puts x entries put later) (is_put_event y.event)
  where
    step : Among x (put_entries entries) → (b : Bool) → Among x (cond b (y ∷ put_entries entries) (put_entries entries))
    step h true = inr h
    step h false = h

-- ---- other entries have no outcome

abbrev pub Counts : (Reply → Bool) → Type 0
Counts test = (entry : Entry) → GoesOnWith entry.event entry.reply → is_put_event entry.event ≡ false → test entry.reply ≡ false

no_other : (test : Reply → Bool) → test reply.Claimed ≡ false → test reply.Placed ≡ false → test reply.Settled ≡ false → test reply.Released ≡ false → ((waiting : ℕ) → test (reply.Gated waiting) ≡ false)
    → (event : Event) (given : Reply) → GoesOnWith event given → is_put_event event ≡ false → test given ≡ false
no_other test a b c d e (Claim window places) given h put = ap test h ∙ a
no_other test a b c d e (PutData window index digest) given h put = absurd (cc)
no_other test a b c d e (PutPlace window index) given h put = ap test h ∙ b
no_other test a b c d e (Settle window) given h put = ap test h ∙ c
no_other test a b c d e (Gate window index) given h put = gated given h
  where
    gated : (r : Reply) → IsGatedReply r → test r ≡ false
    gated (reply.Gated waiting) k = e waiting
    gated r k = absurd k
no_other test a b c d e (Release window) given h put = ap test h ∙ d
no_other test a b c d e event given h put = absurd h

pub written_counts : Counts was_written
written_counts entry h put = no_other was_written refl refl refl refl (λ w. refl) entry.event entry.reply h put

pub present_counts : Counts was_present
present_counts entry h put = no_other was_present refl refl refl refl (λ w. refl) entry.event entry.reply h put

pub busy_counts : Counts was_busy
busy_counts entry h put = no_other was_busy refl refl refl refl (λ w. refl) entry.event entry.reply h put

pub count_puts : (test : Reply → Bool) → Counts test → (entries : List Entry) → AllGoOn entries → reply_count test entries ≡ reply_count test (put_entries entries)
count_puts test counts [] h = refl
count_puts test counts (entry ∷ entries) h = step (count_puts test counts entries h.1) (is_put_event entry.event) refl
  where
    step : reply_count test entries ≡ reply_count test (put_entries entries) → (b : Bool) → is_put_event entry.event ≡ b → cond (test entry.reply) (reply_count test entries + 1) (reply_count test entries) ≡ reply_count test (cond b (entry ∷ put_entries entries) (put_entries entries))
    step rest true e = ap (λ (n : ℕ). cond (test entry.reply) (n + 1) n) rest
    step rest false e = ap (λ b. cond b (reply_count test entries + 1) (reply_count test entries)) (counts entry h.0 e) ∙ rest

-- ---- each put with its end

abbrev pub EndReply : PutEnd → Reply → Type 0
EndReply Stored given = was_written given ≡ true
EndReply (Present at) given = was_present given ≡ true
EndReply (Busy window at) given = was_busy given ≡ true

pub record EndsAmong (puts : List Entry) (event : Event) (end : PutEnd) : Type 0 where
  pub entry : Entry
  pub here : Among entry puts
  pub event_is : entry.event ≡ event
  pub reply_is : EndReply end entry.reply

abbrev pub AllEndAmong : List Entry → List Event → List PutEnd → Type 0
AllEndAmong puts [] [] = Unit {0}
AllEndAmong puts [] (end ∷ ends) = ⊥
AllEndAmong puts (event ∷ events) [] = ⊥
AllEndAmong puts (event ∷ events) (end ∷ ends) = EndsAmong puts event end × AllEndAmong puts events ends

pub end_among : (v w : View CellFooting) (mine : List Entry) → AddsOwn v w mine → (event : Event) → is_put_event event ≡ true → (end : PutEnd) → EndIs (heard w) (length (heard v)) v.number event end → EndsAmong (put_entries mine) event end
end_among v w mine a event put Stored h =
    let entry : Entry = record { who = v.number; event = event; reply = reply.Put h.1 h.2 } in
    record { entry = entry; here = among_puts entry mine put (among_own v w mine a event (reply.Put h.1 h.2) h.0 h.3); event_is = refl; reply_is = refl }
end_among v w mine a event put (Present at) h =
    let entry : Entry = record { who = v.number; event = event; reply = reply.Present } in
    record { entry = entry; here = among_puts entry mine put (among_own v w mine a event reply.Present at h); event_is = refl; reply_is = refl }
end_among v w mine a event put (Busy window at) h =
    let entry : Entry = record { who = v.number; event = event; reply = reply.Busy window } in
    record { entry = entry; here = among_puts entry mine put (among_own v w mine a event (reply.Busy window) at h); event_is = refl; reply_is = refl }

pub all_end_among : (v w : View CellFooting) (mine : List Entry) → AddsOwn v w mine → (opened : Opened) (window : Window) (group : List Filling) (ends : List PutEnd) → EachEnds (heard w) (length (heard v)) v.number (puts_of opened window group) ends
    → AllEndAmong (put_entries mine) (puts_of opened window group) ends
all_end_among v w mine a opened window [] [] h = tt
all_end_among v w mine a opened window [] (end ∷ ends) h = absurd h
all_end_among v w mine a opened window (f ∷ fs) [] h = absurd h
all_end_among v w mine a opened window (f ∷ fs) (end ∷ ends) h = (end_among v w mine a (put_of opened window f) refl end h.0, all_end_among v w mine a opened window fs ends h.1)

-- no put stands twice
abbrev AmongEvents : Event → List Event → Type 0
AmongEvents x [] = ⊥
AmongEvents x (y ∷ ys) = (x ≡ y) ⊎ AmongEvents x ys

index_or : ℕ → Event → ℕ
index_or d (PutData window index digest) = index
index_or d event = d

put_index_has : (opened : Opened) (window : Window) (f : Filling) (group : List Filling) → AmongEvents (put_of opened window f) (puts_of opened window group) → has f.index (group_indices group) ≡ true
put_index_has opened window f [] h = absurd h
put_index_has opened window f (g ∷ gs) (inl same) = ap (λ b. b || has f.index (group_indices gs)) (eq-eqb f.index g.index (indices same))
  where
    indices : put_of opened window f ≡ put_of opened window g → f.index ≡ g.index
    indices e = cc
put_index_has opened window f (g ∷ gs) (inr later) = step (put_index_has opened window f gs later) (eqb f.index g.index)
  where
    step : has f.index (group_indices gs) ≡ true → (b : Bool) → (b || has f.index (group_indices gs)) ≡ true
    step h true = refl
    step h false = h

among_event : (x : Entry) (entries : List Entry) → Among x entries → AmongEvents x.event (events_of entries)
among_event x [] h = h
among_event x (y ∷ ys) (inl same) = inl (ap (λ (z : Entry). z.event) same)
among_event x (y ∷ ys) (inr later) = inr (among_event x ys later)

-- the ends of the others are among the others
ends_on : (opened : Opened) (window : Window) (s : Entry) (entries : List Entry) (f : Filling) (group : List Filling) (ends : List PutEnd) → s.event ≡ put_of opened window f
    → (AmongEvents (put_of opened window f) (puts_of opened window group) → ⊥) → AllEndAmong (s ∷ entries) (puts_of opened window group) ends → AllEndAmong entries (puts_of opened window group) ends
ends_on opened window s entries f [] [] e new h = tt
ends_on opened window s entries f [] (end ∷ ends) e new h = absurd h
ends_on opened window s entries f (g ∷ gs) [] e new h = absurd h
ends_on opened window s entries f (g ∷ gs) (end ∷ ends) e new h = (move h.0, ends_on opened window s entries f gs ends e (λ later. new (inr later)) h.1)
  where
    move : EndsAmong (s ∷ entries) (put_of opened window g) end → EndsAmong entries (put_of opened window g) end
    move m = by m.here
      where
        by : (m.entry ≡ s) ⊎ Among m.entry entries → EndsAmong entries (put_of opened window g) end
        by (inl same) = absurd (new (inl (sym e ∙ ap (λ (z : Entry). z.event) (sym same) ∙ m.event_is)))
        by (inr later) = record { entry = m.entry; here = later; event_is = m.event_is; reply_is = m.reply_is }

abbrev pub AsCounted : List Entry → List Outcome → Type 0
AsCounted entries outcomes =
    (reply_count was_written entries ≡ outcome_count is_written_outcome outcomes) × (reply_count was_present entries ≡ outcome_count is_present_outcome outcomes) × (reply_count was_busy entries ≡ outcome_count is_busy_outcome outcomes)

is_one : (given : Reply) → ((was_written given ≡ true) → (was_present given ≡ false) × (was_busy given ≡ false)) × ((was_present given ≡ true) → (was_written given ≡ false) × (was_busy given ≡ false)) × ((was_busy given ≡ true) → (was_written given ≡ false) × (was_present given ≡ false))
is_one (reply.Put place digest) = (λ e. (refl, refl), λ e. absurd (cc), λ e. absurd (cc))
is_one reply.Present = (λ e. absurd (cc), λ e. (refl, refl), λ e. absurd (cc))
is_one (reply.Busy window) = (λ e. absurd (cc), λ e. absurd (cc), λ e. (refl, refl))
is_one given = (λ e. absurd (cc), λ e. absurd (cc), λ e. absurd (cc))

count_cons : (test : Outcome → Bool) (o : Outcome) (outcomes : List Outcome) → outcome_count test (o ∷ outcomes) ≡ cond (test o) 1 0 + outcome_count test outcomes
count_cons test o outcomes = sum_by-cons (λ (x : Outcome). cond (test x) 1 0) o outcomes

counted_one : (at : ℕ) (s : Entry) (entries : List Entry) (end : PutEnd) (outcomes : List Outcome) → EndReply end s.reply → AsCounted entries outcomes → AsCounted (s ∷ entries) (outcome_at at end ∷ outcomes)
counted_one at s entries Stored outcomes e h =
    let other = (is_one s.reply).0 e in
    let w = count_cons is_written_outcome (outcome_at at Stored) outcomes in
    let p = count_cons is_present_outcome (outcome_at at Stored) outcomes in
    let b = count_cons is_busy_outcome (outcome_at at Stored) outcomes in
    (rw e (omega (arith, h.0)), rw other.0 (omega (arith, h.1)), rw other.1 (omega (arith, h.2)))
counted_one at s entries (Present here) outcomes e h =
    let other = (is_one s.reply).1 e in
    let w = count_cons is_written_outcome (outcome_at at (Present here)) outcomes in
    let p = count_cons is_present_outcome (outcome_at at (Present here)) outcomes in
    let b = count_cons is_busy_outcome (outcome_at at (Present here)) outcomes in
    (rw other.0 (omega (arith, h.0)), rw e (omega (arith, h.1)), rw other.1 (omega (arith, h.2)))
counted_one at s entries (Busy window here) outcomes e h =
    let other = (is_one s.reply).2 e in
    let w = count_cons is_written_outcome (outcome_at at (Busy window here)) outcomes in
    let p = count_cons is_present_outcome (outcome_at at (Busy window here)) outcomes in
    let b = count_cons is_busy_outcome (outcome_at at (Busy window here)) outcomes in
    (rw other.0 (omega (arith, h.0)), rw other.1 (omega (arith, h.1)), rw e (omega (arith, h.2)))

pub all_counted : (opened : Opened) (window : Window) (at : ℕ) (entries : List Entry) (group : List Filling) (ends : List PutEnd) → events_of entries ≡ puts_of opened window group → Differ (group_indices group)
    → AllEndAmong entries (puts_of opened window group) ends → AsCounted entries (map (outcome_at at) ends)
all_counted opened window at [] [] [] e differ h = (refl, refl, refl)
all_counted opened window at [] [] (end ∷ ends) e differ h = absurd h
all_counted opened window at [] (f ∷ fs) ends e differ h = absurd (cc)
all_counted opened window at (s ∷ entries) [] ends e differ h = absurd (cc)
all_counted opened window at (s ∷ entries) (f ∷ fs) [] e differ h = absurd h
all_counted opened window at (s ∷ entries) (f ∷ fs) (end ∷ ends) e differ h =
    counted_one at s entries end (map (outcome_at at) ends) (first h.0) (all_counted opened window at entries fs ends (rests e) differ.1 (ends_on opened window s entries f fs ends (firsts e) new h.1))
  where
    firsts : s.event ∷ events_of entries ≡ put_of opened window f ∷ puts_of opened window fs → s.event ≡ put_of opened window f
    firsts t = cc

    rests : s.event ∷ events_of entries ≡ put_of opened window f ∷ puts_of opened window fs → events_of entries ≡ puts_of opened window fs
    rests t = cc

    new : AmongEvents (put_of opened window f) (puts_of opened window fs) → ⊥
    new there = absurd (let has_it = put_index_has opened window f fs there in let hasnt = differ.0 in cc)

    first : EndsAmong (s ∷ entries) (put_of opened window f) end → EndReply end s.reply
    first m = by m.here
      where
        by : (m.entry ≡ s) ⊎ Among m.entry entries → EndReply end s.reply
        by (inl same) = subst (λ (z : Entry). EndReply end z.reply) same m.reply_is
        by (inr later) = absurd (new (subst (λ (x : Event). AmongEvents x (puts_of opened window fs)) m.event_is (subst (λ (l : List Event). AmongEvents m.entry.event l) (rests e) (among_event m.entry entries later))))
