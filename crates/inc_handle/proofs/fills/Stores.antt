-- A whole group: its puts and what follows them, its claim and its release.
use Rattle.std.proofs.Common.{◌≡◌, inl, inr, ℕ, zero, suc, ◌+◌, ◌-◌, ◌<◌, ◌≤◌, Bool, true, false, cond, eqb, List, [], ◌∷◌, ◌++◌, length, take, drop, Option, Some, None, refl, sym, ap, subst, ◌∙◌, arith, append_assoc, append-nil, length-append}
use Rattle.std.specs.Prelude.{Result, Ok, Err, map}
use Rattle.inc_model.specs.laws.HistoryLaws.{own_entries}
use Rattle.inc_model.specs.declared.words.event.Event.{Event}
use Rattle.inc_model.specs.declared.words.event.Event.TheVariants.{Claim, Gate, PutPlace, Settle}
use Rattle.inc_model.specs.declared.words.event.Window.{Window}
use Rattle.inc_model.specs.declared.words.file_state.Stage.TheVariants.{Written}
use Rattle.inc_model.specs.declared.words.reply.Entry.{Entry}
use Rattle.inc_model.specs.declared.words.reply.Reply.{Reply}
use Rattle.inc_model.specs.declared.words.reply.Reply.TheVariants as reply
use Rattle.inc_turn.specs.Lists.{entries_of_turns}
use Rattle.inc_turn.specs.Turns.{AddsOwn, own_of}
use Rattle.inc_turn.specs.Views.{heard}
use Rattle.inc_turn.specs.declared.view.View.{View}
use Rattle.inc_turn.proofs.TurnLemmas.{adds_both}
use Rattle.inc_cell.specs.declared.machine.CellFooting.{CellFooting}
use Rattle.inc_filling.specs.Grouped.{gates_of_each, group_indices, places_of_each, put_of, puts_of, stores_of}
use Rattle.inc_filling.specs.Stands.{events_of, stage_among}
use Rattle.inc_filling.specs.declared.filling.Filling.{Filling}
use Rattle.inc_filling.specs.declared.stop.FillStop.{FillStop}
use Rattle.inc_filling.specs.declared.stop.FillStop.TheVariants as stop
use Rattle.inc_handle.specs.UnderWay.{ClaimSteps, EachEnds, EndsWith, FillRuns, FinishSteps, MayRelease, PutsAll, PutsSome, Releases, StopsIn, StopsWith, finish_events, finish_places, is_stored, release_entry, stored_among}
use Rattle.inc_handle.specs.Fills.{FillsOwn, IsBrokenOwn, IsLastSettle, StoresAll, StoresOwnGroup, StoresSome, claim_event, claim_places, fill_entries, settle_entry, store_events}
use Rattle.inc_handle.specs.declared.fill.window.PutEnd.{PutEnd}
use Rattle.inc_handle.proofs.fills.Loops.{runs_as, stops_as}
use Rattle.inc_handle.proofs.fills.PutLoops.{each_since}
use Rattle.inc_handle.proofs.fills.Puts.{heard_since}
use Rattle.inc_filling.proofs.steps.PutLoop.{length_indices}

few_stored : (indices : List ℕ) (ends : List PutEnd) → length (stored_among indices ends) ≤ length indices
few_stored [] ends = omega arith
few_stored (i ∷ is) [] = omega arith
few_stored (i ∷ is) (end ∷ ends) = step (is_stored end) (few_stored is ends)
  where
    step : (b : Bool) → length (stored_among is ends) ≤ length is → length (cond b (i ∷ stored_among is ends) (stored_among is ends)) ≤ length (i ∷ is)
    step true le = omega arith
    step false le = omega arith

puts_and_rest : (make : Filling → Event) (n : ℕ) (group : List Filling) → map make (take n group) ++ map make (drop n group) ≡ map make group
puts_and_rest make zero group = refl
puts_and_rest make (suc n) [] = refl
puts_and_rest make (suc n) (f ∷ fs) = ap (λ (es : List Event). make f ∷ es) (puts_and_rest make n fs)

take_whole : (n : ℕ) (indices : List ℕ) → length indices ≡ n → take n indices ≡ indices
take_whole zero [] e = refl
take_whole (suc n) [] e = refl
take_whole zero (i ∷ is) e = absurd (omega arith)
take_whole (suc n) (i ∷ is) e = ap (λ (l : List ℕ). i ∷ l) (take_whole n is (omega arith))

take_group : (n : ℕ) (group : List Filling) → length group ≡ n → take n group ≡ group
take_group zero [] e = refl
take_group (suc n) [] e = refl
take_group zero (f ∷ fs) e = absurd (omega arith)
take_group (suc n) (f ∷ fs) e = ap (λ (l : List Filling). f ∷ l) (take_group n fs (omega arith))

-- ---- the blocks that were put

module _ (file : CellFooting) (start : View CellFooting) (window : Window) (left : ℕ) (events : List Event) (group : List Filling) (ends : List PutEnd) where
  abbrev puts : List Event
  puts = puts_of file.opened window group

  abbrev pub enough : ℕ
  enough = finish_places (length group) left

  pub puts_broke : (stored : List ℕ) (why : FillStop) (v : View CellFooting) → PutsSome file start window enough events group ends stored why v → StoresSome file start window left events group ends stored why v
  puts_broke stored why v h =
      let front = events ++ puts_of file.opened window (take (length ends + 1) group) in
      let rest = puts_of file.opened window (drop (length ends + 1) group) ++ stores_of window stored in
      let whole : front ++ rest ≡ store_events file window events group stored =
      sym (append_assoc front (puts_of file.opened window (drop (length ends + 1) group)) (stores_of window stored))
      ∙ ap (λ (es : List Event). es ++ stores_of window stored)
      (append_assoc events (puts_of file.opened window (take (length ends + 1) group)) (puts_of file.opened window (drop (length ends + 1) group)) ∙ ap (λ (es : List Event). events ++ es) (puts_and_rest (put_of file.opened window) (length ends + 1) group)) in
      record {
        stops = record { front = front; rest = rest; whole = whole; stops = stops_as file start window enough left front front why v (omega arith) refl h.stops };
        covers = inr refl;
        each = h.each;
        stored_are = h.stored_are;
      }

  pub none_stored : (stored : List ℕ) (v : View CellFooting) → PutsAll file start window enough events group ends stored v → stored ≡ [] → StoresAll file start window left events group 0 ends stored v
  none_stored stored v h none = record {
    runs = runs_as file start window enough left (stage_among stored Written) (λ i. None) (events ++ puts) (store_events file window events group stored) v (omega arith) (λ i. ap (λ (l : List ℕ). stage_among l Written i) none)
        (sym (append-nil (events ++ puts)) ∙ ap (λ (l : List ℕ). (events ++ puts) ++ stores_of window l) (sym none)) h.runs;
    each = h.each;
    stored_are = h.stored_are;
    settled = inl none;
  }

  pub to_finish : (stored : List ℕ) (v : View CellFooting) → PutsAll file start window enough events group ends stored v → FillRuns file start window (finish_places (length stored) left) (stage_among stored Written) (events ++ puts) v
  to_finish stored v h =
      let few = few_stored (group_indices group) ends in
      let same = ap (λ (l : List ℕ). length l) h.stored_are in
      runs_as file start window enough (finish_places (length stored) left) (stage_among stored Written) (stage_among stored Written) (events ++ puts) (events ++ puts) v (omega (arith, few, same, length_indices group)) (λ i. refl) refl h.runs

  finish_is : (stored : List ℕ) → 0 < length stored → (events ++ puts) ++ finish_events window stored ≡ store_events file window events group stored
  finish_is [] some = absurd (omega arith)
  finish_is (i ∷ is) some = refl

  pub finish_stores : (stored : List ℕ) (v w : View CellFooting) (mine : List Entry) → AddsOwn v w mine → PutsAll file start window enough events group ends stored v → 0 < length stored → (result : Result ℕ FillStop)
      → FinishSteps file start window left ((events ++ puts) ++ finish_events window stored) result w → StoresOwnGroup file start window left events group result ends stored w
  finish_stores stored v w mine adds h some (Ok at) f = record {
    runs = subst (λ (es : List Event). FillRuns file start window left (λ i. None) es w) (finish_is stored some) f.0;
    each = each_since v w mine (length (heard start)) window.who puts ends adds h.each;
    stored_are = h.stored_are;
    settled = inr f.1;
  }
  finish_stores stored v w mine adds h some (Err why) f = record {
    stops = subst (λ (es : List Event). StopsIn file start window left es why w) (finish_is stored some) f;
    covers = inl h.count;
    each = subst (λ (g : List Filling). EachEnds (heard w) (length (heard start)) window.who (puts_of file.opened window g) ends) (sym (take_group (length ends) group (sym h.count)))
        (each_since v w mine (length (heard start)) window.who puts ends adds h.each);
    stored_are = h.stored_are ∙ ap (λ (l : List ℕ). stored_among l ends) (sym (take_whole (length ends) (group_indices group) (length_indices group ∙ sym h.count)));
  }

-- ---- the whole of it

length_of : {A B : Type 0} (f : A → B) (xs : List A) → length (map f xs) ≡ length xs
length_of f [] = refl
length_of f (x ∷ xs) = ap suc (length_of f xs)

counted : (file : CellFooting) (window : Window) (group : List Filling) (stored : List ℕ) (mine : List Entry) → length stored ≤ length group → events_of mine ≡ store_events file window (claim_event window (length group) ∷ []) group stored
    → length mine + 1 ≡ fill_entries (length stored) (length group - length stored)
counted file window group [] mine le e =
    let all : length mine ≡ length ((claim_event window (length group) ∷ puts_of file.opened window group) ++ []) = sym (length_of (λ (entry : Entry). entry.event) mine) ∙ ap (λ (es : List Event). length es) e in
    omega (arith, all, length-append (claim_event window (length group) ∷ puts_of file.opened window group) [], length_of (put_of file.opened window) group)
counted file window group (i ∷ is) mine le e =
    let first = claim_event window (length group) ∷ puts_of file.opened window group in
    let last = gates_of_each window (i ∷ is) ++ (Settle window ∷ []) in
    let all : length mine ≡ length (first ++ (places_of_each window (i ∷ is) ++ (Settle window ∷ last))) = sym (length_of (λ (entry : Entry). entry.event) mine) ∙ ap (λ (es : List Event). length es) e in
    omega (
      arith,
      all,
      length-append first (places_of_each window (i ∷ is) ++ (Settle window ∷ last)),
      length-append (places_of_each window (i ∷ is)) (Settle window ∷ last),
      length-append (gates_of_each window (i ∷ is)) (Settle window ∷ []),
      length_of (put_of file.opened window) group,
      length_of (PutPlace window) (i ∷ is),
      length_of (Gate window) (i ∷ is),
    )

own_told : (who : ℕ) (turns : List (Option Entry)) → own_entries who (entries_of_turns turns) ≡ own_of who turns
own_told who [] = refl
own_told who (None ∷ turns) = own_told who turns
own_told who (Some entry ∷ turns) = step (eqb entry.who who) (own_told who turns)
  where
    step : (b : Bool) → own_entries who (entries_of_turns turns) ≡ own_of who turns → cond b (entry ∷ own_entries who (entries_of_turns turns)) (own_entries who (entries_of_turns turns)) ≡ cond b (entry ∷ []) [] ++ own_of who turns
    step true rest = ap (λ (es : List Entry). entry ∷ es) rest
    step false rest = rest

no_full : (given : Reply) (entries claimed : ℕ) → StopsWith given (stop.HistoryFull entries claimed) → ⊥
no_full (reply.Failed at) entries claimed h = h
no_full (reply.Fault count) entries claimed h = h
no_full given entries claimed h = h

no_memory : (given : Reply) → StopsWith given stop.OutOfMemory → ⊥
no_memory (reply.Failed at) h = h
no_memory (reply.Fault count) h = h
no_memory given h = h

module _ (file : CellFooting) (v : View CellFooting) (window : Window) (group : List Filling) (ends : List PutEnd) (stored : List ℕ) where
  abbrev claimed : List Event
  claimed = claim_event window (length group) ∷ []

  pub may_release : (result : Result ℕ FillStop) (mid : View CellFooting) → StoresOwnGroup file v window 1 claimed group result ends stored mid → MayRelease file window mid
  may_release (Ok at) mid h = record { left = 1; some = omega arith; number_is = h.runs.number_is; footing_is = h.runs.footing_is; stands = h.runs.stands }
  may_release (Err why) mid h = record { left = 1; some = omega arith; number_is = h.stops.stops.number_is; footing_is = h.stops.stops.footing_is; stands = h.stops.stops.stands }

  last_settle : (mid w : View CellFooting) (at : ℕ) → mid.number ≡ window.who → AddsOwn mid w (release_entry window ∷ []) → EndsWith (heard mid) at (settle_entry window) → IsLastSettle (heard w) window at
  last_settle mid w at number adds h =
      record {
        here = record {
          before = h.before;
          after = entries_of_turns adds.since;
          cut = grew_to ∙ ap (λ (es : List Entry). es ++ entries_of_turns adds.since) h.cut ∙ append_assoc h.before (settle_entry window ∷ []) (entries_of_turns adds.since);
          place = h.place;
        };
        last = own_told window.who adds.since ∙ ap (λ (who : ℕ). own_of who adds.since) (sym number) ∙ adds.own;
      }
    where
      grew_to : heard w ≡ heard mid ++ entries_of_turns adds.since
      grew_to = heard_since mid w (release_entry window ∷ []) adds

  broken : (why : FillStop) (mid w : View CellFooting) → StoresSome file v window 1 claimed group ends stored why mid → Releases file window mid w → IsBrokenOwn file v window group ends stored why w
  broken why mid w h r = record {
    mine = h.stops.stops.mine;
    last = h.stops.stops.last;
    rest = h.stops.rest;
    adds = adds_both v mid w (h.stops.stops.mine ++ h.stops.stops.last ∷ []) (release_entry window ∷ []) h.stops.stops.adds r.adds;
    events_are = ap (λ (es : List Event). es ++ h.stops.rest) h.stops.stops.events_are ∙ h.stops.whole;
    going = h.stops.stops.going;
    stopped = h.stops.stops.stopped;
    covers = elim h.covers [
      | inl e ↦ inl e
      | inr e ↦ inr (h.stops.stops.events_are ∙ e)
    ];
    each = each_since mid w (release_entry window ∷ []) (length (heard v)) window.who (puts_of file.opened window (take (length ends) group)) ends r.adds h.each;
    stored_are = h.stored_are;
    begins = r.begins;
    legal = r.legal;
  }

  pub fills_own : (result : Result ℕ FillStop) (mid w : View CellFooting) → StoresOwnGroup file v window 1 claimed group result ends stored mid → Releases file window mid w → FillsOwn file v window group result ends stored w
  fills_own (Ok at) mid w h r = record {
    mine = h.runs.mine;
    adds = adds_both v mid w h.runs.mine (release_entry window ∷ []) h.runs.adds r.adds;
    events_are = h.runs.events_are;
    count_is = counted file window group stored h.runs.mine (omega (arith, few_stored (group_indices group) ends, ap (λ (l : List ℕ). length l) h.stored_are, length_indices group)) h.runs.events_are;
    going = h.runs.going;
    each = each_since mid w (release_entry window ∷ []) (length (heard v)) window.who (puts_of file.opened window group) ends r.adds h.each;
    stored_are = h.stored_are;
    settled = elim h.settled [
      | inl none ↦ inl none
      | inr e ↦ inr (last_settle mid w at h.runs.number_is r.adds e)
    ];
    begins = r.begins;
    legal = r.legal;
  }
  fills_own (Err stop.DiskFault) mid w h r = broken stop.DiskFault mid w h r
  fills_own (Err (stop.Failed at)) mid w h r = inr (broken (stop.Failed at) mid w h r)
  fills_own (Err (stop.HistoryFull entries places)) mid w h r = absurd (no_full h.stops.stops.last.reply entries places h.stops.stops.stopped)
  fills_own (Err stop.OutOfMemory) mid w h r = absurd (no_memory h.stops.stops.last.reply h.stops.stops.stopped)

  -- a claim that fails
  pub unclaimed : (T : Type 0) (places : ℕ) (why : FillStop) (w : View CellFooting) → places ≡ claim_places (length group) → ClaimSteps {T = T} file v window places (Err why) w → FillsOwn file v window group (Err why) ends stored w
  unclaimed T places why w e h = by why (subst (λ (n : ℕ). ClaimSteps {T = T} file v window n (Err why) w) e h)
    where
      by : (why : FillStop) → ClaimSteps {T = T} file v window (claim_places (length group)) (Err why) w → FillsOwn file v window group (Err why) ends stored w
      by stop.DiskFault h = absurd h
      by (stop.Failed at) h = inl h
      by (stop.HistoryFull entries claimed) h = h
      by stop.OutOfMemory h = h

  pub claimed_now : (places : ℕ) (mid : View CellFooting) → places ≡ claim_places (length group) → 0 < length group → FillRuns file v window places (λ i. None) (Claim window places ∷ []) mid
      → FillRuns file v window (length group + finish_places (length group) 1) (λ i. None) claimed mid
  claimed_now places mid e some h =
      runs_as file v window places (length group + finish_places (length group) 1) (λ i. None) (λ i. None) (Claim window places ∷ []) claimed mid (omega arith) (λ i. refl) (ap (λ (n : ℕ). Claim window n ∷ []) e) h
