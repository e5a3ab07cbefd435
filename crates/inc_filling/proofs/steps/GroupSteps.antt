-- The phases of a group one after another.
use Rattle.std.proofs.Common.{◌≡◌, ℕ, ◌+◌, ◌-◌, ◌<◌, ◌≤◌, List, [], ◌∷◌, ◌++◌, length, Option, None, refl, sym, ap, subst, ◌∙◌, arith, append_assoc}
use Rattle.std.specs.Prelude.{Result, Ok, Err}
use Rattle.std.proofs.Math.Seq.{take-length}
use Rattle.inc_io.specs.Causes.{Rose}
use Rattle.inc_model.specs.relation.State.{Digests}
use Rattle.inc_model.specs.declared.words.event.Event.{Event}
use Rattle.inc_model.specs.declared.words.event.Event.TheVariants.{Claim, Gate, PutPlace, Release, Settle}
use Rattle.inc_model.specs.declared.words.event.Window.{Window}
use Rattle.inc_model.specs.declared.words.file_state.Stage.{Stage}
use Rattle.inc_model.specs.declared.words.file_state.Stage.TheVariants.{Gated, Placed, Settled, Written}
use Rattle.inc_cell.specs.seen.Seen.{Seen, state_now}
use Rattle.inc_filling.specs.Grouped.{AllOpen, EndsEarly, FillsGroup, FrontIsPut, PutsEach, PutsFront, StoresEach, StoresGroup, gates_of_each, group_places, group_indices, places_of_each, puts_among, puts_of, stored_of, stores_of}
use Rattle.inc_filling.specs.Stands.{BreaksOff, ClaimsTo, HasLeft, HasTaken, IsReleased, StandsAt, stage_among, synced_stage}
use Rattle.inc_filling.specs.declared.filling.Filling.{Filling}
use Rattle.inc_filling.specs.declared.stop.FillStop.{FillStop}
use Rattle.inc_filling.specs.declared.stop.FillStop.TheVariants.{DiskFault, Failed, HistoryFull, OutOfMemory}
use Rattle.inc_filling.proofs.lemmas.EventLemmas.{left_less}
use Rattle.inc_filling.proofs.steps.OpenSteps.{all_open, stands_from_now, still_all}
use Rattle.inc_filling.proofs.steps.LoopSteps.{ends_early, gated_leave_all, no_puts, none_of, placed_settle, restaged, stands_as, stands_less}

right : (xs : List Event) → xs ≡ xs ++ []
right [] = refl
right (x ∷ xs) = ap (λ (rest : List Event). x ∷ rest) (right xs)

module _ (start : Seen) (window : Window) (left : ℕ) (events : List Event) (group : List Filling) where
  abbrev base : List Event
  base = events ++ puts_of start.opened window group

  pub front_less : (more : ℕ) (stop : FillStop) (seen : Seen) → left ≤ more → PutsFront start window more events group stop seen → PutsFront start window left events group stop seen
  front_less more stop seen le h = record {
    count = h.count;
    within = h.within;
    ends = record {
      events = h.ends.events;
      taken = h.ends.taken;
      puts_are = h.ends.puts_are;
      left_is = left_less window more left seen le h.ends.left_is;
      is_fault = h.ends.is_fault;
      rose = h.ends.rose;
    };
  }

  pub front_whole : (more : ℕ) (puts : List (ℕ × List ℕ)) (stop : FillStop) (seen : Seen) → left ≤ more → puts ≡ puts_among base → EndsEarly start window more puts stop seen → PutsFront start window left events group stop seen
  front_whole more puts stop seen le e h = record {
    count = length group;
    within = omega arith;
    ends = record {
      events = h.events;
      taken = h.taken;
      puts_are = h.puts_are ∙ e ∙ ap (λ (g : List Filling). puts_among (events ++ puts_of start.opened window g)) (sym (take-length group));
      left_is = left_less window more left seen le h.left_is;
      is_fault = h.is_fault;
      rose = h.rose;
    };
  }

  module _ (open_before : Digests) (stored : List ℕ) where
    abbrev pub placed_events : List Event
    placed_events = base ++ places_of_each window stored

    abbrev pub settled_events : List Event
    settled_events = placed_events ++ Settle window ∷ []

    abbrev pub gated_events : List Event
    gated_events = settled_events ++ gates_of_each window stored

    abbrev pub ended_events : List Event
    ended_events = gated_events ++ Settle window ∷ []

    placed_puts : puts_among placed_events ≡ puts_among base
    placed_puts = no_puts base (places_of_each window stored) (none_of (PutPlace window) (λ i. refl) stored)

    settled_puts : puts_among settled_events ≡ puts_among base
    settled_puts = no_puts placed_events (Settle window ∷ []) refl ∙ placed_puts

    gated_puts : puts_among gated_events ≡ puts_among base
    gated_puts = no_puts settled_events (gates_of_each window stored) (none_of (Gate window) (λ i. refl) stored) ∙ settled_puts

    ended_puts : puts_among ended_events ≡ puts_among base
    ended_puts = no_puts gated_events (Settle window ∷ []) refl ∙ gated_puts

    -- nothing was stored
    pub none_stored : (more : ℕ) (seen : Seen) → left ≤ more → length stored ≡ 0 → PutsEach start window more events group open_before stored seen → StoresEach start window left events group open_before stored seen
    none_stored more seen le e h = empty stored e h
      where
        empty : (xs : List ℕ) → length xs ≡ 0 → PutsEach start window more events group open_before xs seen → StoresEach start window left events group open_before xs seen
        empty [] e h = record {
          stands = stands_as start window left (λ i. None) base (base ++ []) seen (right base) (stands_less start window more left (λ i. None) base seen le (restaged start window more (stage_among [] Written) (λ i. None) base seen (λ i. refl) h.stands));
          stored_are = h.stored_are;
          there = λ i inside. absurd (cc);
        }
        empty (x ∷ xs) e h = absurd (omega arith)

    -- the places come next
    pub to_places : (seen : Seen) → length stored ≤ length group → PutsEach start window (length group + (1 + (length group + (1 + left)))) events group open_before stored seen
        → StandsAt start window (length stored + (1 + (length stored + (1 + left)))) (stage_among stored Written) base seen
    to_places seen le h = stands_less start window (length group + (1 + (length group + (1 + left)))) (length stored + (1 + (length stored + (1 + left)))) (stage_among stored Written) base seen (omega arith) h.stands

    -- the gates come next
    pub to_gates : (seen : Seen) → StandsAt start window (1 + (length stored + (1 + left)) - 1) (λ i. synced_stage (stage_among stored Placed i)) settled_events seen → StandsAt start window (length stored + (1 + left)) (stage_among stored Settled) settled_events seen
    to_gates seen h =
        stands_less start window (1 + (length stored + (1 + left)) - 1) (length stored + (1 + left)) (stage_among stored Settled) settled_events seen (omega arith)
        (restaged start window (1 + (length stored + (1 + left)) - 1) (λ i. synced_stage (stage_among stored Placed i)) (stage_among stored Settled) settled_events seen (placed_settle stored) h)

    pub to_end : (seen : Seen) → (length stored ≡ 0 → ⊥) → StandsAt start window (1 + left - 1) (λ i. synced_stage (stage_among stored Gated i)) ended_events seen → StandsAt start window left (λ i. None) (base ++ stores_of window stored) seen
    to_end seen some h =
        stands_as start window left (λ i. None) ended_events (base ++ stores_of window stored) seen joined
        (stands_less start window (1 + left - 1) left (λ i. None) ended_events seen (omega arith)
        (restaged start window (1 + left - 1) (λ i. synced_stage (stage_among stored Gated i)) (λ i. None) ended_events seen (gated_leave_all stored) h))
      where
        stores_are : (xs : List ℕ) → (length xs ≡ 0 → ⊥) → stores_of window xs ≡ places_of_each window xs ++ (Settle window ∷ (gates_of_each window xs ++ (Settle window ∷ [])))
        stores_are [] some = absurd (some refl)
        stores_are (x ∷ xs) some = refl

        joined : ended_events ≡ base ++ stores_of window stored
        joined =
            append_assoc settled_events (gates_of_each window stored) (Settle window ∷ [])
            ∙ append_assoc placed_events (Settle window ∷ []) (gates_of_each window stored ++ (Settle window ∷ []))
            ∙ append_assoc base (places_of_each window stored) (Settle window ∷ (gates_of_each window stored ++ (Settle window ∷ [])))
            ∙ ap (λ (l : List Event). base ++ l) (sym (stores_are stored some))

    pub place_broke : (more : ℕ) (stop : FillStop) (seen : Seen) → left ≤ more → EndsEarly start window more (puts_among base) stop seen → PutsFront start window left events group stop seen
    place_broke more stop seen le h = front_whole more (puts_among base) stop seen le refl h

    pub settle_broke : (more : ℕ) (stop : FillStop) (seen : Seen) → left ≤ more → BreaksOff start window more settled_events stop seen → PutsFront start window left events group stop seen
    settle_broke more stop seen le h = front_whole left (puts_among base) stop seen (omega arith) refl (ends_early start window more left settled_events (puts_among base) stop seen le settled_puts h)

    pub gate_broke : (more : ℕ) (stop : FillStop) (seen : Seen) → left ≤ more → EndsEarly start window more (puts_among settled_events) stop seen → PutsFront start window left events group stop seen
    gate_broke more stop seen le h = front_whole more (puts_among settled_events) stop seen le settled_puts h

    pub end_broke : (more : ℕ) (stop : FillStop) (seen : Seen) → left ≤ more → BreaksOff start window more ended_events stop seen → PutsFront start window left events group stop seen
    end_broke more stop seen le h = front_whole left (puts_among base) stop seen (omega arith) refl (ends_early start window more left ended_events (puts_among base) stop seen le ended_puts h)

-- ---- the whole group

pub claim_fills : (old new : Seen) (window : Window) (group : List Filling) (stored : List ℕ) (S T : Type 0) (stop : FillStop) → ClaimsTo {T = S} old window (group_places group) (Err stop) new → FillsGroup {T = T} old window group (Err stop) stored new
claim_fills old new window group stored S T DiskFault h = absurd h
claim_fills old new window group stored S T (Failed at) h = h
claim_fills old new window group stored S T (HistoryFull entries claimed) h = h
claim_fills old new window group stored S T OutOfMemory h = h

module _ (old mid new : Seen) (window : Window) (group : List Filling) (stored : List ℕ) (open_before : Digests) (same : open_before ≡ (state_now old).map) (unfailed : (state_now old).failed ≡ None)
    (ends : (start : Seen) (left : ℕ) (stages : ℕ → Option Stage) (events : List Event) → StandsAt start window left stages events mid → 0 < left → ((i : ℕ) → stages i ≡ None) → IsReleased start (events ++ Release window ∷ []) new)
    (taken : (start : Seen) (left : ℕ) (events : List Event) → HasTaken start events mid → HasLeft window left mid → 0 < left → HasTaken start (events ++ Release window ∷ []) new × (new.count ≡ mid.count)) where
  abbrev claimed : List Event
  claimed = Claim window (group_places group) ∷ []

  pub group_ends : {T : Type 0} (result : Result T FillStop) → StoresGroup old window 1 claimed group open_before result stored mid → FillsGroup old window group result stored new
  group_ends (Ok done) h =
      let released = ends old 1 (λ i. None) ((claimed ++ puts_of old.opened window group) ++ stores_of window stored) h.stands (omega arith) (λ i. refl) in
      let later = ends mid 1 (λ i. None) [] (stands_from_now old window 1 (λ i. None) ((claimed ++ puts_of old.opened window group) ++ stores_of window stored) mid h.stands) (omega arith) (λ i. refl) in
      let are : stored ≡ stored_of (state_now old).map (group_indices group) = h.stored_are ∙ ap (λ (m : Digests). stored_of m (group_indices group)) same in
      record {
        released = released;
        stored_are = are;
        there = all_open (state_now old).map (state_now new).map (group_indices group) released.taken.stays
            (subst (λ (l : List ℕ). AllOpen (state_now new).map l) are (still_all (state_now mid).map (state_now new).map stored later.taken.stays h.there));
        unfailed = unfailed;
      }
  group_ends {T} (Err stop) h = subst (λ (s : FillStop). FillsGroup {T = T} old window group (Err s) stored new) (sym h.ends.is_fault) broken
    where
      after : HasTaken old (h.ends.events ++ Release window ∷ []) new × (new.count ≡ mid.count)
      after = taken old 1 h.ends.events h.ends.taken h.ends.left_is (omega arith)

      broken : FrontIsPut old window group new
      broken = record {
        count = h.count;
        within = h.within;
        events = h.ends.events ++ Release window ∷ [];
        taken = after.0;
        puts_are = no_puts h.ends.events (Release window ∷ []) refl ∙ h.ends.puts_are;
        released = (h.ends.events, refl);
        rose = subst (λ (n : ℕ). Rose old.count n) (sym after.1) h.ends.rose;
      }
