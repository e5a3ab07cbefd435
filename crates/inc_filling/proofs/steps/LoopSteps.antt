-- A group's blocks one after another: where the group stands after so many of them.
use Rattle.std.proofs.Common.{◌≡◌, inl, inr, ℕ, ◌+◌, ◌-◌, ◌<◌, ◌≤◌, Bool, true, false, ◌||◌, cond, eqb, List, [], ◌∷◌, ◌++◌, length, take, Option, Some, None, refl, sym, ap, subst, ◌∙◌, arith, append_assoc}
use Rattle.std.specs.Prelude.{map, slice_index}
use Rattle.std.proofs.lemmas.List.{map-append, take_all, take_more}
use Rattle.std.proofs.lemmas.List.Elements.{filter_map-append}
use Rattle.inc_model.specs.relation.State.{flight_row, has}
use Rattle.inc_model.specs.declared.words.event.Event.{Event}
use Rattle.inc_model.specs.declared.words.event.Window.{Window}
use Rattle.inc_model.specs.declared.words.file_state.Stage.{Stage}
use Rattle.inc_model.specs.declared.words.file_state.Stage.TheVariants.{Gated, Placed, Settled}
use Rattle.inc_cell.specs.seen.Seen.{Seen, state_now}
use Rattle.inc_filling.specs.Grouped.{AreDistinct, EndsEarly, put_in, puts_among}
use Rattle.inc_filling.specs.Stands.{BreaksOff, FliesAs, StandsAt, stage_among, staged_first, staged_then, synced_stage}
use Rattle.inc_filling.specs.declared.stop.FillStop.{FillStop}
use Rattle.inc_filling.proofs.lemmas.EventLemmas.{left_less}
use Rattle.inc_filling.proofs.lemmas.ListLemmas.{has_more_first, has_own}

-- ---- the same stages, written in another way; fewer places

pub restaged : (start : Seen) (window : Window) (left : ℕ) (stages others : ℕ → Option Stage) (events : List Event) (seen : Seen) → ((i : ℕ) → stages i ≡ others i) → StandsAt start window left stages events seen → StandsAt start window left others events seen
restaged start window left stages others events seen same h = record {
  taken = h.taken;
  left_is = h.left_is;
  flies = λ i. subst (λ (o : Option Stage). FliesAs window o (flight_row i (state_now seen).flight)) (same i) (h.flies i);
  kept = λ i inside. elim (h.kept i inside) [
    | inl acked ↦ inl acked
    | inr gated ↦ inr (sym (same i) ∙ gated)
  ];
  sound = h.sound;
  count = h.count;
}

pub stands_less : (start : Seen) (window : Window) (left less : ℕ) (stages : ℕ → Option Stage) (events : List Event) (seen : Seen) → less ≤ left → StandsAt start window left stages events seen → StandsAt start window less stages events seen
stands_less start window left less stages events seen le h = record {
  taken = h.taken;
  left_is = left_less window left less seen le h.left_is;
  flies = h.flies;
  kept = h.kept;
  sound = h.sound;
  count = h.count;
}

-- the same events, written in another way
pub stands_as : (start : Seen) (window : Window) (left : ℕ) (stages : ℕ → Option Stage) (events others : List Event) (seen : Seen) → events ≡ others → StandsAt start window left stages events seen → StandsAt start window left stages others seen
stands_as start window left stages events others seen e h = subst (λ (l : List Event). StandsAt start window left stages l seen) e h

-- ---- a step that breaks off

pub ends_early : (start : Seen) (window : Window) (left less : ℕ) (events : List Event) (puts : List (ℕ × List ℕ)) (stop : FillStop) (seen : Seen) → less ≤ left → puts_among events ≡ puts → BreaksOff start window left events stop seen → EndsEarly start window less puts stop seen
ends_early start window left less events puts stop seen le e h = record {
  events = events;
  taken = h.taken;
  puts_are = e;
  left_is = left_less window left less seen le h.left_is;
  is_fault = h.is_fault;
  rose = h.rose;
}

-- events that are no puts
pub no_puts : (events more : List Event) → puts_among more ≡ [] → puts_among (events ++ more) ≡ puts_among events
no_puts events more none = filter_map-append put_in events more ∙ ap (λ (l : List (ℕ × List ℕ)). puts_among events ++ l) none ∙ right (puts_among events)
  where
    right : (xs : List (ℕ × List ℕ)) → xs ++ [] ≡ xs
    right [] = refl
    right (x ∷ xs) = ap (λ (rest : List (ℕ × List ℕ)). x ∷ rest) (right xs)

skipped : (event : Event) (rest : List Event) → put_in event ≡ None → puts_among (event ∷ rest) ≡ puts_among rest
skipped event rest e = rw e refl

pub none_of : (make : ℕ → Event) → ((i : ℕ) → put_in (make i) ≡ None) → (indices : List ℕ) → puts_among (map make indices) ≡ []
none_of make none [] = refl
none_of make none (i ∷ is) = skipped (make i) (map make is) (none i) ∙ none_of make none is

-- ---- one index more of those that go on a stage

module _ (start : Seen) (window : Window) (indices : List ℕ) (distinct : AreDistinct indices) (from to : Stage) (make : ℕ → Event) (none : (i : ℕ) → put_in (make i) ≡ None) where
  abbrev FirstStand : ℕ → ℕ → List Event → Seen → Type 0
  FirstStand k left events seen = StandsAt start window (length indices - k + left) (staged_first (take k indices) to indices from) (events ++ map make (take k indices)) seen

  pub none_yet : (left : ℕ) (events : List Event) (seen : Seen) → StandsAt start window (length indices + left) (stage_among indices from) events seen → FirstStand 0 left events seen
  none_yet left events seen h =
      stands_less start window (length indices + left) (length indices - 0 + left) (stage_among indices from) (events ++ []) seen (omega arith)
      (stands_as start window (length indices + left) (stage_among indices from) events (events ++ []) seen (right events) h)
    where
      right : (xs : List Event) → xs ≡ xs ++ []
      right [] = refl
      right (x ∷ xs) = ap (λ (rest : List Event). x ∷ rest) (right xs)

  -- the next one is still at the stage before
  pub next_is : (k : ℕ) → k < length indices → staged_first (take k indices) to indices from (slice_index indices k) ≡ Some from
  next_is k lt =
      ap (λ b. cond b (Some to) (stage_among indices from (slice_index indices k))) (distinct k lt) ∙ ap (λ b. cond b (Some from) None) (has_own indices k lt)

  moved : (k : ℕ) → k < length indices → (i : ℕ) → staged_then (slice_index indices k) to (staged_first (take k indices) to indices from) i ≡ staged_first (take (k + 1) indices) to indices from i
  moved k lt i = step (eqb i (slice_index indices k)) (has i (take k indices)) ∙ ap (λ b. cond b (Some to) (stage_among indices from i)) (sym (has_more_first i indices k lt))
    where
      step : (b c : Bool) → cond b (Some to) (cond c (Some to) (stage_among indices from i)) ≡ cond (c || b) (Some to) (stage_among indices from i)
      step true true = refl
      step true false = refl
      step false true = refl
      step false false = refl

  more_events : (k : ℕ) (events : List Event) → k < length indices → (events ++ map make (take k indices)) ++ make (slice_index indices k) ∷ [] ≡ events ++ map make (take (k + 1) indices)
  more_events k events lt =
      append_assoc events (map make (take k indices)) (make (slice_index indices k) ∷ [])
      ∙ ap (λ (l : List Event). events ++ l) (sym (map-append make (take k indices) (slice_index indices k ∷ [])) ∙ ap (map make) (sym (take_more indices k 0 lt)))

  pub one_more : (k left : ℕ) (events : List Event) (seen : Seen) → k < length indices
      → StandsAt start window (length indices - k + left - 1) (staged_then (slice_index indices k) to (staged_first (take k indices) to indices from)) ((events ++ map make (take k indices)) ++ make (slice_index indices k) ∷ []) seen
      → FirstStand (k + 1) left events seen
  one_more k left events seen lt h =
      stands_less start window (length indices - k + left - 1) (length indices - (k + 1) + left) (staged_first (take (k + 1) indices) to indices from) (events ++ map make (take (k + 1) indices)) seen (omega arith)
      (stands_as start window (length indices - k + left - 1) (staged_first (take (k + 1) indices) to indices from) ((events ++ map make (take k indices)) ++ make (slice_index indices k) ∷ []) (events ++ map make (take (k + 1) indices)) seen (more_events k events lt)
      (restaged start window (length indices - k + left - 1) (staged_then (slice_index indices k) to (staged_first (take k indices) to indices from)) (staged_first (take (k + 1) indices) to indices from)
      ((events ++ map make (take k indices)) ++ make (slice_index indices k) ∷ []) seen (moved k lt) h))

  pub broke_at : (k left : ℕ) (events : List Event) (stop : FillStop) (seen : Seen) → k < length indices
      → BreaksOff start window (length indices - k + left - 1) ((events ++ map make (take k indices)) ++ make (slice_index indices k) ∷ []) stop seen → EndsEarly start window left (puts_among events) stop seen
  broke_at k left events stop seen lt h =
      ends_early start window (length indices - k + left - 1) left ((events ++ map make (take k indices)) ++ make (slice_index indices k) ∷ []) (puts_among events) stop seen (omega arith)
      (ap puts_among (more_events k events lt) ∙ no_puts events (map make (take (k + 1) indices)) (none_of make none (take (k + 1) indices))) h

  -- all of them
  pub all_moved : (k left : ℕ) (events : List Event) (seen : Seen) → length indices ≤ k → FirstStand k left events seen → StandsAt start window left (stage_among indices to) (events ++ map make indices) seen
  all_moved k left events seen le h =
      let whole : take k indices ≡ indices = take_all k indices le in
      restaged start window left (staged_first indices to indices from) (stage_among indices to) (events ++ map make indices) seen once
      (stands_less start window (length indices - k + left) left (staged_first indices to indices from) (events ++ map make indices) seen (omega arith)
      (subst (λ (l : List ℕ). StandsAt start window (length indices - k + left) (staged_first l to indices from) (events ++ map make l) seen) whole h))
    where
      once : (i : ℕ) → staged_first indices to indices from i ≡ stage_among indices to i
      once i = step (has i indices)
        where
          step : (b : Bool) → cond b (Some to) (cond b (Some from) None) ≡ cond b (Some to) None
          step true = refl
          step false = refl

-- ---- syncs

pub placed_settle : (indices : List ℕ) (i : ℕ) → synced_stage (stage_among indices Placed i) ≡ stage_among indices Settled i
placed_settle indices i = step (has i indices)
  where
    step : (b : Bool) → synced_stage (cond b (Some Placed) None) ≡ cond b (Some Settled) None
    step true = refl
    step false = refl

pub gated_leave_all : (indices : List ℕ) (i : ℕ) → synced_stage (stage_among indices Gated i) ≡ None
gated_leave_all indices i = step (has i indices)
  where
    step : (b : Bool) → synced_stage (cond b (Some Gated) None) ≡ None
    step true = refl
    step false = refl
