-- A group's indices one after another: where its fill stands after so many of them.
use Rattle.std.proofs.Common.{◌≡◌, ℕ, zero, suc, ◌+◌, ◌-◌, ◌<◌, ◌≤◌, Bool, true, false, ◌||◌, cond, eqb, List, [], ◌∷◌, ◌++◌, length, take, drop, Option, Some, None, refl, sym, ap, ◌∙◌, arith, append_assoc, append-nil}
use Rattle.std.specs.Prelude.{map, slice_index}
use Rattle.std.proofs.lemmas.List.{map-append, take_all, take_more}
use Rattle.inc_model.specs.relation.State.{has}
use Rattle.inc_model.specs.declared.words.event.Event.{Event}
use Rattle.inc_model.specs.declared.words.event.Window.{Window}
use Rattle.inc_model.specs.declared.words.file_state.Stage.{Stage}
use Rattle.inc_turn.specs.Views.{heard}
use Rattle.inc_turn.specs.declared.view.View.{View}
use Rattle.inc_cell.specs.declared.machine.CellFooting.{CellFooting}
use Rattle.inc_filling.specs.Grouped.{AreDistinct}
use Rattle.inc_filling.specs.Stands.{stage_among, staged_first, staged_then}
use Rattle.inc_filling.specs.declared.stop.FillStop.{FillStop}
use Rattle.inc_filling.proofs.lemmas.ListLemmas.{has_more_first, has_own}
use Rattle.inc_handle.specs.UnderWay.{FillRuns, FillStops, StopsIn}
use Rattle.inc_handle.proofs.fills.Standing.{stands_less}

-- ---- the same, written in another way

pub runs_as : (file : CellFooting) (start : View CellFooting) (window : Window) (left less : ℕ) (stages others : ℕ → Option Stage) (events same : List Event) (v : View CellFooting) → less ≤ left → ((i : ℕ) → stages i ≡ others i) → events ≡ same
    → FillRuns file start window left stages events v → FillRuns file start window less others same v
runs_as file start window left less stages others events same v le restaged e h = record {
  mine = h.mine;
  adds = h.adds;
  events_are = h.events_are ∙ e;
  going = h.going;
  number_is = h.number_is;
  footing_is = h.footing_is;
  stands = stands_less window left less stages others file.opening file.told (heard v) le restaged h.stands;
}

pub stops_as : (file : CellFooting) (start : View CellFooting) (window : Window) (left less : ℕ) (events same : List Event) (stop : FillStop) (v : View CellFooting) → less ≤ left → events ≡ same
    → FillStops file start window left events stop v → FillStops file start window less same stop v
stops_as file start window left less events same stop v le e h = record {
  mine = h.mine;
  last = h.last;
  adds = h.adds;
  events_are = h.events_are ∙ e;
  going = h.going;
  stopped = h.stopped;
  number_is = h.number_is;
  footing_is = h.footing_is;
  stands = stands_less window left less (λ i. None) (λ i. None) file.opening file.told (heard v) le (λ i. refl) h.stands;
}

-- after a front of these events, and so of longer ones
pub stops_in : (file : CellFooting) (start : View CellFooting) (window : Window) (left less : ℕ) (front rest events : List Event) (stop : FillStop) (v : View CellFooting) → less ≤ left → front ++ rest ≡ events → FillStops file start window left front stop v
    → StopsIn file start window less events stop v
stops_in file start window left less front rest events stop v le e h = record { front = front; rest = rest; whole = e; stops = stops_as file start window left less front front stop v le refl h }

pub stops_more : (file : CellFooting) (start : View CellFooting) (window : Window) (left less : ℕ) (events more all : List Event) (stop : FillStop) (v : View CellFooting) → less ≤ left → events ++ more ≡ all → StopsIn file start window left events stop v
    → StopsIn file start window less all stop v
stops_more file start window left less events more all stop v le e h =
    stops_in file start window left less h.front (h.rest ++ more) all stop v le (sym (append_assoc h.front h.rest more) ∙ ap (λ (es : List Event). es ++ more) h.whole ∙ e) h.stops

-- ---- one index more of those that go on a stage

take_and_rest : (make : ℕ → Event) (n : ℕ) (indices : List ℕ) → map make (take n indices) ++ map make (drop n indices) ≡ map make indices
take_and_rest make zero indices = refl
take_and_rest make (suc n) [] = refl
take_and_rest make (suc n) (i ∷ is) = ap (λ (es : List Event). make i ∷ es) (take_and_rest make n is)

module _ (file : CellFooting) (start : View CellFooting) (window : Window) (indices : List ℕ) (distinct : AreDistinct indices) (from to : Stage) (make : ℕ → Event) where
  abbrev pub FirstRun : ℕ → ℕ → List Event → View CellFooting → Type 0
  FirstRun k left events v = FillRuns file start window (length indices - k + left) (staged_first (take k indices) to indices from) (events ++ map make (take k indices)) v

  pub none_yet : (left : ℕ) (events : List Event) (v : View CellFooting) → FillRuns file start window (length indices + left) (stage_among indices from) events v → FirstRun 0 left events v
  none_yet left events v h = runs_as file start window (length indices + left) (length indices - 0 + left) (stage_among indices from) (stage_among indices from) events (events ++ []) v (omega arith) (λ i. refl) (sym (append-nil events)) h

  -- the next one is still at the stage before
  pub next_is : (k : ℕ) → k < length indices → staged_first (take k indices) to indices from (slice_index indices k) ≡ Some from
  next_is k lt =
      ap (λ b. cond b (Some to) (stage_among indices from (slice_index indices k))) (distinct k lt) ∙ ap (λ b. cond b (Some from) None) (has_own indices k lt)

  moved : (k : ℕ) → k < length indices → (i : ℕ) → staged_then (slice_index indices k) to (staged_first (take k indices) to indices from) i ≡ staged_first (take (k + 1) indices) to indices from i
  moved k lt i = step (eqb i (slice_index indices k)) (has i (take k indices)) ∙ ap (λ b. cond b (Some to) (stage_among indices from i)) (sym (has_more_first i indices k lt))
    where
      step : (b c : Bool) → cond b (Some to) (cond c (Some to) (stage_among indices from i)) ≡ cond (c || b) (Some to) (stage_among indices from i)
      step true true = refl
      step true false = refl
      step false true = refl
      step false false = refl

  more_events : (k : ℕ) (events : List Event) → k < length indices → (events ++ map make (take k indices)) ++ make (slice_index indices k) ∷ [] ≡ events ++ map make (take (k + 1) indices)
  more_events k events lt =
      append_assoc events (map make (take k indices)) (make (slice_index indices k) ∷ [])
      ∙ ap (λ (l : List Event). events ++ l) (sym (map-append make (take k indices) (slice_index indices k ∷ [])) ∙ ap (map make) (sym (take_more indices k 0 lt)))

  pub one_more : (k left : ℕ) (events : List Event) (v : View CellFooting) → k < length indices
      → FillRuns file start window (length indices - k + left - 1) (staged_then (slice_index indices k) to (staged_first (take k indices) to indices from)) ((events ++ map make (take k indices)) ++ make (slice_index indices k) ∷ []) v
      → FirstRun (k + 1) left events v
  one_more k left events v lt h =
      runs_as file start window (length indices - k + left - 1) (length indices - (k + 1) + left) (staged_then (slice_index indices k) to (staged_first (take k indices) to indices from)) (staged_first (take (k + 1) indices) to indices from)
      ((events ++ map make (take k indices)) ++ make (slice_index indices k) ∷ []) (events ++ map make (take (k + 1) indices)) v (omega arith) (moved k lt) (more_events k events lt) h

  pub broke_at : (k left : ℕ) (events : List Event) (stop : FillStop) (v : View CellFooting) → k < length indices
      → FillStops file start window (length indices - k + left - 1) ((events ++ map make (take k indices)) ++ make (slice_index indices k) ∷ []) stop v → StopsIn file start window left (events ++ map make indices) stop v
  broke_at k left events stop v lt h =
      stops_in file start window (length indices - k + left - 1) left ((events ++ map make (take k indices)) ++ make (slice_index indices k) ∷ []) (map make (drop (k + 1) indices)) (events ++ map make indices) stop v (omega arith)
      (ap (λ (es : List Event). es ++ map make (drop (k + 1) indices)) (more_events k events lt)
      ∙ append_assoc events (map make (take (k + 1) indices)) (map make (drop (k + 1) indices))
      ∙ ap (λ (es : List Event). events ++ es) (take_and_rest make (k + 1) indices)) h

  -- all of them
  pub all_moved : (k left : ℕ) (events : List Event) (v : View CellFooting) → length indices ≤ k → FirstRun k left events v → FillRuns file start window left (stage_among indices to) (events ++ map make indices) v
  all_moved k left events v le h =
      let whole : take k indices ≡ indices = take_all k indices le in
      runs_as file start window (length indices - k + left) left (staged_first (take k indices) to indices from) (stage_among indices to) (events ++ map make (take k indices)) (events ++ map make indices) v (omega arith)
      (λ i. ap (λ (l : List ℕ). staged_first l to indices from i) whole ∙ once i) (ap (λ (l : List ℕ). events ++ map make l) whole) h
    where
      once : (i : ℕ) → staged_first indices to indices from i ≡ stage_among indices to i
      once i = step (has i indices)
        where
          step : (b : Bool) → cond b (Some to) (cond b (Some from) None) ≡ cond b (Some to) None
          step true = refl
          step false = refl
