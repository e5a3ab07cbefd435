-- What follows a group's puts, phase by phase.
use Rattle.std.proofs.Common.{◌≡◌, ℕ, ◌+◌, ◌-◌, List, [], ◌∷◌, ◌++◌, length, None, refl, ap, ◌∙◌, arith, append_assoc}
use Rattle.std.specs.Prelude.{Result, Ok, Err}
use Rattle.inc_model.specs.declared.words.event.Event.{Event}
use Rattle.inc_model.specs.declared.words.event.Event.TheVariants.{Settle}
use Rattle.inc_model.specs.declared.words.event.Window.{Window}
use Rattle.inc_model.specs.declared.words.file_state.Stage.TheVariants.{Gated, Placed, Settled}
use Rattle.inc_turn.specs.declared.view.View.{View}
use Rattle.inc_cell.specs.declared.machine.CellFooting.{CellFooting}
use Rattle.inc_filling.specs.Grouped.{gates_of_each, places_of_each}
use Rattle.inc_filling.specs.Stands.{stage_among, synced_stage}
use Rattle.inc_filling.specs.declared.stop.FillStop.{FillStop}
use Rattle.inc_filling.proofs.steps.LoopSteps.{gated_leave_all, placed_settle}
use Rattle.inc_handle.specs.UnderWay.{FillRuns, FillStops, FinishSteps, StopsIn, SyncSteps, finish_events}
use Rattle.inc_handle.proofs.fills.Loops.{runs_as, stops_in, stops_more}

module _ (file : CellFooting) (start : View CellFooting) (window : Window) (left : ℕ) (events : List Event) (indices : List ℕ) where
  abbrev pub placed_events : List Event
  placed_events = events ++ places_of_each window indices

  abbrev pub settled_events : List Event
  settled_events = placed_events ++ Settle window ∷ []

  abbrev pub gated_events : List Event
  gated_events = settled_events ++ gates_of_each window indices

  abbrev pub all_events : List Event
  all_events = events ++ finish_events window indices

  abbrev last : List Event
  last = gates_of_each window indices ++ Settle window ∷ []

  placed_whole : placed_events ++ Settle window ∷ last ≡ all_events
  placed_whole = append_assoc events (places_of_each window indices) (Settle window ∷ last)

  settled_whole : settled_events ++ last ≡ all_events
  settled_whole = append_assoc placed_events (Settle window ∷ []) last ∙ placed_whole

  gated_whole : gated_events ++ Settle window ∷ [] ≡ all_events
  gated_whole = append_assoc settled_events (gates_of_each window indices) (Settle window ∷ []) ∙ settled_whole

  pub settled_now : (v : View CellFooting) → FillRuns file start window (1 + (length indices + (1 + left)) - 1) (λ i. synced_stage (stage_among indices Placed i)) settled_events v
      → FillRuns file start window (length indices + (1 + left)) (stage_among indices Settled) settled_events v
  settled_now v h =
      runs_as file start window (1 + (length indices + (1 + left)) - 1) (length indices + (1 + left)) (λ i. synced_stage (stage_among indices Placed i)) (stage_among indices Settled) settled_events settled_events v (omega arith) (placed_settle indices) refl h

  pub finished : (result : Result ℕ FillStop) (v : View CellFooting) → SyncSteps file start window (1 + left - 1) (λ i. synced_stage (stage_among indices Gated i)) (gated_events ++ Settle window ∷ []) result v
      → FinishSteps file start window left all_events result v
  finished (Ok at) v h =
      (runs_as file start window (1 + left - 1) left (λ i. synced_stage (stage_among indices Gated i)) (λ i. None) (gated_events ++ Settle window ∷ []) all_events v (omega arith) (gated_leave_all indices) gated_whole h.0, h.1)
  finished (Err stop) v h = stops_in file start window (1 + left - 1) left (gated_events ++ Settle window ∷ []) [] all_events stop v (omega arith) (right (gated_events ++ Settle window ∷ []) ∙ gated_whole) h
    where
      right : (xs : List Event) → xs ++ [] ≡ xs
      right [] = refl
      right (x ∷ xs) = ap (λ (rest : List Event). x ∷ rest) (right xs)

  pub places_broke : (stop : FillStop) (v : View CellFooting) → StopsIn file start window (1 + (length indices + (1 + left))) placed_events stop v → StopsIn file start window left all_events stop v
  places_broke stop v h = stops_more file start window (1 + (length indices + (1 + left))) left placed_events (Settle window ∷ last) all_events stop v (omega arith) placed_whole h

  pub sync_broke : (stop : FillStop) (v : View CellFooting) → FillStops file start window (1 + (length indices + (1 + left)) - 1) settled_events stop v → StopsIn file start window left all_events stop v
  sync_broke stop v h = stops_in file start window (1 + (length indices + (1 + left)) - 1) left settled_events last all_events stop v (omega arith) settled_whole h

  pub gates_broke : (stop : FillStop) (v : View CellFooting) → StopsIn file start window (1 + left) gated_events stop v → StopsIn file start window left all_events stop v
  gates_broke stop v h = stops_more file start window (1 + left) left gated_events (Settle window ∷ []) all_events stop v (omega arith) gated_whole h
