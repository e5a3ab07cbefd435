use Rattle.std.proofs.Common.{ℕ, List, ◌+◌, ◌-◌, ◌++◌, length, take}
use Rattle.std.specs.Prelude.{map}
use Rattle.inc_model.specs.declared.words.event.Event.{Event}
use Rattle.inc_model.specs.declared.words.event.Event.TheVariants.{Gate}
use Rattle.inc_model.specs.declared.words.file_state.Stage.TheVariants as stage
use Rattle.inc_turn.specs.Locks.{seat_view}
use Rattle.inc_turn.specs.declared.view.View.{View}
use Rattle.inc_cell.specs.declared.machine.CellFooting.{CellFooting}
use Rattle.inc_filling.specs.Grouped.{AreDistinct}
use Rattle.inc_filling.specs.Stands.{stage_among, staged_first}
use Rattle.inc_handle.specs.UnderWay.{FillRuns}
use Rattle.inc_handle.specs.Shared.{HasGoneOn}
use Rattle.inc_handle.proofs.fill.group.open_entries.Given as goal

abbrev pub invariant-loop-at : goal.invariant-loop-at
invariant-loop-at g l = record {
  own : HasGoneOn l.fn.seat l.seat;
  first : (known : CellFooting) (start : View CellFooting) (left : ℕ) (events : List Event) → FillRuns known start l.window (length l.stored + left) (stage_among l.stored stage.Settled) events (seat_view l.fn.seat) → AreDistinct l.stored
      → FillRuns known start l.window (length l.stored - l.at + left) (staged_first (take l.at l.stored) stage.Gated l.stored stage.Settled) (events ++ map (Gate l.window) (take l.at l.stored)) (seat_view l.seat);
}
