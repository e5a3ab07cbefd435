use Rattle.std.proofs.Common.{ℕ, List, ◌+◌, ◌≤◌, None, length, vec_len}
use Rattle.std.specs.Prelude.{vec_capacity}
use Rattle.inc_model.specs.declared.words.event.Event.{Event}
use Rattle.inc_turn.specs.Locks.{seat_view}
use Rattle.inc_turn.specs.declared.view.View.{View}
use Rattle.inc_cell.specs.declared.machine.CellFooting.{CellFooting}
use Rattle.inc_filling.specs.Grouped.{AreDistinct, group_indices}
use Rattle.inc_handle.specs.UnderWay.{FillRuns, PutsFirst}
use Rattle.inc_handle.specs.Shared.{HasGoneOn}
use Rattle.inc_handle.specs.Standing.{AllMayFill}
use Rattle.inc_handle.proofs.fill.group.write_blocks.Given as goal

abbrev pub invariant-loop-filling : goal.invariant-loop-filling
invariant-loop-filling g l = record {
  own : HasGoneOn l.fn.seat l.seat;
  room : (length l.fn.group.items ≤ vec_capacity l.stored) × (length l.fn.group.items ≤ vec_capacity l.ends);
  counts : (vec_len l.stored ≤ length l.yielded) × (vec_len l.ends ≤ length l.yielded);
  first : (known : CellFooting) (start : View CellFooting) (left : ℕ) (events : List Event) → FillRuns known start l.window (length l.fn.group.items + left) (λ i. None) events (seat_view l.fn.seat) → AllMayFill known.opened (group_indices l.fn.group.items)
      → AreDistinct (group_indices l.fn.group.items) → PutsFirst known start l.window left events l.fn.group.items (length l.yielded) l.ends.items l.stored.items (seat_view l.seat);
}
