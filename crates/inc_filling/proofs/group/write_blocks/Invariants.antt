use Rattle.std.proofs.Common.{◌≡◌, ℕ, List, ◌+◌, ◌≤◌, length, take, None}
use Rattle.std.specs.Prelude.{vec_capacity}
use Rattle.inc_model.specs.declared.words.event.Event.{Event}
use Rattle.inc_cell.specs.seen.Seen.{Seen, state_now}
use Rattle.inc_filling.specs.Grouped.{AllMayBeFilled, AreDistinct, group_indices}
use Rattle.inc_filling.specs.Shown.{ShowsFile, SpottedBytes, with_blocks}
use Rattle.inc_filling.specs.Stands.{StandsAt}
use Rattle.inc_filling.proofs.steps.PutLoop.{PutsFirst}
use Rattle.inc_filling.proofs.group.write_blocks.Given as goal

abbrev pub invariant-loop-at : goal.invariant-loop-at
invariant-loop-at g l = record {
  few : length l.stored.items ≤ l.at;
  room : vec_capacity l.stored ≡ vec_capacity l.fn.stored;
  first : (start : Seen) (left : ℕ) (events : List Event) → StandsAt start l.window (length l.group + left) (λ i. None) events l.fn.cell → AllMayBeFilled (state_now start) (group_indices l.group) → AreDistinct (group_indices l.group)
      → PutsFirst start l.window left events l.group (state_now l.fn.cell).map l.at l.stored.items l.cell;
  shows : (start : Seen) (left : ℕ) (events : List Event) → StandsAt start l.window (length l.group + left) (λ i. None) events l.fn.cell → AllMayBeFilled (state_now start) (group_indices l.group) → AreDistinct (group_indices l.group)
      → (file : SpottedBytes) → ShowsFile l.fn.cell file → ShowsFile l.cell (with_blocks l.fn.cell.opened (state_now l.fn.cell).map file (take l.at l.group));
}
