use Rattle.std.proofs.Common.{ℕ, List, ◌+◌, ◌-◌, ◌++◌, length, take}
use Rattle.std.specs.Prelude.{map}
use Rattle.inc_model.specs.declared.words.event.Event.{Event}
use Rattle.inc_model.specs.declared.words.event.Event.TheVariants.{PutPlace}
use Rattle.inc_model.specs.declared.words.file_state.Stage.TheVariants as stage
use Rattle.inc_cell.specs.seen.Seen.{Seen}
use Rattle.inc_filling.specs.Grouped.{AreDistinct}
use Rattle.inc_filling.specs.Shown.{ShowsFile, SpottedBytes, with_places}
use Rattle.inc_filling.specs.Stands.{StandsAt, stage_among, staged_first}
use Rattle.inc_filling.proofs.group.write_places.Given as goal

abbrev pub invariant-loop-at : goal.invariant-loop-at
invariant-loop-at g l = record {
  first : (start : Seen) (left : ℕ) (events : List Event) → StandsAt start l.window (length l.stored + left) (stage_among l.stored stage.Written) events l.fn.cell → AreDistinct l.stored
      → StandsAt start l.window (length l.stored - l.at + left) (staged_first (take l.at l.stored) stage.Placed l.stored stage.Written) (events ++ map (PutPlace l.window) (take l.at l.stored)) l.cell;
  shows : (start : Seen) (left : ℕ) (events : List Event) → StandsAt start l.window (length l.stored + left) (stage_among l.stored stage.Written) events l.fn.cell → AreDistinct l.stored
      → (file : SpottedBytes) → ShowsFile l.fn.cell file → ShowsFile l.cell (with_places l.fn.cell.opened file (take l.at l.stored));
}
