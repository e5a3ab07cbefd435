use Rattle.std.proofs.Common.{◌≡◌, ℕ, ◌+◌, ◌-◌, List, length}
use Rattle.inc_entry.specs.Entry.{entry_at, area_places}
use Rattle.inc_layout.specs.opening.Opening.{HasClasses}
use Rattle.inc_entry.specs.Stored.{part}
use Rattle.inc_layout.proofs.opening.block_map.add_classes.Given as goal

abbrev pub invariant-loop-index : goal.invariant-loop-index
invariant-loop-index l = record {
  count : length l.classes.items ≡ length l.fn.classes.items + (l.index - l.first);
  classes : (bytes : List ℕ) → l.piece ≡ part (length l.piece) (entry_at (area_places l.areas) l.first) bytes → l.areas.len ≡ length bytes
      → HasClasses (area_places l.areas) bytes l.first l.fn.classes.items → HasClasses (area_places l.areas) bytes l.index l.classes.items;
}
