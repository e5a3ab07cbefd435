use Rattle.std.proofs.Common.{◌≡◌, ◌-◌, ◌≤◌, ◌*◌, min, length}
use Rattle.std.specs.Prelude.{IfSome}
use Rattle.inc_entry.specs.Entry.{map_span, area_places}
use Rattle.inc_entry.specs.Spans.{IsInside}
use Rattle.inc_layout.specs.opening.Opening.{HasClasses}
use Rattle.inc_layout.proofs.opening.block_map.read_classes.Given as goal

abbrev pub invariant-loop-index : goal.invariant-loop-index
invariant-loop-index g l = record {
  within : l.index ≤ l.count;
  room : length l.room.items ≡ 10 * min l.count 6550;
  kept : g.B.Backing.kept l.file ≡ g.B.Backing.kept l.fn.file;
  quiet : g.B.Backing.faults l.file ≡ g.B.Backing.faults l.fn.file;
  count : length l.classes.items ≡ l.index;
  classes : IfSome (g.B.Backing.reads (g.B.Backing.kept l.fn.file)) (λ bytes. IsInside (length bytes) (map_span (area_places l.areas)) → l.areas.len ≡ length bytes
      → HasClasses (area_places l.areas) bytes l.index l.classes.items);
}

abbrev pub decreases-loop-index : goal.decreases-loop-index
decreases-loop-index g l = l.count - l.index
