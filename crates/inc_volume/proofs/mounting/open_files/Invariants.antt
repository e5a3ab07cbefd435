use Rattle.std.proofs.Common.{◌≡◌, ℕ, List, length, true}
use Rattle.std.specs.Prelude.{IfSome}
use Rattle.std.specs.List.{list_any}
use Rattle.std.specs.Str.{bytes_eq}
use Rattle.inc_disk.specs.Log.{contents_of}
use Rattle.inc_volume.specs.mounting.Cells.{each_once, names_in}
use Rattle.inc_volume.specs.mounting.Planned.{AreMounted, ArePlanned}
use Rattle.inc_volume.specs.mounting.Targets.{target_files}
use Rattle.inc_volume.proofs.volumes.Differing.{added}
use Rattle.inc_volume.proofs.mounting.open_files.Given as goal

abbrev pub invariant-loop-rest : goal.invariant-loop-rest
invariant-loop-rest g l = record {
  each : added (names_in l.cells.items) (target_files l.rest) ≡ each_once (target_files l.targets);
  mounted : AreMounted (λ disk. g.S.Disk.Disk.states (g.S.Disk.Backing.kept disk)) g.S.Disk.Backing.faults (g.S.Shelf.log (g.S.ReadShelf.kept l.initial.shelf)) (g.S.ReadShelf.out l.shelf) l.cells.items;
  planned : IfSome (g.S.Shelf.log (g.S.ReadShelf.kept l.initial.shelf)) (λ log. ArePlanned (contents_of log) (target_files l.rest));
  within : (name : List ℕ) → list_any (bytes_eq name) (names_in l.cells.items) ≡ true → list_any (bytes_eq name) (target_files l.targets) ≡ true;
  coming : (name : List ℕ) → list_any (bytes_eq name) (target_files l.rest) ≡ true → list_any (bytes_eq name) (target_files l.targets) ≡ true;
  kept : g.S.ReadShelf.kept l.shelf ≡ g.S.ReadShelf.kept l.initial.shelf;
  quiet : g.S.ReadShelf.faults l.shelf ≡ g.S.ReadShelf.faults l.initial.shelf;
}

abbrev pub decreases-loop-rest : goal.decreases-loop-rest
decreases-loop-rest g l = length l.rest
