use Rattle.std.proofs.Common.{◌≡◌, ℕ, vec_len}
use Rattle.std.specs.Prelude.{option_map}
use Rattle.inc_io.specs.Causes.{Joins}
use Rattle.inc_volume.specs.mounting.Cells.{AreDifferent, AreOut, faults_in, names_in, returned}
use Rattle.inc_volume.proofs.mounting.cells.give_back.Given as goal

abbrev pub invariant-loop-cells : goal.invariant-loop-cells
invariant-loop-cells g l = record {
  distinct : AreDifferent (names_in l.cells.items);
  out : AreOut (g.S.ReadShelf.out l.shelf) (names_in l.cells.items);
  logged : option_map (returned (λ disk. g.S.Disk.Disk.states (g.S.Disk.Backing.kept disk)) l.cells.items) (g.S.Shelf.log (g.S.ReadShelf.kept l.shelf))
      ≡ option_map (returned (λ disk. g.S.Disk.Disk.states (g.S.Disk.Backing.kept disk)) l.initial.cells.items) (g.S.Shelf.log (g.S.ReadShelf.kept l.initial.shelf));
  cause : (now : ℕ) → Joins (g.S.ReadShelf.faults l.shelf) (faults_in g.S.Disk.Backing.faults l.cells.items) now
      → Joins (g.S.ReadShelf.faults l.initial.shelf) (faults_in g.S.Disk.Backing.faults l.initial.cells.items) now;
}

abbrev pub decreases-loop-cells : goal.decreases-loop-cells
decreases-loop-cells g l = vec_len l.cells
