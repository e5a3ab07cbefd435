use Rattle.std.proofs.Common.{◌≡◌, length}
use Rattle.std.specs.List.{list_any}
use Rattle.std.specs.Str.{bytes_eq}
use Rattle.inc_volume.specs.mounting.Cells.{names_in}
use Rattle.inc_volume.proofs.mounting.cells.has_name.Given as goal

abbrev pub invariant-loop-rest : goal.invariant-loop-rest
invariant-loop-rest g l = list_any (bytes_eq l.name) (names_in l.rest) ≡ list_any (bytes_eq l.name) (names_in l.cells)

abbrev pub decreases-loop-rest : goal.decreases-loop-rest
decreases-loop-rest g l = length l.rest
