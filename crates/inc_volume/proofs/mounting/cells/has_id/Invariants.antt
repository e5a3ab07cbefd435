use Rattle.std.proofs.Common.{◌≡◌, length}
use Rattle.std.specs.List.{list_any}
use Rattle.std.specs.Str.{bytes_eq}
use Rattle.inc_volume.specs.mounting.Cells.{ids_in}
use Rattle.inc_volume.proofs.mounting.cells.has_id.Given as goal

abbrev pub invariant-loop-rest : goal.invariant-loop-rest
invariant-loop-rest g l = list_any (bytes_eq l.id) (ids_in l.rest) ≡ list_any (bytes_eq l.id) (ids_in l.cells)

abbrev pub decreases-loop-rest : goal.decreases-loop-rest
decreases-loop-rest g l = length l.rest
