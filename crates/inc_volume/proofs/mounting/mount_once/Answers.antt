use Rattle.std.proofs.Common.{◌≡◌, ◌∙◌, sym, false}
use Rattle.std.specs.List.{list_any}
use Rattle.std.specs.Str.{bytes_eq}
use Rattle.inc_volume.specs.mounting.Cells.{names_in}
use Rattle.inc_volume.proofs.volumes.MountedCells.{always_err}
use Rattle.inc_volume.proofs.mounting.mount_once.Goals as goal

pub mount_next-requires-clause-new : goal.mount_next-requires-clause-new
mount_next-requires-clause-new g c = sym (rw c.as_slice.ensures.value at c.has_name.ensures.value) ∙ c.if-has_name.false

pub returns-clause-added : goal.returns-clause-added
returns-clause-added g c =
    let new : list_any (bytes_eq c.args.name.now) (names_in c.args.cells.now.items) ≡ false = sym (rw c.as_slice.ensures.value at c.has_name.ensures.value) ∙ c.if-has_name.false in
    rw new c.mount_next.ensures.added

pub returns-clause-new : goal.returns-clause-new
returns-clause-new g c = always_err c.mount_next.result (sym (rw c.as_slice.ensures.value at c.has_name.ensures.value) ∙ c.if-has_name.false)
