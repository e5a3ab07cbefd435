use Rattle.std.proofs.Common.{sym, subst}
use Rattle.inc_filling.specs.Fillable.{IsFillable}
use Rattle.inc_filling_tests.proofs.streams.cell_on.Goals as goal

pub returns-in-Ok : goal.returns-in-Ok
returns-in-Ok c = record { fillable = subst IsFillable (sym c.in-Ok.ensures.value) (c.new_cells_are_fillable.ensures.fresh _ _ _ _ c.requires.sound) }
