use Rattle.std.proofs.Common.{sym, subst, ap}
use Rattle.inc_cell.specs.seen.Seen.{Seen}
use Rattle.inc_filling.specs.Fillable.{IsFillable}
use Rattle.inc_filling.proofs.lemmas.NewLemmas.{new_fillable}
use Rattle.inc_cmd.proofs.filling.NewCells.{no_content}
use Rattle.inc_cmd.proofs.commands.big.on_disk.fill_mounted.Goals as goal

pub fill_cell-requires-clause-fillable : goal.fill_cell-requires-clause-fillable
fill_cell-requires-clause-fillable g c = subst (λ (seen : Seen). IsFillable seen) (sym c.in-Ok.ensures.value) (new_fillable _ _ _ _ c.requires.sound)

pub returns-in-Err-clause-fills : goal.returns-in-Err-clause-fills
returns-in-Err-clause-fills g c = no_content _ _ _ _ (ap (λ mounted. g.D.Disk.states (g.D.Backing.kept mounted.disk)) c.in-Err.ensures.back)
