use Rattle.std.proofs.Common.{◌≡◌, None, sym, subst}
use Rattle.inc_layout.specs.declared.opened.Opened.{Opened}
use Rattle.inc_filling.specs.Pieces.{AreTaken}
use Rattle.inc_handle.specs.Outcomes.{fill_refusal}
use Rattle.inc_handle.proofs.told.Taken.{permitted_taken}
use Rattle.inc_handle.proofs.fill.filler.fill_permitted.Goals as goal

pub fill_taken-requires-clause-taken : goal.fill_taken-requires-clause-taken
fill_taken-requires-clause-taken g c =
    subst (λ (o : Opened). AreTaken o c.args.pieces.now) (sym c.args.file.now.known_is)
    (permitted_taken c.args.permitted c.args.file.now.begun.value.opened c.args.pieces.now c.requires.of_file
    (subst (λ (o : Opened). fill_refusal c.args.permitted o c.args.pieces.now ≡ None) c.args.file.now.known_is (sym c.in_default.ensures.value)))
