use Rattle.std.specs.Prelude.{Ok}
use Rattle.std.proofs.Common.{subst, sym}
use Rattle.std.proofs.lemmas.Result.{err_from_is_err_and}
use Rattle.inc_layout.specs.opening.Opening.{IsSoundLayout}
use Rattle.inc_layout.specs.declared.opened.Layout.{Layout}
use Rattle.inc_layout.proofs.opened_file.AcceptedLemmas.{layout_accepted, layout_least}
use Rattle.inc_layout.proofs.opened_file.OpeningSteps.{layout_given, layout_sound, layout_told, no_classes_given, no_part}
use Rattle.inc_layout.proofs.opening.open_shape.Goals as goal

pub returns-in_err-part-clause-answer : goal.returns-in_err-part-clause-answer
returns-in_err-part-clause-answer g c =
    let p = err_from_is_err_and c.from_residual.result c.from_residual.ensures.1 in
    rw (p.1, p.2) (no_part _ _ c.in_err-part.ensures.answer)

pub returns-in_err-classes-clause-answer : goal.returns-in_err-classes-clause-answer
returns-in_err-classes-clause-answer g c =
    let p = err_from_is_err_and c.from_residual-in_err-classes.result c.from_residual-in_err-classes.ensures.1 in
    rw (p.1, p.2) (no_classes_given _ c.in_ok-part.part _ c.in_ok-part.ensures.answer c.in_ok-part.ensures.placed (rw c.in_ok-part.ensures.kept at c.in_err-classes.ensures.fault))

pub returns-clause-answer : goal.returns-clause-answer
returns-clause-answer g c =
    layout_given _ c.in_ok-part.part c.in_ok-classes.classes.items c.laid_out.result c.in_ok-part.ensures.answer c.in_ok-part.ensures.placed
    (rw c.in_ok-part.ensures.kept at c.in_ok-classes.ensures.classes) c.laid_out.ensures.value

pub returns-clause-stands : goal.returns-clause-stands
returns-clause-stands g c = layout_told _ c.laid_out.result (returns-clause-answer g c)

pub returns-clause-areas : goal.returns-clause-areas
returns-clause-areas g c =
    subst (λ (layout : Layout). IsSoundLayout layout) (sym c.laid_out.ensures.value)
    (layout_sound c.in_ok-part.part c.in_ok-classes.classes.items c.in_ok-part.ensures.placed c.in_ok-part.ensures.short c.in_ok-classes.ensures.count)

-- what follows from the answer, whatever it is

pub returns-in_err-part-clause-accepted : goal.returns-in_err-part-clause-accepted
returns-in_err-part-clause-accepted g c = layout_accepted _ _ (returns-in_err-part-clause-answer g c)

pub returns-in_err-part-clause-least : goal.returns-in_err-part-clause-least
returns-in_err-part-clause-least g c = layout_least _ _ (returns-in_err-part-clause-answer g c)

pub returns-in_err-classes-clause-accepted : goal.returns-in_err-classes-clause-accepted
returns-in_err-classes-clause-accepted g c = layout_accepted _ _ (returns-in_err-classes-clause-answer g c)

pub returns-in_err-classes-clause-least : goal.returns-in_err-classes-clause-least
returns-in_err-classes-clause-least g c = layout_least _ _ (returns-in_err-classes-clause-answer g c)

pub returns-clause-accepted : goal.returns-clause-accepted
returns-clause-accepted g c = layout_accepted _ (Ok c.laid_out.result) (returns-clause-answer g c)

pub returns-clause-least : goal.returns-clause-least
returns-clause-least g c = layout_least _ (Ok c.laid_out.result) (returns-clause-answer g c)
