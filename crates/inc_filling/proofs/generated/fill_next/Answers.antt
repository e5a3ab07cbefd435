use Rattle.std.proofs.Common.{sym, subst}
use Rattle.std.specs.Prelude.{Result}
use Rattle.std.proofs.lemmas.Result.{err_from_is_err_and}
use Rattle.inc_loader.specs.PiecesLeft.{left_of}
use Rattle.inc_filling.specs.Filled.{StopsBy}
use Rattle.inc_filling.specs.Generated.{FillsFurther}
use Rattle.inc_filling.specs.declared.stop.FillStop.{FillStop}
use Rattle.inc_filling.proofs.streams.Generated.{goes_further, stops_unmade}
use Rattle.inc_filling.proofs.generated.fill_next.Goals as goal

pub returns-in_err-take_group-clause-fills : goal.returns-in_err-take_group-clause-fills
returns-in_err-take_group-clause-fills g c = λ start all h.
    let written = c.args.totals.now.written in
    let present = c.args.totals.now.present in
    let p = err_from_is_err_and c.from_residual.result c.from_residual.ensures.1 in
    subst (λ (result : Result (Unit {0}) FillStop). FillsFurther start c.args.window all (left_of c.take_group.new.content) written present result c.args.cell.now) (sym p.1)
    (subst (λ (stop : FillStop). StopsBy start c.args.window all stop c.args.cell.now) (sym p.2)
    (stops_unmade start c.args.cell.now c.args.window all (left_of c.args.content.now) written present h))

pub returns-clause-fills : goal.returns-clause-fills
returns-clause-fills g c = λ start all h.
    goes_further start c.args.cell.now c.fill_waiting.new.cell c.args.window all (left_of c.args.content.now) c.take_group.new.waiting.pieces.items (left_of c.take_group.new.content)
    c.args.totals.now.written c.args.totals.now.present c.fill_waiting.new.totals.written c.fill_waiting.new.totals.present c.fill_waiting.result h c.in_ok-take_group.ensures.front
    (c.fill_waiting.ensures.fills start h.gave h.are_in)
