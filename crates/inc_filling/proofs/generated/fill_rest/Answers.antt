use Rattle.std.proofs.Common.{sym, subst}
use Rattle.std.specs.Prelude.{Result}
use Rattle.std.proofs.lemmas.Result.{err_from_is_err_and}
use Rattle.inc_loader.specs.PiecesLeft.{left_of}
use Rattle.inc_filling.specs.Filled.{StopsBy}
use Rattle.inc_filling.specs.Generated.{FillsAll}
use Rattle.inc_filling.specs.declared.from_stream.rounds.FillTotals.{FillTotals}
use Rattle.inc_filling.specs.declared.stop.FillStop.{FillStop}
use Rattle.inc_filling.proofs.streams.Generated.{begins_filling, still_taken, stops_unmade, up_to_few}
use Rattle.inc_filling.proofs.generated.fill_rest.Goals as goal

pub returns-in_err-waiting-clause-fills : goal.returns-in_err-waiting-clause-fills
returns-in_err-waiting-clause-fills g c =
    let all = left_of c.args.content.now in
    let p = err_from_is_err_and c.from_residual.result c.from_residual.ensures.1 in
    subst (λ (result : Result FillTotals FillStop). FillsAll c.args.cell.now c.args.window all result c.args.cell.now) (sym p.1)
    (subst (λ (stop : FillStop). StopsBy c.args.cell.now c.args.window all stop c.args.cell.now) (sym p.2)
    (stops_unmade c.args.cell.now c.args.cell.now c.args.window all all 0 0 (begins_filling c.args.cell.now c.args.window all c.requires.fillable)))

pub filling-init : goal.filling-init
filling-init g c = record {
  up_to = begins_filling c.args.cell.now c.args.window (left_of c.args.content.now) c.requires.fillable;
  empty = c.in_ok-waiting.ensures.none;
}

pub fill_next-requires-clause-taken : goal.fill_next-requires-clause-taken
fill_next-requires-clause-taken g c =
    still_taken c.args.cell.now c.filling.cell c.args.window (left_of c.args.content.now) (left_of c.filling.content) c.filling.totals.written c.filling.totals.present c.filling.invariant.up_to c.requires.taken

pub fill_next-requires-clause-few : goal.fill_next-requires-clause-few
fill_next-requires-clause-few g c =
    up_to_few c.args.cell.now c.filling.cell c.args.window c.args.content.now (left_of c.filling.content) c.filling.totals.written c.filling.totals.present c.filling.invariant.up_to
