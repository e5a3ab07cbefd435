use Rattle.std.proofs.Common.{sym, subst, refl, arith}
use Rattle.std.specs.Prelude.{Result, Err}
use Rattle.std.proofs.lemmas.Result.{err_from_is_err_and}
use Rattle.inc_filling.specs.Filled.{FillsFrom}
use Rattle.inc_filling.specs.declared.from_stream.filled.Filled.{Filled}
use Rattle.inc_filling.specs.declared.from_stream.filled.FillFailure.{FillFailure}
use Rattle.inc_filling.proofs.streams.WholeFill.{begins, never_begins, under_way_few}
use Rattle.inc_filling.proofs.from_stream.fill_groups.Goals as goal

pub returns-in_err-pieces-clause-fills : goal.returns-in_err-pieces-clause-fills
returns-in_err-pieces-clause-fills g c =
    let left = g.I.Source.left c.args.input.now in
    let source_ended = g.I.Source.ended c.args.input.now in
    let p = err_from_is_err_and c.from_residual.result c.from_residual.ensures.1 in
    subst (λ (result : Result Filled FillFailure). FillsFrom c.args.cell.now c.args.window left left source_ended result c.args.cell.now) (sym p.1)
    (subst (λ (failure : FillFailure). FillsFrom c.args.cell.now c.args.window left left source_ended (Err failure) c.args.cell.now) (sym p.2) (never_begins c.args.cell.now c.args.window left source_ended c.requires.fillable))

pub returns-in_err-waiting-clause-fills : goal.returns-in_err-waiting-clause-fills
returns-in_err-waiting-clause-fills g c =
    let left = g.I.Source.left c.args.input.now in
    let source_ended = g.I.Source.ended c.args.input.now in
    let p = err_from_is_err_and c.from_residual-in_err-waiting.result c.from_residual-in_err-waiting.ensures.1 in
    subst (λ (result : Result Filled FillFailure). FillsFrom c.args.cell.now c.args.window left left source_ended result c.args.cell.now) (sym p.1)
    (subst (λ (failure : FillFailure). FillsFrom c.args.cell.now c.args.window left left source_ended (Err failure) c.args.cell.now) (sym p.2) (never_begins c.args.cell.now c.args.window left source_ended c.requires.fillable))

pub filling-init : goal.filling-init
filling-init g c =
    let new = c.in_ok-pieces.ensures in
    record {
      under_way = begins c.args.cell.now c.args.window (g.I.Source.left c.args.input.now) (g.I.Source.ended c.args.input.now) c.in_ok-pieces.pieces c.requires.fillable new.filled new.whole new.reader new.refused;
      empty = c.in_ok-waiting.ensures.none;
      quiet = refl;
    }

pub fill_round-requires-clause-few : goal.fill_round-requires-clause-few
fill_round-requires-clause-few g c =
    let few = under_way_few _ _ _ _ _ _ _ _ _ c.filling.invariant.under_way in
    omega (arith, few)

pub returns-in-Some-clause-fills : goal.returns-in-Some-clause-fills
returns-in-Some-clause-fills g c =
    rw c.in-Some.is at c.in_ok-end.ensures.rounds c.args.cell.now (g.I.Source.left c.args.input.now) c.filling.invariant.under_way

pub filling-smaller : goal.filling-smaller
filling-smaller g c =
    let on = rw c.in_default.is at c.in_ok-end.ensures.rounds c.args.cell.now (g.I.Source.left c.args.input.now) c.filling.invariant.under_way in
    let more = on.0 in
    let few = under_way_few _ _ _ _ _ _ _ _ _ on.1 in
    omega (arith, more, few)
