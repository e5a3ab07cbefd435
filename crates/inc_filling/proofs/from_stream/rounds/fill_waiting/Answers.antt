use Rattle.std.proofs.Common.{◌≡◌, ◌++◌, ◌+◌, ◌-◌, ◌<◌, List, ℕ, length, sym, subst, ap, ◌∙◌, arith, append-nil}
use Rattle.std.proofs.lemmas.Bool.{eqb-true, eqb-false}
use Rattle.std.proofs.lemmas.List.{nil_from_length}
use Rattle.std.proofs.lemmas.Result.{err_from_is_err_and}
use Rattle.inc_frame.specs.declared.piece.Piece.{Piece}
use Rattle.std.specs.Prelude.{Result}
use Rattle.inc_filling.specs.Filled.{AreIn, StopsBy}
use Rattle.inc_filling.specs.Rounds.{FillsWaiting}
use Rattle.inc_filling.specs.declared.stop.FillStop.{FillStop}
use Rattle.inc_cell.specs.seen.Seen.{state_now}
use Rattle.inc_filling.proofs.streams.GroupIn.{fewer_stored, group_is_in}
use Rattle.inc_filling.proofs.streams.GroupStops.{group_stops}
use Rattle.inc_filling.proofs.from_stream.rounds.fill_waiting.Goals as goal

no_more : (gave waiting pieces : List Piece) → length pieces ≡ 0 → pieces ≡ waiting → gave ≡ gave ++ waiting
no_more gave waiting pieces none e = sym (append-nil gave) ∙ ap (λ (l : List Piece). gave ++ l) (sym (nil_from_length pieces none) ∙ e)

not_none : (n : ℕ) → (n ≡ 0 → ⊥) → 0 < n
not_none n h = omega (arith, h)

pub returns-then-is_empty-clause-fills : goal.returns-then-is_empty-clause-fills
returns-then-is_empty-clause-fills g c = λ start gave h.
    subst (λ (pieces : List Piece). AreIn start c.args.window pieces c.args.totals.now.written c.args.totals.now.present c.args.cell.now)
    (no_more gave c.args.waiting.now.pieces.items c.as_slice-pieces.result.now (eqb-true (length c.as_slice-pieces.result.now) 0 (sym c.is_empty.ensures ∙ c.if-is_empty.true)) c.as_slice-pieces.ensures.value) h

pub returns-in_err-fill_pieces-clause-fills : goal.returns-in_err-fill_pieces-clause-fills
returns-in_err-fill_pieces-clause-fills g c = λ start gave h.
    let some = not_none (length c.as_slice-pieces.result.now) (eqb-false (length c.as_slice-pieces.result.now) 0 (sym c.is_empty.ensures ∙ c.if-is_empty.false)) in
    let p = err_from_is_err_and c.from_residual.result c.from_residual.ensures.1 in
    subst (λ (result : Result (Unit {0}) FillStop). FillsWaiting start c.args.window (gave ++ c.args.waiting.now.pieces.items) c.args.totals.now.written c.args.totals.now.present result c.fill_pieces.new.cell) (sym p.1)
    (subst (λ (stop : FillStop). StopsBy start c.args.window (gave ++ c.args.waiting.now.pieces.items) stop c.fill_pieces.new.cell) (sym p.2)
    (subst (λ (pieces : List Piece). StopsBy start c.args.window (gave ++ pieces) c.in_err-fill_pieces.field-0.0 c.fill_pieces.new.cell) c.as_slice-pieces.ensures.value
    (group_stops (Unit {0}) start c.args.cell.now c.fill_pieces.new.cell c.args.window gave c.as_slice-pieces.result.now c.args.totals.now.written c.args.totals.now.present c.fill_pieces.new.stored.items c.in_err-fill_pieces.field-0.0 h some
    (omega (arith, ap (λ (l : List Piece). length l) c.as_slice-pieces.ensures.value, c.args.waiting.now.most)) c.in_err-fill_pieces.ensures.fills)))

pub overflow_sub-totals : goal.overflow_sub-totals
overflow_sub-totals g c =
    let fewer = fewer_stored (state_now c.args.cell.now).map c.args.cell.now.opened c.as_slice-pieces.result.now c.fill_pieces.new.stored.items c.in_ok-fill_pieces.ensures.fills.stored_are in
    omega (arith, fewer, c.len-written.ensures)

pub returns-clause-fills : goal.returns-clause-fills
returns-clause-fills g c = λ start gave h.
    let some = not_none (length c.as_slice-pieces.result.now) (eqb-false (length c.as_slice-pieces.result.now) 0 (sym c.is_empty.ensures ∙ c.if-is_empty.false)) in
    let written : c.len-written.result ≡ length c.fill_pieces.new.stored.items = omega (arith, c.len-written.ensures) in
    subst (λ (pieces : List Piece). AreIn start c.args.window (gave ++ pieces) (c.args.totals.now.written + c.len-written.result) (c.args.totals.now.present + (length c.as_slice-pieces.result.now - c.len-written.result)) c.fill_pieces.new.cell) c.as_slice-pieces.ensures.value
    (subst (λ (n : ℕ). AreIn start c.args.window (gave ++ c.as_slice-pieces.result.now) (c.args.totals.now.written + n) (c.args.totals.now.present + (length c.as_slice-pieces.result.now - n)) c.fill_pieces.new.cell) (sym written) (group_is_in start c.args.cell.now c.fill_pieces.new.cell c.args.window gave c.as_slice-pieces.result.now c.args.totals.now.written c.args.totals.now.present c.fill_pieces.new.stored.items h some c.in_ok-fill_pieces.ensures.fills))
