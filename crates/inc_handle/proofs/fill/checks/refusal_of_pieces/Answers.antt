use Rattle.std.proofs.Common.{◌≡◌, ℕ, ◌+◌, ◌-◌, ◌<◌, length, drop, ap, ◌∙◌, arith}
use Rattle.inc_model.specs.declared.words.outcomes.FillError.{FillError}
use Rattle.std.specs.Prelude.{Option}
use Rattle.inc_handle.specs.Checks.{first_cause, refusal_from}
use Rattle.inc_handle.proofs.told.Counted.{refusal_more}
use Rattle.inc_handle.proofs.fill.checks.refusal_of_pieces.Goals as goal

pub loop-back-preserved : goal.loop-back-preserved
loop-back-preserved c =
    let n = length c.args.pieces.now in
    let lt : c.loop-back.back < n = c.loop-back-test.true in
    let place : n - 1 - c.loop-back.back ≡ n - (c.loop-back.back + 1) = omega arith in
    c.first_cause-refusal.ensures.value
    ∙ ap (λ (own : Option FillError). first_cause own c.loop-back.refusal) c.refusal_at-own.ensures.value
    ∙ refusal_more c.args.known.now.opened.value c.args.pieces.now (n - 1 - c.loop-back.back) (n - c.loop-back.back) c.index-pieces-at.result (omega arith) (omega arith) c.index-pieces-at.is c.loop-back.refusal c.loop-back.invariant
    ∙ ap (λ (i : ℕ). refusal_from c.args.known.now.opened.value i (drop i c.args.pieces.now)) place
