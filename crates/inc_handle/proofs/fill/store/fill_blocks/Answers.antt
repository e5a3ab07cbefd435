use Rattle.std.proofs.Common.{ℕ, [], ◌∷◌, length, sym, subst, ◌∙◌, arith}
use Rattle.std.specs.Prelude.{Result, Err}
use Rattle.std.proofs.lemmas.Result.{err_from_is_err_and}
use Rattle.inc_model.specs.declared.words.reply.Reply.{Reply}
use Rattle.inc_turn.specs.Locks.{seat_view}
use Rattle.inc_filling.specs.declared.stop.FillStop.{FillStop}
use Rattle.inc_handle.specs.Fills.{FillsOwn, claim_event}
use Rattle.inc_handle.proofs.fills.Stores.{claimed_now, fills_own, may_release, unclaimed}
use Rattle.inc_handle.proofs.fills.Turns.{gone_twice}
use Rattle.inc_handle.proofs.fill.store.fill_blocks.Goals as goal

pub returns-in_err-claim-clause-fills : goal.returns-in_err-claim-clause-fills
returns-in_err-claim-clause-fills g c = λ known footing_is may distinct.
    let p = err_from_is_err_and c.from_residual.result c.from_residual.ensures.1 in
    subst (λ (result : Result ℕ FillStop). FillsOwn known (seat_view c.args.seat.now) c.args.window c.args.group.items result c.args.ends.now.items c.args.stored.now.items (seat_view c.claim.new.seat)) (sym p.1)
    (subst (λ (stop : FillStop). FillsOwn known (seat_view c.args.seat.now) c.args.window c.args.group.items (Err stop) c.args.ends.now.items c.args.stored.now.items (seat_view c.claim.new.seat)) (sym p.2)
    (unclaimed known (seat_view c.args.seat.now) c.args.window c.args.group.items c.args.ends.now.items c.args.stored.now.items Reply _ c.in_err-claim.field-0.0 (seat_view c.claim.new.seat) (omega arith)
    (c.in_err-claim.ensures.claims known (c.args.seat.now.numbered ∙ sym c.requires.who) footing_is)))

pub returns-clause-fills : goal.returns-clause-fills
returns-clause-fills g c = λ known footing_is may distinct.
    let claims = c.in_ok-claim.ensures.claims known (c.args.seat.now.numbered ∙ sym c.requires.who) footing_is in
    let runs = claimed_now known (seat_view c.args.seat.now) c.args.window c.args.group.items c.store_group-settled_at.new.ends.items c.store_group-settled_at.new.stored.items _ (seat_view c.claim.new.seat) (omega arith) c.requires.some claims in
    let stores = c.store_group-settled_at.ensures.stores known (seat_view c.args.seat.now) 1 (claim_event c.args.window (length c.args.group.items) ∷ []) runs may distinct in
    fills_own known (seat_view c.args.seat.now) c.args.window c.args.group.items c.store_group-settled_at.new.ends.items c.store_group-settled_at.new.stored.items c.store_group-settled_at.result (seat_view c.store_group-settled_at.new.seat) (seat_view c.release.new.seat) stores
    (c.release.ensures.releases known (may_release known (seat_view c.args.seat.now) c.args.window c.args.group.items c.store_group-settled_at.new.ends.items c.store_group-settled_at.new.stored.items c.store_group-settled_at.result (seat_view c.store_group-settled_at.new.seat) stores))

pub returns-clause-own : goal.returns-clause-own
returns-clause-own g c =
    gone_twice c.args.seat.now c.store_group-settled_at.new.seat c.release.new.seat (gone_twice c.args.seat.now c.claim.new.seat c.store_group-settled_at.new.seat c.claim.ensures.own c.store_group-settled_at.ensures.own) c.release.ensures.own
