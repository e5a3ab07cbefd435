use Rattle.std.proofs.Common.{◌+◌, ◌++◌, ℕ, length, sym, subst, arith}
use Rattle.std.specs.Prelude.{Result}
use Rattle.std.proofs.lemmas.Result.{err_from_is_err_and}
use Rattle.inc_model.specs.declared.words.file_state.Stage.TheVariants.{Gated, Placed}
use Rattle.inc_turn.specs.Locks.{seat_view}
use Rattle.inc_filling.specs.Stands.{stage_among}
use Rattle.inc_filling.specs.declared.stop.FillStop.{FillStop}
use Rattle.inc_handle.specs.UnderWay.{FinishSteps, StopsIn, finish_events}
use Rattle.inc_handle.proofs.fills.Finishes.{finished, gated_events, gates_broke, placed_events, places_broke, settled_events, settled_now, sync_broke}
use Rattle.inc_handle.proofs.fills.Turns.{gone_twice}
use Rattle.inc_handle.proofs.fill.group.finish_blocks.Goals as goal

pub returns-clause-finishes : goal.returns-clause-finishes
returns-clause-finishes g c = λ known start left events h distinct.
    let n = length c.args.stored.now in
    let placed = c.in_ok-write_places.ensures.moves known start (1 + (n + (1 + left))) events h distinct in
    let synced = c.in_ok-sync.ensures.steps known start (1 + (n + (1 + left))) (stage_among c.args.stored.now Placed) (placed_events known start c.args.window left events c.args.stored.now) placed (omega arith) in
    let settled = settled_now known start c.args.window left events c.args.stored.now (seat_view c.sync.new.seat) synced.0 in
    let gated = c.in_ok-open_entries.ensures.moves known start (1 + left) (settled_events known start c.args.window left events c.args.stored.now) settled distinct in
    finished known start c.args.window left events c.args.stored.now c.sync-2.result (seat_view c.sync-2.new.seat)
    (c.sync-2.ensures.steps known start (1 + left) (stage_among c.args.stored.now Gated) (gated_events known start c.args.window left events c.args.stored.now) gated (omega arith))

pub returns-in_err-write_places-clause-finishes : goal.returns-in_err-write_places-clause-finishes
returns-in_err-write_places-clause-finishes g c = λ known start left events h distinct.
    let p = err_from_is_err_and c.from_residual.result c.from_residual.ensures.1 in
    let n = length c.args.stored.now in
    subst (λ (result : Result ℕ FillStop). FinishSteps known start c.args.window left (events ++ finish_events c.args.window c.args.stored.now) result (seat_view c.write_places.new.seat)) (sym p.1)
    (subst (λ (stop : FillStop). StopsIn known start c.args.window left (events ++ finish_events c.args.window c.args.stored.now) stop (seat_view c.write_places.new.seat)) (sym p.2)
    (places_broke known start c.args.window left events c.args.stored.now c.in_err-write_places.field-0.0 (seat_view c.write_places.new.seat) (c.in_err-write_places.ensures.moves known start (1 + (n + (1 + left))) events h distinct)))

pub returns-in_err-sync-clause-finishes : goal.returns-in_err-sync-clause-finishes
returns-in_err-sync-clause-finishes g c = λ known start left events h distinct.
    let p = err_from_is_err_and c.from_residual-in_err-sync.result c.from_residual-in_err-sync.ensures.1 in
    let n = length c.args.stored.now in
    let placed = c.in_ok-write_places.ensures.moves known start (1 + (n + (1 + left))) events h distinct in
    subst (λ (result : Result ℕ FillStop). FinishSteps known start c.args.window left (events ++ finish_events c.args.window c.args.stored.now) result (seat_view c.sync.new.seat)) (sym p.1)
    (subst (λ (stop : FillStop). StopsIn known start c.args.window left (events ++ finish_events c.args.window c.args.stored.now) stop (seat_view c.sync.new.seat)) (sym p.2)
    (sync_broke known start c.args.window left events c.args.stored.now c.in_err-sync.field-0.0 (seat_view c.sync.new.seat)
    (c.in_err-sync.ensures.steps known start (1 + (n + (1 + left))) (stage_among c.args.stored.now Placed) (placed_events known start c.args.window left events c.args.stored.now) placed (omega arith))))

pub returns-in_err-open_entries-clause-finishes : goal.returns-in_err-open_entries-clause-finishes
returns-in_err-open_entries-clause-finishes g c = λ known start left events h distinct.
    let p = err_from_is_err_and c.from_residual-in_err-open_entries.result c.from_residual-in_err-open_entries.ensures.1 in
    let n = length c.args.stored.now in
    let placed = c.in_ok-write_places.ensures.moves known start (1 + (n + (1 + left))) events h distinct in
    let synced = c.in_ok-sync.ensures.steps known start (1 + (n + (1 + left))) (stage_among c.args.stored.now Placed) (placed_events known start c.args.window left events c.args.stored.now) placed (omega arith) in
    let settled = settled_now known start c.args.window left events c.args.stored.now (seat_view c.sync.new.seat) synced.0 in
    subst (λ (result : Result ℕ FillStop). FinishSteps known start c.args.window left (events ++ finish_events c.args.window c.args.stored.now) result (seat_view c.open_entries.new.seat)) (sym p.1)
    (subst (λ (stop : FillStop). StopsIn known start c.args.window left (events ++ finish_events c.args.window c.args.stored.now) stop (seat_view c.open_entries.new.seat)) (sym p.2)
    (gates_broke known start c.args.window left events c.args.stored.now c.in_err-open_entries.field-0.0 (seat_view c.open_entries.new.seat)
    (c.in_err-open_entries.ensures.moves known start (1 + left) (settled_events known start c.args.window left events c.args.stored.now) settled distinct)))

pub returns-in_err-write_places-clause-own : goal.returns-in_err-write_places-clause-own
returns-in_err-write_places-clause-own g c = c.write_places.ensures.own

pub returns-in_err-sync-clause-own : goal.returns-in_err-sync-clause-own
returns-in_err-sync-clause-own g c = gone_twice c.args.seat.now c.write_places.new.seat c.sync.new.seat c.write_places.ensures.own c.sync.ensures.own

pub returns-in_err-open_entries-clause-own : goal.returns-in_err-open_entries-clause-own
returns-in_err-open_entries-clause-own g c =
    gone_twice c.args.seat.now c.sync.new.seat c.open_entries.new.seat (gone_twice c.args.seat.now c.write_places.new.seat c.sync.new.seat c.write_places.ensures.own c.sync.ensures.own) c.open_entries.ensures.own

pub returns-clause-own : goal.returns-clause-own
returns-clause-own g c =
    gone_twice c.args.seat.now c.open_entries.new.seat c.sync-2.new.seat
    (gone_twice c.args.seat.now c.sync.new.seat c.open_entries.new.seat (gone_twice c.args.seat.now c.write_places.new.seat c.sync.new.seat c.write_places.ensures.own c.sync.ensures.own) c.open_entries.ensures.own) c.sync-2.ensures.own
