use Rattle.std.proofs.Common.{◌+◌, ◌-◌, ◌<◌, ◌++◌, length, take, sym, subst, arith}
use Rattle.std.specs.Prelude.{Result, map}
use Rattle.std.proofs.lemmas.Result.{err_from_is_err_and}
use Rattle.inc_model.specs.declared.words.event.Event.TheVariants.{PutPlace}
use Rattle.inc_model.specs.declared.words.file_state.Stage.TheVariants.{Written, Placed}
use Rattle.inc_turn.specs.Locks.{seat_view}
use Rattle.inc_filling.specs.Grouped.{places_of_each}
use Rattle.inc_filling.specs.Stands.{stage_among, staged_first}
use Rattle.inc_filling.specs.declared.stop.FillStop.{FillStop}
use Rattle.inc_handle.specs.UnderWay.{FillMoves, StopsIn}
use Rattle.inc_handle.proofs.fills.Loops.{all_moved, broke_at, next_is, none_yet, one_more}
use Rattle.inc_handle.proofs.fills.Turns.{gone_nowhere, gone_twice}
use Rattle.inc_handle.proofs.fill.group.write_places.Goals as goal

pub loop-at-init : goal.loop-at-init
loop-at-init g c = record {
  own = gone_nowhere c.args.seat.now;
  first = λ known start left events h distinct. none_yet known start c.args.window c.args.stored.now distinct Written Placed (PutPlace c.args.window) left events (seat_view c.args.seat.now) h;
}

pub loop-at-preserved : goal.loop-at-preserved
loop-at-preserved g c =
    let lt : c.loop-at.at < length c.args.stored.now = c.loop-at-test.true in
    record {
      own = gone_twice c.args.seat.now c.loop-at.seat c.write_place.new.seat c.loop-at.invariant.own c.write_place.ensures.own;
      first = λ known start left events h distinct.
          one_more known start c.args.window c.args.stored.now distinct Written Placed (PutPlace c.args.window) c.loop-at.at left events (seat_view c.write_place.new.seat) lt
          (c.in_ok-write_place.ensures.steps known start (length c.args.stored.now - c.loop-at.at + left) (staged_first (take c.loop-at.at c.args.stored.now) Placed c.args.stored.now Written) (events ++ map (PutPlace c.args.window) (take c.loop-at.at c.args.stored.now)) (c.loop-at.invariant.first known start left events h distinct) (omega arith)
          (next_is known start c.args.window c.args.stored.now distinct Written Placed (PutPlace c.args.window) c.loop-at.at lt));
    }

pub returns : goal.returns
returns g c = record {
  own = c.loop-at.invariant.own;
  moves = λ known start left events h distinct. all_moved known start c.args.window c.args.stored.now distinct Written Placed (PutPlace c.args.window) c.loop-at.at left events (seat_view c.loop-at.seat) c.loop-at-test.false (c.loop-at.invariant.first known start left events h distinct);
}

pub returns-in_err-write_place : goal.returns-in_err-write_place
returns-in_err-write_place g c =
    let p = err_from_is_err_and c.from_residual.result c.from_residual.ensures.1 in
    let lt : c.loop-at.at < length c.args.stored.now = c.loop-at-test.true in
    record {
      own = gone_twice c.args.seat.now c.loop-at.seat c.write_place.new.seat c.loop-at.invariant.own c.write_place.ensures.own;
      moves = λ known start left events h distinct.
          subst (λ (result : Result (Unit {0}) FillStop). FillMoves known start c.args.window left (stage_among c.args.stored.now Placed) (events ++ places_of_each c.args.window c.args.stored.now) result (seat_view c.write_place.new.seat)) (sym p.1)
          (subst (λ (stop : FillStop). StopsIn known start c.args.window left (events ++ places_of_each c.args.window c.args.stored.now) stop (seat_view c.write_place.new.seat)) (sym p.2)
          (broke_at known start c.args.window c.args.stored.now distinct Written Placed (PutPlace c.args.window) c.loop-at.at left events c.in_err-write_place.field-0.0 (seat_view c.write_place.new.seat) lt
          (c.in_err-write_place.ensures.steps known start (length c.args.stored.now - c.loop-at.at + left) (staged_first (take c.loop-at.at c.args.stored.now) Placed c.args.stored.now Written) (events ++ map (PutPlace c.args.window) (take c.loop-at.at c.args.stored.now)) (c.loop-at.invariant.first known start left events h distinct) (omega arith)
          (next_is known start c.args.window c.args.stored.now distinct Written Placed (PutPlace c.args.window) c.loop-at.at lt))));
    }
