use Rattle.std.proofs.Common.{subst, ◌∙◌, arith}
use Rattle.inc_turn.specs.Views.{IsIdle, keeping}
use Rattle.inc_turn.proofs.SeatMoves.{joins_at}
use Rattle.inc_turn.proofs.ClosingLemmas.{front_is, back_is, view_of, lock_of-last, lock_stays, joined_more, all_joined}
use Rattle.inc_turn.proofs.closing.join_seats.Goals as goal

pub join_seat-requires : goal.join_seat-requires
join_seat-requires g c =
    let left = c.loop-other.others in
    let other = c.in-Some.other in
    let joined = c.loop-other.invariant.joined in
    let lock = lock_of-last c.args.first.now.me.0 c.loop-other.first.me.0 c.args.others.items left.items other left.len c.args.board.now.table_id joined left.ok.0 (omega (arith, c.in-Some.ensures.len)) c.in-Some.ensures.value c.requires.others in
    let view = view_of other c.into_badge.result c.into_seat-place.result.me.0 c.into_badge.ensures c.into_seat-place.ensures.2 in (
      c.loop-other.invariant.table ∙ c.requires.own,
      lock_stays other c.into_badge.result c.args.board.now.table_id c.into_seat-place.result.table_id c.into_badge.ensures c.into_seat-place.ensures.0 lock,
      c.into_seat-place.ensures.3,
      omega (arith, c.requires.sized),
      joins_at g.M.Machine.history g.M.Machine.footing c.loop-other.first.id c.into_seat-place.result.id c.loop-other.first.me.0 c.args.first.now.me.0 c.into_seat-place.result.me.0 joined.view_is c.requires.idle
          (subst (λ v. IsIdle v) view other.idle),
    )

pub loop-other-preserved : goal.loop-other-preserved
loop-other-preserved g c =
    let view = view_of c.in-Some.other c.into_badge.result c.into_seat-place.result.me.0 c.into_badge.ensures c.into_seat-place.ensures.2 in
    record {
      table = c.join_seat.ensures.0 ∙ c.loop-other.invariant.table;
      id = c.join_seat.ensures.1 ∙ c.loop-other.invariant.id;
      carried = back_is c.join_seat.new.seat.me (keeping c.loop-other.first.me.0 c.into_seat-place.result.me.0) c.loop-other.first.me.1 c.join_seat.ensures.2 ∙ c.loop-other.invariant.carried;
      joined = joined_more c.args.first.now.me.0 c.loop-other.first.me.0 c.join_seat.new.seat.me.0 c.args.others.items c.loop-other.others.items c.pop.new.self.items c.in-Some.other c.into_seat-place.result.me.0 c.loop-other.others.len c.pop.new.self.len c.loop-other.invariant.joined
          c.loop-other.others.ok.0 c.pop.new.self.ok.0 c.in-Some.ensures.len c.in-Some.ensures.rest c.in-Some.ensures.value view (front_is c.join_seat.new.seat.me (keeping c.loop-other.first.me.0 c.into_seat-place.result.me.0) c.loop-other.first.me.1 c.join_seat.ensures.2);
    }

pub returns-clause-joined : goal.returns-clause-joined
returns-clause-joined g c =
    all_joined c.args.first.now.me.0 c.loop-other.first.me.0 c.args.others.items c.loop-other.others.items c.loop-other.invariant.joined (omega (arith, c.in_default.ensures.cases, c.loop-other.others.ok.0))
