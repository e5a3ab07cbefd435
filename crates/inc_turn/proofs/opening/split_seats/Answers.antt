use Rattle.std.proofs.Common.{◌∙◌, arith}
use Rattle.inc_turn.proofs.SeatMoves.{splits_at}
use Rattle.inc_turn.proofs.opening.split_seats.Goals as goal

pub split_seat-place-requires : goal.split_seat-place-requires
split_seat-place-requires g c = (
  c.loop-number.invariant.table ∙ c.requires.own,
  omega (arith, c.requires.sized),
  splits_at g.M.Machine.history g.M.Machine.footing c.loop-number.first.id c.loop-number.number c.loop-number.first.me c.args.first.now.me c.loop-number.invariant.me c.requires.first.0 c.requires.first.1,
)
