use Rattle.std.proofs.Common.{◌∙◌, arith}
use Rattle.inc_turn.proofs.Moves.{takes_at}
use Rattle.inc_turn.proofs.lock.draw.Goals as goal

pub compare_exchange-found-requires : goal.compare_exchange-found-requires
compare_exchange-found-requires g c = (
  c.loop.invariant.2 ∙ c.requires.own,
  omega (arith, c.requires.sized),
  takes_at g.M.Machine.history g.M.Machine.footing c.args.board.now.table_id.slots c.loop.place.id c.peek-next.result c.loop.place.me c.args.place.now.me c.loop.invariant.4 c.requires.idle (omega arith),
)
