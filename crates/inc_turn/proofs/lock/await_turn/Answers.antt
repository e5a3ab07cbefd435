use Rattle.std.proofs.Common.{◌∙◌, arith}
use Rattle.inc_turn.proofs.Moves.{sees_at}
use Rattle.inc_turn.proofs.lock.await_turn.Goals as goal

pub load-served-requires : goal.load-served-requires
load-served-requires g c = (
  c.loop.invariant.2 ∙ c.requires.own,
  omega (arith, c.requires.sized),
  sees_at g.M.Machine.history g.M.Machine.footing c.args.board.now.table_id.slots c.loop.place.id c.args.ticket c.loop.place.me c.args.place.now.me c.loop.invariant.4 c.requires.unspent c.requires.no_turn c.requires.ticket c.requires.empty,
)
