use Rattle.inc_turn.specs.Locks.{seat_view}
use Rattle.inc_handle.proofs.fills.Claims.{release_steps}
use Rattle.inc_cell.specs.declared.words.event.CellEvent.TheVariants as cell
use Rattle.inc_handle.proofs.fills.Turns.{gone_on}
use Rattle.inc_model.specs.declared.words.event.Event.TheVariants.{Release}
use Rattle.inc_handle.proofs.fill.window.release.Goals as goal

pub returns-clause-releases : goal.returns-clause-releases
returns-clause-releases g c = λ known may. release_steps known (seat_view c.args.seat.now) (seat_view c.turn.new.seat) c.args.window may c.turn.result c.turn.ensures.turn

pub returns-clause-own : goal.returns-clause-own
returns-clause-own g c = gone_on c.args.seat.now c.turn.new.seat (cell.Plain (Release c.args.window)) c.turn.result c.turn.ensures.own c.turn.ensures.turn
