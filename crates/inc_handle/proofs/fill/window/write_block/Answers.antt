use Rattle.std.proofs.Common.{◌-◌, sym, subst}
use Rattle.std.specs.Prelude.{Result}
use Rattle.inc_turn.specs.Locks.{seat_view}
use Rattle.inc_filling.specs.Grouped.{put_of}
use Rattle.inc_filling.specs.declared.stop.FillStop.{FillStop}
use Rattle.inc_handle.specs.UnderWay.{PutSteps}
use Rattle.inc_handle.specs.declared.fill.window.PutEnd.{PutEnd}
use Rattle.inc_handle.proofs.fills.Puts.{put_steps}
use Rattle.inc_cell.specs.declared.words.event.CellEvent.TheVariants as cell
use Rattle.inc_handle.proofs.fills.Turns.{gone_on}
use Rattle.inc_handle.proofs.fill.window.write_block.Goals as goal

pub returns-clause-steps : goal.returns-clause-steps
returns-clause-steps g c = λ known start left stages events h some may.
    subst (λ (result : Result PutEnd FillStop). PutSteps known start c.args.window (left - 1) stages events (put_of known.opened c.args.window c.args.filling) c.args.filling.index result (seat_view c.turn.new.seat)) (sym c.go_on_from_put.ensures.value)
    (put_steps known start (seat_view c.args.seat.now) (seat_view c.turn.new.seat) c.args.window left stages events h some c.args.filling may c.turn.result c.turn.ensures.turn)

pub returns-clause-own : goal.returns-clause-own
returns-clause-own g c = gone_on c.args.seat.now c.turn.new.seat (cell.Put c.args.window c.args.filling.index c.args.filling.block) c.turn.result c.turn.ensures.own c.turn.ensures.turn
