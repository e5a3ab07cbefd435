use Rattle.std.proofs.Common.{[], ◌∷◌, ◌++◌, ◌-◌, sym, subst}
use Rattle.std.specs.Prelude.{Result}
use Rattle.inc_model.specs.declared.words.event.Event.TheVariants.{PutPlace}
use Rattle.inc_model.specs.declared.words.file_state.Stage.TheVariants.{Placed}
use Rattle.inc_model.specs.declared.words.reply.Reply.{Reply}
use Rattle.inc_turn.specs.Locks.{seat_view}
use Rattle.inc_filling.specs.Stands.{staged_then}
use Rattle.inc_filling.specs.declared.stop.FillStop.{FillStop}
use Rattle.inc_handle.specs.UnderWay.{FillSteps}
use Rattle.inc_handle.proofs.fills.Steps.{place_steps}
use Rattle.inc_cell.specs.declared.words.event.CellEvent.TheVariants as cell
use Rattle.inc_handle.proofs.fills.Turns.{gone_on}
use Rattle.inc_handle.proofs.fill.window.write_place.Goals as goal

pub returns-clause-steps : goal.returns-clause-steps
returns-clause-steps g c = λ known start left stages events h some is.
    subst (λ (result : Result Reply FillStop). FillSteps known start c.args.window (left - 1) (staged_then c.args.index Placed stages) (events ++ PutPlace c.args.window c.args.index ∷ []) result (seat_view c.turn-answer.new.seat)) (sym c.go_on.ensures.value)
    (place_steps known start (seat_view c.args.seat.now) (seat_view c.turn-answer.new.seat) c.args.window left stages events h some c.args.index c.turn-answer.result is c.turn-answer.ensures.turn)

pub returns-clause-own : goal.returns-clause-own
returns-clause-own g c = gone_on c.args.seat.now c.turn-answer.new.seat (cell.Plain (PutPlace c.args.window c.args.index)) c.turn-answer.result c.turn-answer.ensures.own c.turn-answer.ensures.turn
