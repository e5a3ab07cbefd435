use Rattle.std.proofs.Common.{sym, subst}
use Rattle.std.specs.Prelude.{Result}
use Rattle.inc_model.specs.declared.words.reply.Reply.{Reply}
use Rattle.inc_turn.specs.Locks.{seat_view}
use Rattle.inc_filling.specs.declared.stop.FillStop.{FillStop}
use Rattle.inc_handle.specs.UnderWay.{ClaimSteps}
use Rattle.inc_handle.proofs.fills.Claims.{claim_steps}
use Rattle.inc_cell.specs.declared.words.event.CellEvent.TheVariants as cell
use Rattle.inc_handle.proofs.fills.Turns.{gone_on}
use Rattle.inc_model.specs.declared.words.event.Event.TheVariants.{Claim}
use Rattle.inc_handle.proofs.fill.window.claim.Goals as goal

pub returns-clause-claims : goal.returns-clause-claims
returns-clause-claims g c = λ known number_is footing_is.
    subst (λ (result : Result Reply FillStop). ClaimSteps known (seat_view c.args.seat.now) c.args.window c.args.places result (seat_view c.turn-answer.new.seat)) (sym c.go_on.ensures.value)
    (claim_steps known (seat_view c.args.seat.now) (seat_view c.turn-answer.new.seat) c.args.window c.args.places number_is footing_is c.turn-answer.result c.turn-answer.ensures.turn)

pub returns-clause-own : goal.returns-clause-own
returns-clause-own g c = gone_on c.args.seat.now c.turn-answer.new.seat (cell.Plain (Claim c.args.window c.args.places)) c.turn-answer.result c.turn-answer.ensures.own c.turn-answer.ensures.turn
