use Rattle.std.proofs.Common.{sym, subst}
use Rattle.std.specs.Prelude.{Result}
use Rattle.inc_model.specs.declared.words.event.Event.TheVariants.{TakePending}
use Rattle.inc_model.specs.declared.words.outcomes.FillError.{FillError}
use Rattle.inc_turn.specs.Locks.{seat_view}
use Rattle.inc_cell.specs.declared.words.event.CellEvent.TheVariants as cell
use Rattle.inc_handle.specs.Pending.{TakesPending}
use Rattle.inc_handle.specs.declared.fill.pending.TakenReads.{TakenReads}
use Rattle.inc_handle.proofs.fills.Pendings.{take_steps}
use Rattle.inc_handle.proofs.fills.Turns.{gone_on}
use Rattle.inc_handle.proofs.fill.pending.take_pending.Goals as goal

pub returns-clause-takes : goal.returns-clause-takes
returns-clause-takes g c = λ known footing_is.
    subst (λ (result : Result TakenReads FillError). TakesPending known (seat_view c.args.seat.now) c.args.after c.args.max result (seat_view c.turn.new.seat)) (sym c.taken_of.ensures.value)
    (take_steps known (seat_view c.args.seat.now) (seat_view c.turn.new.seat) c.args.after c.args.max footing_is c.turn.result c.turn.ensures.turn)

pub returns-clause-own : goal.returns-clause-own
returns-clause-own g c = gone_on c.args.seat.now c.turn.new.seat (cell.Plain (TakePending c.args.after c.args.max)) c.turn.result c.turn.ensures.own c.turn.ensures.turn
