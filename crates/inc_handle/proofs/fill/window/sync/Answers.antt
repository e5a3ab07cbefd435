use Rattle.std.proofs.Common.{ℕ, [], ◌∷◌, ◌++◌, ◌-◌, sym, subst}
use Rattle.std.specs.Prelude.{Result}
use Rattle.inc_model.specs.declared.words.event.Event.TheVariants.{Settle}
use Rattle.inc_turn.specs.Locks.{seat_view}
use Rattle.inc_filling.specs.Stands.{synced_stage}
use Rattle.inc_filling.specs.declared.stop.FillStop.{FillStop}
use Rattle.inc_handle.specs.UnderWay.{SyncSteps}
use Rattle.inc_handle.proofs.fills.Steps.{sync_steps}
use Rattle.inc_cell.specs.declared.words.event.CellEvent.TheVariants as cell
use Rattle.inc_handle.proofs.fills.Turns.{gone_on}
use Rattle.inc_handle.proofs.fill.window.sync.Goals as goal

pub returns-clause-steps : goal.returns-clause-steps
returns-clause-steps g c = λ known start left stages events h some.
    subst (λ (result : Result ℕ FillStop). SyncSteps known start c.args.window (left - 1) (λ i. synced_stage (stages i)) (events ++ Settle c.args.window ∷ []) result (seat_view c.turn-answer.new.seat)) (sym c.go_on_at.ensures.value)
    (sync_steps known start (seat_view c.args.seat.now) (seat_view c.turn-answer.new.seat) c.args.window left stages events h some c.turn-answer.result c.turn-answer.ensures.turn)

pub returns-clause-own : goal.returns-clause-own
returns-clause-own g c = gone_on c.args.seat.now c.turn-answer.new.seat (cell.Plain (Settle c.args.window)) c.turn-answer.result c.turn-answer.ensures.own c.turn-answer.ensures.turn
