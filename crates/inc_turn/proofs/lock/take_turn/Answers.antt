use Rattle.std.proofs.Common.{◌∙◌, arith}
use Rattle.atomic_table.specs.Table.{step}
use mathlib.Core.Option.{none}
use Rattle.inc_turn.proofs.TurnLemmas.{may_give_back, turn_taken}
use Rattle.inc_turn.proofs.lock.take_turn.Goals as goal

pub fetch_add-requires : goal.fetch_add-requires
fetch_add-requires g c = (
  c.step_held-answer.ensures.own.0 ∙ c.await_turn.ensures.own.0 ∙ c.draw-ticket.ensures.own.0 ∙ c.requires.own,
  omega (arith, c.requires.sized),
  may_give_back g.M.Machine.history g.M.Machine.footing g.M.Machine.steps g.met.M.Machine.grows g.met.M.Machine.stays c.args.board.now.table_id.slots c.step_held-answer.new.place.id c.draw-ticket.result c.args.number
      c.args.place.now.me.0 c.args.event c.step_held-answer.result c.draw-ticket.new.place.me c.await_turn.new.place.me c.step_held-answer.new.place.me c.requires.idle c.requires.number c.draw-ticket.ensures.ticket
      c.await_turn.ensures.entered c.step_held-answer.ensures.stepped,
)

pub returns-clause-turn : goal.returns-clause-turn
returns-clause-turn g c =
    (turn_taken g.M.Machine.history g.M.Machine.footing g.M.Machine.steps g.met.M.Machine.grows g.met.M.Machine.stays (step c.args.board.now.table_id.slots 0 1 0 none) c.fetch_add.result c.draw-ticket.result c.args.number
    c.args.place.now.me.0 c.args.event c.step_held-answer.result c.draw-ticket.new.place.me c.await_turn.new.place.me c.step_held-answer.new.place.me c.fetch_add.new.seat.me c.requires.idle c.requires.number c.draw-ticket.ensures.ticket
    c.await_turn.ensures.entered c.step_held-answer.ensures.stepped c.fetch_add.ensures.2).0

pub returns-clause-empty : goal.returns-clause-empty
returns-clause-empty g c =
    (turn_taken g.M.Machine.history g.M.Machine.footing g.M.Machine.steps g.met.M.Machine.grows g.met.M.Machine.stays (step c.args.board.now.table_id.slots 0 1 0 none) c.fetch_add.result c.draw-ticket.result c.args.number
    c.args.place.now.me.0 c.args.event c.step_held-answer.result c.draw-ticket.new.place.me c.await_turn.new.place.me c.step_held-answer.new.place.me c.fetch_add.new.seat.me c.requires.idle c.requires.number c.draw-ticket.ensures.ticket
    c.await_turn.ensures.entered c.step_held-answer.ensures.stepped c.fetch_add.ensures.2).1
