use Rattle.std.proofs.Common.{sym, ap, ◌∙◌}
use Rattle.std.specs.Slots.{slots_items}
use Rattle.inc_turn.specs.Locks.{seat_view}
use Rattle.inc_turn.proofs.ClosingLemmas.{closed_by, view_of}
use Rattle.inc_turn.proofs.table.TurnLock.close.Goals as goal

pub returns : goal.returns
returns g c =
    let first = c.into_seat-first.result.me.0 in
    let view = view_of c.remove.result c.into_badge-badge.result first c.into_badge-badge.ensures c.into_seat-first.ensures.2 in
    record {
      closed = closed_by g.M.Machine.history g.M.Machine.footing c.join_seats.new.first.id first c.join_seats.new.first.me.0 c.args.self.table.shared.table_id c.args.seats.items c.remove.new.self.items c.requires.seats
          c.remove.result (slots_items c.close_with-closed.result.words) (slots_items c.close_with-closed.result.slots) c.take-machine.result c.close_with-closed.ensures.values.2 (sym (ap (λ s. seat_view s) c.remove.ensures.value) ∙ view) c.remove.ensures.by_index.2 c.join_seats.ensures.joined
          c.take-machine.ensures.value;
    }
