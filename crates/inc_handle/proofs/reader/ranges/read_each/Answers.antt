use Rattle.std.proofs.Common.{ℕ, ◌+◌, ap, sym, ◌∙◌}
use Rattle.std.proofs.lemmas.List.{length_push}
use Rattle.inc_turn.proofs.SeatLemmas.{same_seat_twice}
use Rattle.inc_handle.proofs.reads.ReadLemmas.{one_read_more}
use Rattle.inc_handle.proofs.reader.ranges.read_each.Goals as goal

pub loop-offset-preserved : goal.loop-offset-preserved
loop-offset-preserved g c =
    let invariant = c.loop-offset.invariant in
    record {
      same = same_seat_twice _ _ _ invariant.same c.read_cached.ensures.own;
      footing = c.read_cached.ensures.footing;
      of_file = c.read_cached.ensures.of_file;
      at = c.push_reserved.ensures.len ∙ ap (λ (n : ℕ). n + 1) invariant.at;
      items = rw c.push_reserved.ensures.items (length_push _ _ ∙ ap (λ (n : ℕ). n + 1) invariant.items);
      room = c.push_reserved.ensures.capacity ∙ invariant.room;
      told =
          rw c.push_reserved.ensures.items
          (one_read_more (g.C.Clock.may_answer c.args.clock.now) _ _ _ _ _ _ _ _ _ (ap (λ (n : ℕ). c.args.start + n) (sym invariant.items)) invariant.told c.read_cached.ensures.answers);
    }
