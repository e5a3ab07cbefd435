use Rattle.std.proofs.Common.{◌≡◌, ℕ, List, ◌+◌, ◌-◌, ◌++◌, ◌∷◌, [], cond, length, take, sym, ap, subst, ◌∙◌, arith, rules}
use Rattle.std.specs.Prelude.{Result}
use Rattle.std.proofs.lemmas.Iterator.Adapters.{YieldsList-from_vec}
use Rattle.std.proofs.lemmas.Iterator.Consumers.{YieldsList-end, YieldsList-turn}
use Rattle.std.proofs.lemmas.List.{length_push}
use Rattle.std.proofs.lemmas.Result.{err_from_is_err_and}
use Rattle.inc_model.specs.declared.words.file_state.Stage.TheVariants.{Written}
use Rattle.inc_turn.specs.Locks.{seat_view}
use Rattle.inc_filling.specs.Grouped.{puts_of}
use Rattle.inc_filling.specs.Stands.{stage_among}
use Rattle.inc_filling.specs.declared.stop.FillStop.{FillStop}
use Rattle.inc_handle.specs.UnderWay.{PutsFirst, PutsOwnGroup, PutsSome, is_stored}
use Rattle.inc_handle.specs.declared.fill.window.PutEnd.{PutEnd}
use Rattle.inc_handle.proofs.fills.PutLoops.{may_next, put_all, put_broke, put_more, put_none}
use Rattle.inc_handle.proofs.fills.Turns.{gone_nowhere, gone_twice}
use Rattle.inc_handle.proofs.fill.group.write_blocks.Goals as goal

pub loop-filling-init : goal.loop-filling-init
loop-filling-init g c = record {
  own = gone_nowhere c.args.seat.now;
  room = c.requires.room;
  counts = (omega (arith, ap (λ (l : List ℕ). length l) c.requires.empty.0), omega (arith, ap (λ (l : List PutEnd). length l) c.requires.empty.1));
  first = λ known start left events h may distinct.
      subst (λ (l : List ℕ). PutsFirst known start c.args.window left events c.args.group.items 0 c.args.ends.now.items l (seat_view c.args.seat.now)) (sym c.requires.empty.0)
      (subst (λ (l : List PutEnd). PutsFirst known start c.args.window left events c.args.group.items 0 l [] (seat_view c.args.seat.now)) (sym c.requires.empty.1)
      (put_none known start c.args.window left events c.args.group.items may distinct (seat_view c.args.seat.now) h));
}

pub loop-filling-preserved : goal.loop-filling-preserved
loop-filling-preserved g c =
    let gives = c.into_iter-filling-iterator.ensures.into_iter_gives in
    let group = c.args.group.items in
    let count : c.into_iter-filling-iterator.result.rest.len ≡ length group = gives.1 ∙ search rules in
    let turn = YieldsList-turn (YieldsList-from_vec {s = c.into_iter-filling-iterator.result} group gives.0 count) c.loop-filling.yielded c.loop-filling.filling-iterator c.loop-filling.yielded_by c.next.result c.next.new.self c.in-Some.filling c.in-Some.is c.next.ensures.steps in
    let k : ℕ = length c.loop-filling.yielded in
    let pushed : length (c.loop-filling.yielded ++ c.in-Some.filling ∷ []) ≡ k + 1 = length_push c.loop-filling.yielded c.in-Some.filling in
    record {
      own = gone_twice c.args.seat.now c.loop-filling.seat c.write_block.new.seat c.loop-filling.invariant.own c.write_block.ensures.own;
      room = (let r = c.loop-filling.invariant.room in let same = c.keep_stored.ensures.room in omega arith, let r = c.loop-filling.invariant.room in let same = c.push_reserved.ensures.capacity in omega arith);
      counts = (let n = c.loop-filling.invariant.counts in let len = c.keep_stored.ensures.len in omega arith, let n = c.loop-filling.invariant.counts in let len = c.push_reserved.ensures.len in omega arith);
      first = λ known start left events h may distinct.
          let inv = c.loop-filling.invariant.first known start left events h may distinct in
          let put = c.in_ok-end.ensures.steps known start (length group - k + left) (stage_among c.loop-filling.stored.items Written) (events ++ puts_of known.opened c.args.window (take k group)) inv.runs (omega (arith, turn.0))
          (may_next known start c.args.window left events group may distinct k c.in-Some.filling turn.1 turn.0 c.loop-filling.ends.items c.loop-filling.stored.items (seat_view c.loop-filling.seat) inv) in
          let more = put_more known start c.args.window left events group may distinct k c.in-Some.filling turn.1 turn.0 c.loop-filling.ends.items c.loop-filling.stored.items (seat_view c.loop-filling.seat) inv c.in_ok-end.end (seat_view c.write_block.new.seat)
          c.write_block.ensures.own.mine c.write_block.ensures.own.adds put in
          subst (λ (n : ℕ). PutsFirst known start c.args.window left events group n c.push_reserved.new.self.items c.keep_stored.new.stored.items (seat_view c.write_block.new.seat)) (sym pushed)
          (subst (λ (l : List ℕ). PutsFirst known start c.args.window left events group (k + 1) c.push_reserved.new.self.items l (seat_view c.write_block.new.seat)) (sym c.keep_stored.ensures.items)
          (subst (λ (l : List PutEnd). PutsFirst known start c.args.window left events group (k + 1) l (cond (is_stored c.in_ok-end.end) (c.loop-filling.stored.items ++ c.in-Some.filling.index ∷ []) c.loop-filling.stored.items) (seat_view c.write_block.new.seat))
          (sym c.push_reserved.ensures.items) more));
    }

pub returns : goal.returns
returns g c =
    let gives = c.into_iter-filling-iterator.ensures.into_iter_gives in
    let group = c.args.group.items in
    let count : c.into_iter-filling-iterator.result.rest.len ≡ length group = gives.1 ∙ search rules in
    let end = YieldsList-end (YieldsList-from_vec {s = c.into_iter-filling-iterator.result} group gives.0 count) c.loop-filling.yielded c.loop-filling.filling-iterator c.loop-filling.yielded_by c.next.result c.next.new.self c.in-None.is c.next.ensures.steps in
    record {
      own = c.loop-filling.invariant.own;
      few = (let n = c.loop-filling.invariant.counts in omega (arith, end.1));
      puts = λ known start left events h may distinct.
          put_all known start c.args.window left events group may distinct (length c.loop-filling.yielded) c.loop-filling.ends.items c.loop-filling.stored.items (seat_view c.loop-filling.seat) end.1 (c.loop-filling.invariant.first known start left events h may distinct);
    }

pub returns-in_err-end : goal.returns-in_err-end
returns-in_err-end g c =
    let p = err_from_is_err_and c.from_residual.result c.from_residual.ensures.1 in
    let gives = c.into_iter-filling-iterator.ensures.into_iter_gives in
    let group = c.args.group.items in
    let count : c.into_iter-filling-iterator.result.rest.len ≡ length group = gives.1 ∙ search rules in
    let turn = YieldsList-turn (YieldsList-from_vec {s = c.into_iter-filling-iterator.result} group gives.0 count) c.loop-filling.yielded c.loop-filling.filling-iterator c.loop-filling.yielded_by c.next.result c.next.new.self c.in-Some.filling c.in-Some.is c.next.ensures.steps in
    let k : ℕ = length c.loop-filling.yielded in
    record {
      own = gone_twice c.args.seat.now c.loop-filling.seat c.write_block.new.seat c.loop-filling.invariant.own c.write_block.ensures.own;
      few = (let n = c.loop-filling.invariant.counts in omega (arith, turn.0));
      puts = λ known start left events h may distinct.
          let inv = c.loop-filling.invariant.first known start left events h may distinct in
          subst (λ (result : Result (Unit {0}) FillStop). PutsOwnGroup known start c.args.window left events group result c.loop-filling.ends.items c.loop-filling.stored.items (seat_view c.write_block.new.seat)) (sym p.1)
          (subst (λ (stop : FillStop). PutsSome known start c.args.window left events group c.loop-filling.ends.items c.loop-filling.stored.items stop (seat_view c.write_block.new.seat)) (sym p.2)
          (put_broke known start c.args.window left events group may distinct k c.in-Some.filling turn.1 turn.0 c.loop-filling.ends.items c.loop-filling.stored.items (seat_view c.loop-filling.seat) inv c.in_err-end.field-0.0 (seat_view c.write_block.new.seat)
          c.write_block.ensures.own.mine c.write_block.ensures.own.adds
          (c.in_err-end.ensures.steps known start (length group - k + left) (stage_among c.loop-filling.stored.items Written) (events ++ puts_of known.opened c.args.window (take k group)) inv.runs (omega (arith, turn.0))
          (may_next known start c.args.window left events group may distinct k c.in-Some.filling turn.1 turn.0 c.loop-filling.ends.items c.loop-filling.stored.items (seat_view c.loop-filling.seat) inv))));
    }
