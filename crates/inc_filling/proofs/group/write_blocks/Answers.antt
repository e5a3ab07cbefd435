use Rattle.std.proofs.Common.{◌≡◌, ℕ, List, [], ◌∷◌, ◌+◌, ◌-◌, ◌<◌, ◌++◌, None, cond, length, take, refl, sym, ap, subst, ◌∙◌, arith}
use Rattle.std.specs.Prelude.{Result}
use Rattle.std.proofs.lemmas.List.{take_all}
use Rattle.std.proofs.lemmas.Result.{err_from_is_err_and}
use Rattle.inc_model.specs.declared.words.event.Event.{Event}
use Rattle.inc_model.specs.declared.words.file_state.Stage.TheVariants.{Written}
use Rattle.inc_cell.specs.seen.Seen.{Seen, state_now}
use Rattle.inc_filling.specs.Grouped.{AllMayBeFilled, AreDistinct, PutsFront, PutsGroup, group_indices, puts_of}
use Rattle.inc_filling.specs.Shown.{ShowsFile, SpottedBytes, with_blocks}
use Rattle.inc_filling.specs.Stands.{StandsAt, stage_among}
use Rattle.inc_filling.specs.declared.filling.Filling.{Filling}
use Rattle.inc_filling.specs.declared.stop.FillStop.{FillStop}
use Rattle.inc_filling.proofs.shown.LoopShows.{blocks_next, on_err}
use Rattle.inc_filling.proofs.steps.PutLoop.{PutsFirst, may_next, not_yet, put_all, put_broke, put_more, put_none}
use Rattle.inc_filling.proofs.group.write_blocks.Goals as goal
use Rattle.inc_filling.proofs.group.write_blocks.Goals.{then-branch, else-branch}

pub loop-at-init : goal.loop-at-init
loop-at-init g c = record {
  few = omega (arith, ap (λ (l : List ℕ). length l) c.requires.empty);
  room = refl;
  first = λ start left events h may distinct.
      subst (λ (l : List ℕ). PutsFirst start c.args.window left events c.args.group.now (state_now c.args.cell.now).map 0 l c.args.cell.now) (sym c.requires.empty)
      (put_none start c.args.window left events c.args.group.now (state_now c.args.cell.now).map may distinct c.args.cell.now h refl);
  shows = λ start left events h may distinct file before. before;
}

pub loop-at-preserved : goal.loop-at-preserved
loop-at-preserved g c =
    let lt : c.loop-at.at < length c.args.group.now = c.loop-at-test.true in
    let few = c.loop-at.invariant.few in
    let filling = c.index-group-at.result in
    let then = λ (start : Seen) (left : ℕ) (events : List Event) (h : StandsAt start c.args.window (length c.args.group.now + left) (λ i. None) events c.args.cell.now) (may : AllMayBeFilled (state_now start) (group_indices c.args.group.now))
    (distinct : AreDistinct (group_indices c.args.group.now)).
    let inv = c.loop-at.invariant.first start left events h may distinct in
    put_more start c.args.window left events c.args.group.now (state_now c.args.cell.now).map may distinct c.loop-at.at filling c.index-group-at.is lt c.loop-at.stored.items c.loop-at.cell inv c.in_ok-write_block.field-0 c.write_block.new.cell
    (c.in_ok-write_block.ensures.steps start (length c.args.group.now - c.loop-at.at + left) (stage_among c.loop-at.stored.items Written) (events ++ puts_of start.opened c.args.window (take c.loop-at.at c.args.group.now)) inv.stands (omega arith)
    (not_yet start c.args.window left events c.args.group.now (state_now c.args.cell.now).map may distinct c.loop-at.at filling c.index-group-at.is lt c.loop-at.stored.items c.loop-at.cell inv)
    (may_next start c.args.window left events c.args.group.now (state_now c.args.cell.now).map may distinct c.loop-at.at filling c.index-group-at.is lt c.loop-at.stored.items c.loop-at.cell inv)) in
    let shown = λ (start : Seen) (left : ℕ) (events : List Event) (h : StandsAt start c.args.window (length c.args.group.now + left) (λ i. None) events c.args.cell.now) (may : AllMayBeFilled (state_now start) (group_indices c.args.group.now))
    (distinct : AreDistinct (group_indices c.args.group.now)) (file : SpottedBytes) (before : ShowsFile c.args.cell.now file).
    let inv = c.loop-at.invariant.first start left events h may distinct in
    let outcome = c.in_ok-write_block.ensures.steps start (length c.args.group.now - c.loop-at.at + left) (stage_among c.loop-at.stored.items Written) (events ++ puts_of start.opened c.args.window (take c.loop-at.at c.args.group.now)) inv.stands (omega arith)
    (not_yet start c.args.window left events c.args.group.now (state_now c.args.cell.now).map may distinct c.loop-at.at filling c.index-group-at.is lt c.loop-at.stored.items c.loop-at.cell inv)
    (may_next start c.args.window left events c.args.group.now (state_now c.args.cell.now).map may distinct c.loop-at.at filling c.index-group-at.is lt c.loop-at.stored.items c.loop-at.cell inv) in
    blocks_next c.args.cell.now.opened c.loop-at.cell.opened (inv.stands.taken.opened ∙ sym h.taken.opened) file c.write_block.new.cell (state_now c.args.cell.now).map (state_now c.loop-at.cell).map inv.same_map c.args.group.now c.loop-at.at filling
    c.in_ok-write_block.field-0 lt c.index-group-at.is outcome.absent (c.in_ok-write_block.ensures.shows (with_blocks c.args.cell.now.opened (state_now c.args.cell.now).map file (take c.loop-at.at c.args.group.now)) (c.loop-at.invariant.shows start left events h may distinct file before)) in
    elim c.if-branch.branch [
      | then-branch w ↦
          let items : cond c.in_ok-write_block.field-0 (c.loop-at.stored.items ++ filling.index ∷ []) c.loop-at.stored.items ≡ w.push_reserved.new.self.items = ap (λ b. cond b (c.loop-at.stored.items ++ filling.index ∷ []) c.loop-at.stored.items) w.if-branch.true ∙ sym w.push_reserved.ensures.items in
          rw w.stored-is
          record {
            few = omega (arith, w.push_reserved.ensures.len);
            room = w.push_reserved.ensures.capacity ∙ c.loop-at.invariant.room;
            first = λ start left events h may distinct.
                subst (λ (l : List ℕ). PutsFirst start c.args.window left events c.args.group.now (state_now c.args.cell.now).map (c.loop-at.at + 1) l c.write_block.new.cell) items (then start left events h may distinct);
            shows = shown;
          }
      | else-branch w ↦
          let items : cond c.in_ok-write_block.field-0 (c.loop-at.stored.items ++ filling.index ∷ []) c.loop-at.stored.items ≡ c.loop-at.stored.items = ap (λ b. cond b (c.loop-at.stored.items ++ filling.index ∷ []) c.loop-at.stored.items) w.if-branch.false in
          rw w.stored-is
          record {
            few = omega arith;
            room = c.loop-at.invariant.room;
            first = λ start left events h may distinct.
                subst (λ (l : List ℕ). PutsFirst start c.args.window left events c.args.group.now (state_now c.args.cell.now).map (c.loop-at.at + 1) l c.write_block.new.cell) items (then start left events h may distinct);
            shows = shown;
          }
    ]

pub returns : goal.returns
returns g c =
    let few = c.loop-at.invariant.few in
    record {
      puts = λ start left events h may distinct.
          put_all start c.args.window left events c.args.group.now (state_now c.args.cell.now).map may distinct c.loop-at.at c.loop-at.stored.items c.loop-at.cell c.loop-at-test.false (c.loop-at.invariant.first start left events h may distinct);
      shows = λ start left events h may distinct file before.
          subst (λ (l : List Filling). ShowsFile c.loop-at.cell (with_blocks c.args.cell.now.opened (state_now c.args.cell.now).map file l)) (take_all c.loop-at.at c.args.group.now c.loop-at-test.false) (c.loop-at.invariant.shows start left events h may distinct file before);
      fewer = omega (arith, c.loop-at.auto.at-end);
      room = c.loop-at.invariant.room;
    }

pub returns-in_err-write_block : goal.returns-in_err-write_block
returns-in_err-write_block g c =
    let lt : c.loop-at.at < length c.args.group.now = c.loop-at-test.true in
    let few = c.loop-at.invariant.few in
    let filling = c.index-group-at.result in
    let p = err_from_is_err_and c.from_residual.result c.from_residual.ensures.1 in
    record {
      puts = λ start left events h may distinct.
          let inv = c.loop-at.invariant.first start left events h may distinct in
          subst (λ (result : Result (Unit {0}) FillStop). PutsGroup start c.args.window left events c.args.group.now (state_now c.args.cell.now).map result c.loop-at.stored.items c.write_block.new.cell) (sym p.1)
          (subst (λ (stop : FillStop). PutsFront start c.args.window left events c.args.group.now stop c.write_block.new.cell) (sym p.2)
          (put_broke start c.args.window left events c.args.group.now (state_now c.args.cell.now).map may distinct c.loop-at.at filling c.index-group-at.is lt c.loop-at.stored.items c.loop-at.cell inv c.in_err-write_block.field-0.0 c.write_block.new.cell
          (c.in_err-write_block.ensures.steps start (length c.args.group.now - c.loop-at.at + left) (stage_among c.loop-at.stored.items Written) (events ++ puts_of start.opened c.args.window (take c.loop-at.at c.args.group.now)) inv.stands (omega arith)
          (not_yet start c.args.window left events c.args.group.now (state_now c.args.cell.now).map may distinct c.loop-at.at filling c.index-group-at.is lt c.loop-at.stored.items c.loop-at.cell inv)
          (may_next start c.args.window left events c.args.group.now (state_now c.args.cell.now).map may distinct c.loop-at.at filling c.index-group-at.is lt c.loop-at.stored.items c.loop-at.cell inv))));
      shows = λ start left events h may distinct file before. on_err c.from_residual.result (ShowsFile c.write_block.new.cell (with_blocks c.args.cell.now.opened (state_now c.args.cell.now).map file c.args.group.now)) _ p.1;
      fewer = omega arith;
      room = c.loop-at.invariant.room;
    }
