use Rattle.std.proofs.Common.{◌+◌, ◌-◌, ◌<◌, ◌++◌, List, ℕ, length, take, refl, sym, subst, ◌∙◌, arith}
use Rattle.std.specs.Prelude.{Result, map}
use Rattle.std.proofs.lemmas.List.{take_all}
use Rattle.std.proofs.lemmas.Result.{err_from_is_err_and}
use Rattle.inc_filling.specs.Grouped.{EndsEarly, MovesEach, gates_of_each, puts_among}
use Rattle.inc_filling.specs.declared.stop.FillStop.{FillStop}
use Rattle.inc_model.specs.declared.words.event.Event.TheVariants.{Gate}
use Rattle.inc_model.specs.declared.words.file_state.Stage.TheVariants.{Settled, Gated}
use Rattle.inc_filling.specs.Shown.{ShowsFile, with_gates}
use Rattle.inc_filling.specs.Stands.{staged_first}
use Rattle.inc_filling.proofs.shown.LoopShows.{gates_next, on_err}
use Rattle.inc_filling.proofs.steps.LoopSteps.{all_moved, broke_at, next_is, none_yet, one_more}
use Rattle.inc_filling.proofs.group.open_entries.Goals as goal

pub loop-at-init : goal.loop-at-init
loop-at-init g c = record {
  first = λ start left events h distinct. none_yet start c.args.window c.args.stored.now distinct Settled Gated (Gate c.args.window) (λ i. refl) left events c.args.cell.now h;
  shows = λ start left events h distinct file before. before;
}

pub loop-at-preserved : goal.loop-at-preserved
loop-at-preserved g c =
    let lt : c.loop-at.at < length c.args.stored.now = c.loop-at-test.true in
    record {
      first = λ start left events h distinct.
          one_more start c.args.window c.args.stored.now distinct Settled Gated (Gate c.args.window) (λ i. refl) c.loop-at.at left events c.open_entry.new.cell lt
          (c.in_ok-open_entry.ensures.steps start (length c.args.stored.now - c.loop-at.at + left) (staged_first (take c.loop-at.at c.args.stored.now) Gated c.args.stored.now Settled) (events ++ map (Gate c.args.window) (take c.loop-at.at c.args.stored.now)) (c.loop-at.invariant.first start left events h distinct) (omega arith)
          (next_is start c.args.window c.args.stored.now distinct Settled Gated (Gate c.args.window) (λ i. refl) c.loop-at.at lt));
      shows = λ start left events h distinct file before.
          gates_next c.args.cell.now.opened c.loop-at.cell.opened ((c.loop-at.invariant.first start left events h distinct).taken.opened ∙ sym h.taken.opened) file c.open_entry.new.cell c.args.stored.now c.loop-at.at lt
          (c.in_ok-open_entry.ensures.shows start (length c.args.stored.now - c.loop-at.at + left) (staged_first (take c.loop-at.at c.args.stored.now) Gated c.args.stored.now Settled) (events ++ map (Gate c.args.window) (take c.loop-at.at c.args.stored.now)) (c.loop-at.invariant.first start left events h distinct) (omega arith)
          (next_is start c.args.window c.args.stored.now distinct Settled Gated (Gate c.args.window) (λ i. refl) c.loop-at.at lt) (with_gates c.args.cell.now.opened file (take c.loop-at.at c.args.stored.now)) (c.loop-at.invariant.shows start left events h distinct file before));
    }

pub returns : goal.returns
returns g c = record {
  moves = λ start left events h distinct. all_moved start c.args.window c.args.stored.now distinct Settled Gated (Gate c.args.window) (λ i. refl) c.loop-at.at left events c.loop-at.cell c.loop-at-test.false (c.loop-at.invariant.first start left events h distinct);
  shows = λ start left events h distinct file before.
      subst (λ (l : List ℕ). ShowsFile c.loop-at.cell (with_gates c.args.cell.now.opened file l)) (take_all c.loop-at.at c.args.stored.now c.loop-at-test.false) (c.loop-at.invariant.shows start left events h distinct file before);
}

pub returns-in_err-open_entry : goal.returns-in_err-open_entry
returns-in_err-open_entry g c =
    let p = err_from_is_err_and c.from_residual.result c.from_residual.ensures.1 in
    record {
      moves = λ start left events h distinct.
          let lt : c.loop-at.at < length c.args.stored.now = c.loop-at-test.true in
          subst (λ (result : Result (Unit {0}) FillStop). MovesEach start c.args.window left c.args.stored.now Gated events (gates_of_each c.args.window c.args.stored.now) result c.open_entry.new.cell) (sym p.1)
          (subst (λ (stop : FillStop). EndsEarly start c.args.window left (puts_among events) stop c.open_entry.new.cell) (sym p.2)
          (broke_at start c.args.window c.args.stored.now distinct Settled Gated (Gate c.args.window) (λ i. refl) c.loop-at.at left events c.in_err-open_entry.field-0.0 c.open_entry.new.cell lt
          (c.in_err-open_entry.ensures.steps start (length c.args.stored.now - c.loop-at.at + left) (staged_first (take c.loop-at.at c.args.stored.now) Gated c.args.stored.now Settled) (events ++ map (Gate c.args.window) (take c.loop-at.at c.args.stored.now)) (c.loop-at.invariant.first start left events h distinct) (omega arith)
          (next_is start c.args.window c.args.stored.now distinct Settled Gated (Gate c.args.window) (λ i. refl) c.loop-at.at lt))));
      shows = λ start left events h distinct file before. on_err c.from_residual.result (ShowsFile c.open_entry.new.cell (with_gates c.args.cell.now.opened file c.args.stored.now)) _ p.1;
    }
