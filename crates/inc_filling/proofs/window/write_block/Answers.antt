use Rattle.std.proofs.Common.{Bool, [], ◌∷◌, ◌++◌, ◌-◌, sym, subst}
use Rattle.std.specs.Prelude.{IfOk, Result}
use Rattle.inc_filling.specs.declared.stop.FillStop.{FillStop}
use Rattle.inc_filling.specs.Grouped.{put_of}
use Rattle.inc_cell.specs.device.Puts.{digest_for}
use Rattle.inc_filling.specs.Stands.{PutsTo}
use Rattle.inc_filling.specs.Shown.{ShowsFile, with_stored}
use Rattle.inc_filling.proofs.shown.EventShows.{put_shows}
use Rattle.inc_filling.proofs.steps.PutSteps.{put_steps}
use Rattle.inc_filling.proofs.window.write_block.Goals as goal

pub returns : goal.returns
returns g c = record {
  steps = λ start left stages events stands some is may.
      subst (λ (result : Result Bool FillStop). PutsTo start c.args.window (left - 1) c.args.filling.now.index stages (events ++ put_of c.args.cell.now.opened c.args.window c.args.filling.now ∷ []) c.args.cell.now result c.put_digested.new.self) (sym c.go_on_from_put.ensures.value)
      (put_steps start c.args.cell.now c.put_digested.new.self c.args.window c.args.filling.now.index left (digest_for c.args.cell.now.opened c.args.filling.now.index c.args.filling.now.block.bytes) c.args.filling.now.block.bytes stages events stands some is may
      c.put_digested.result.reply c.put_digested.ensures.steps.reply_is);
  shows = λ file before.
      subst (λ (result : Result Bool FillStop). IfOk result (λ put. ShowsFile c.put_digested.new.self (with_stored c.args.cell.now.opened file c.args.filling.now put))) (sym c.go_on_from_put.ensures.value)
      (put_shows c.args.cell.now c.put_digested.new.self c.args.window.who c.args.window c.args.filling.now (digest_for c.args.cell.now.opened c.args.filling.now.index c.args.filling.now.block.bytes) file before c.put_digested.result.reply c.put_digested.ensures.steps.reply_is);
}
