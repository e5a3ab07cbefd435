use Rattle.std.proofs.Common.{[], ◌∷◌, ◌++◌, ◌-◌, sym, subst}
use Rattle.std.specs.Prelude.{OnOk, Result}
use Rattle.inc_model.specs.declared.words.event.Event.TheVariants.{Settle}
use Rattle.inc_model.specs.declared.words.reply.Reply.{Reply}
use Rattle.inc_filling.specs.declared.stop.FillStop.{FillStop}
use Rattle.inc_filling.specs.Stands.{StepsTo, synced_stage}
use Rattle.inc_filling.specs.Shown.{ShowsFile}
use Rattle.inc_filling.proofs.shown.EventShows.{settle_shows}
use Rattle.inc_filling.proofs.steps.SettleSteps.{settle_steps}
use Rattle.inc_filling.proofs.window.sync.Goals as goal

pub returns : goal.returns
returns g c = record {
  steps = λ start left stages events stands some.
      subst (λ (result : Result Reply FillStop). StepsTo start c.args.window (left - 1) (λ i. synced_stage (stages i)) (events ++ Settle c.args.window ∷ []) result c.settle.new.self) (sym c.go_on.ensures.value)
      (settle_steps start c.args.cell.now c.settle.new.self c.args.window left stages events stands some c.settle.result.reply c.settle.ensures.steps.reply_is);
  shows = λ file before.
      subst (λ (result : Result Reply FillStop). OnOk result (ShowsFile c.settle.new.self file)) (sym c.go_on.ensures.value)
      (settle_shows c.args.cell.now c.settle.new.self c.args.window.who c.args.window file before c.settle.result.reply c.settle.ensures.steps.reply_is);
}
