use Rattle.std.proofs.Common.{[], ◌∷◌, ◌++◌, ◌-◌, sym, subst}
use Rattle.std.specs.Prelude.{OnOk, Result}
use Rattle.inc_model.specs.declared.words.event.Event.TheVariants.{PutPlace}
use Rattle.inc_model.specs.declared.words.file_state.Stage.TheVariants.{Placed}
use Rattle.inc_model.specs.declared.words.reply.Reply.{Reply}
use Rattle.inc_filling.specs.declared.stop.FillStop.{FillStop}
use Rattle.inc_filling.specs.Stands.{StepsTo, staged_then}
use Rattle.inc_filling.specs.Shown.{ShowsFile, with_place_of}
use Rattle.inc_filling.proofs.steps.PlaceSteps.{place_shows, place_steps}
use Rattle.inc_filling.proofs.window.write_place.Goals as goal

pub returns : goal.returns
returns g c = record {
  steps = λ start left stages events stands some is.
      subst (λ (result : Result Reply FillStop). StepsTo start c.args.window (left - 1) (staged_then c.args.index Placed stages) (events ++ PutPlace c.args.window c.args.index ∷ []) result c.put_place.new.self) (sym c.go_on.ensures.value)
      (place_steps start c.args.cell.now c.put_place.new.self c.args.window c.args.index left stages events stands some is c.put_place.result.reply c.put_place.ensures.steps.reply_is);
  shows = λ start left stages events stands some is file before.
      subst (λ (result : Result Reply FillStop). OnOk result (ShowsFile c.put_place.new.self (with_place_of c.args.cell.now.opened file c.args.index))) (sym c.go_on.ensures.value)
      (place_shows start c.args.cell.now c.put_place.new.self c.args.window c.args.index left stages events stands some is c.put_place.result.reply c.put_place.ensures.steps.reply_is file before);
}
