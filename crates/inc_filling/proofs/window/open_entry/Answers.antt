use Rattle.std.proofs.Common.{[], ◌∷◌, ◌++◌, ◌-◌, sym, subst}
use Rattle.std.specs.Prelude.{OnOk, Result}
use Rattle.inc_model.specs.declared.words.event.Event.TheVariants.{Gate}
use Rattle.inc_model.specs.declared.words.file_state.Stage.TheVariants.{Gated}
use Rattle.inc_model.specs.declared.words.reply.Reply.{Reply}
use Rattle.inc_filling.specs.declared.stop.FillStop.{FillStop}
use Rattle.inc_filling.specs.Stands.{StepsTo, staged_then}
use Rattle.inc_filling.specs.Shown.{ShowsFile, with_gate}
use Rattle.inc_filling.proofs.steps.GateSteps.{gate_shows, gate_steps}
use Rattle.inc_filling.proofs.window.open_entry.Goals as goal

pub returns : goal.returns
returns g c = record {
  steps = λ start left stages events stands some is.
      subst (λ (result : Result Reply FillStop). StepsTo start c.args.window (left - 1) (staged_then c.args.index Gated stages) (events ++ Gate c.args.window c.args.index ∷ []) result c.gate.new.self) (sym c.go_on.ensures.value)
      (gate_steps start c.args.cell.now c.gate.new.self c.args.window c.args.index left stages events stands some is c.gate.result.reply c.gate.ensures.steps.reply_is);
  shows = λ start left stages events stands some is file before.
      subst (λ (result : Result Reply FillStop). OnOk result (ShowsFile c.gate.new.self (with_gate c.args.cell.now.opened file c.args.index))) (sym c.go_on.ensures.value)
      (gate_shows start c.args.cell.now c.gate.new.self c.args.window c.args.index left stages events stands some is c.gate.result.reply c.gate.ensures.steps.reply_is file before);
}
