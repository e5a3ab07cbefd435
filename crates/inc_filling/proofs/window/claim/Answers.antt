use Rattle.std.proofs.Common.{refl, sym, subst}
use Rattle.std.specs.Prelude.{Result}
use Rattle.inc_model.specs.declared.words.event.Event.TheVariants.{Claim}
use Rattle.inc_model.specs.declared.words.reply.Reply.{Reply}
use Rattle.inc_filling.specs.declared.stop.FillStop.{FillStop}
use Rattle.inc_filling.specs.Stands.{ClaimsTo}
use Rattle.inc_filling.proofs.shown.EventShows.{quiet_shows}
use Rattle.inc_filling.proofs.steps.ClaimSteps.{claim_comes}
use Rattle.inc_filling.proofs.window.claim.Goals as goal

pub returns : goal.returns
returns g c = record {
  claimed = subst (λ (result : Result Reply FillStop). ClaimsTo c.args.cell.now c.args.window c.args.places result c.claim.new.self) (sym c.go_on.ensures.value)
      (claim_comes c.args.cell.now c.claim.new.self c.args.window c.args.places c.requires.idle c.claim.result.reply c.claim.ensures.steps.reply_is);
  shows = quiet_shows c.args.cell.now c.claim.new.self c.args.window.who (Claim c.args.window c.args.places) (λ reply does. does) (λ reply spot. refl) c.claim.result.reply c.claim.ensures.steps.reply_is;
}
