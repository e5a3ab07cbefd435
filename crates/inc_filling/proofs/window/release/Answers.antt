use Rattle.std.proofs.Common.{refl}
use Rattle.inc_model.specs.declared.words.event.Event.TheVariants.{Release}
use Rattle.inc_filling.proofs.shown.EventShows.{quiet_shows}
use Rattle.inc_filling.proofs.steps.ClaimSteps.{release_done, release_ends, release_taken}
use Rattle.inc_filling.proofs.window.release.Goals as goal

pub returns-clause-ends : goal.returns-clause-ends
returns-clause-ends g c = λ start left stages events stands some none. release_ends start c.args.cell.now c.release.new.self c.args.window left stages events stands some none c.release.result.reply c.release.ensures.steps.reply_is

pub returns-clause-taken : goal.returns-clause-taken
returns-clause-taken g c = λ start left events taken left_is some.
    let r = release_done start c.args.cell.now c.release.new.self c.args.window left events taken left_is some c.release.result.reply c.release.ensures.steps.reply_is in
    (release_taken start c.args.cell.now c.release.new.self c.args.window left events taken left_is some r, r.cause)

pub returns-clause-shows : goal.returns-clause-shows
returns-clause-shows g c = quiet_shows c.args.cell.now c.release.new.self c.args.window.who (Release c.args.window) (λ reply does. does) (λ reply spot. refl) c.release.result.reply c.release.ensures.steps.reply_is
