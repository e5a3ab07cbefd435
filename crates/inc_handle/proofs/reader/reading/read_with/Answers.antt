use Rattle.inc_handle.proofs.reads.ReadLemmas.{crowded_told, faulted_told, given_told, late_told, pathless_told, starved_told}
use Rattle.inc_handle.proofs.reads.ShowLemmas.{few_known}
use Rattle.inc_handle.proofs.reader.reading.read_with.Goals as goal

pub numbers_of-numbers-requires : goal.numbers_of-numbers-requires
numbers_of-numbers-requires g c = record { few = few_known _ _ _ c.requires.known }

pub returns-in-Given-clause-told : goal.returns-in-Given-clause-told
returns-in-Given-clause-told g c =
    given_told (g.C.Clock.may_answer c.args.clock.now) _ _ _ _ _ _ c.now-now.result _ c.now-now.ensures.possible c.in-Ok.ensures.told _ _ _ _ c.in-Given.ensures.told c.show.ensures.told

pub returns-in-Late-clause-told : goal.returns-in-Late-clause-told
returns-in-Late-clause-told g c =
    late_told (g.C.Clock.may_answer c.args.clock.now) _ _ _ _ _ _ c.now-now.result _ c.now-now.ensures.possible c.in-Ok.ensures.told _ _ _ _ c.in-Late.ensures.told

pub returns-in-Pathless-clause-told : goal.returns-in-Pathless-clause-told
returns-in-Pathless-clause-told g c =
    pathless_told (g.C.Clock.may_answer c.args.clock.now) _ _ _ _ _ _ c.now-now.result _ c.now-now.ensures.possible c.in-Ok.ensures.told _ _ _ c.in-Pathless.ensures.told

pub returns-in-Faulted-clause-told : goal.returns-in-Faulted-clause-told
returns-in-Faulted-clause-told g c =
    faulted_told (g.C.Clock.may_answer c.args.clock.now) _ _ _ _ _ _ c.now-now.result _ c.now-now.ensures.possible c.in-Ok.ensures.told _ _ _ _ c.in-Faulted.ensures.told c.cancel.ensures.told

pub returns-in-Crowded-clause-told : goal.returns-in-Crowded-clause-told
returns-in-Crowded-clause-told g c =
    crowded_told (g.C.Clock.may_answer c.args.clock.now) _ _ _ _ _ _ c.now-now.result _ c.now-now.ensures.possible c.in-Ok.ensures.told _ _ _ _ c.in-Crowded.ensures.told c.cancel-in-Crowded.ensures.told

pub returns-in-Starved-clause-told : goal.returns-in-Starved-clause-told
returns-in-Starved-clause-told g c =
    starved_told (g.C.Clock.may_answer c.args.clock.now) _ _ _ _ _ _ c.now-now.result _ c.now-now.ensures.possible c.in-Ok.ensures.told _ _ c.in-Starved.ensures.told c.cancel-in-Starved.ensures.told
