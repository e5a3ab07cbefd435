use Rattle.std.proofs.Common.{[], ◌∷◌, None, Err, length, sym, subst, arith}
use Rattle.std.specs.Prelude.{Result}
use Rattle.std.proofs.lemmas.Result.{err_from_is_err_and}
use Rattle.inc_model.specs.declared.words.event.Event.TheVariants.{Claim}
use Rattle.inc_model.specs.declared.words.reply.Reply.{Reply}
use Rattle.inc_cell.specs.seen.Seen.{state_now}
use Rattle.inc_filling.specs.Grouped.{FillsGroup, group_places, needed}
use Rattle.inc_filling.specs.declared.stop.FillStop.{FillStop}
use Rattle.inc_layout.specs.declared.opened.Opened.{Opened}
use Rattle.inc_model.specs.relation.State.{Digests}
use Rattle.inc_filling.specs.Shown.{ShowsFile, with_group}
use Rattle.inc_filling.proofs.shown.LoopShows.{on_ok}
use Rattle.inc_filling.proofs.steps.GroupSteps.{claim_fills, group_ends}
use Rattle.inc_filling.proofs.steps.LoopSteps.{stands_less}
use Rattle.inc_filling.proofs.group.fill_group.Goals as goal

pub returns-clause-fills : goal.returns-clause-fills
returns-clause-fills g c =
    let claimed = c.in_ok-claim.ensures.claimed in
    let stands = stands_less c.args.cell.now c.args.window (group_places c.args.group.now) (needed (length c.args.group.now) 1) (λ i. None) (Claim c.args.window (group_places c.args.group.now) ∷ []) c.claim.new.cell (omega arith) claimed.0 in
    group_ends c.args.cell.now c.store_group-end.new.cell c.release.new.cell c.args.window c.args.group.now c.store_group-end.new.stored.items (state_now c.claim.new.cell).map claimed.1 claimed.2 c.release.ensures.ends c.release.ensures.taken c.store_group-end.result
    (c.store_group-end.ensures.stores c.args.cell.now 1 (Claim c.args.window (group_places c.args.group.now) ∷ []) stands c.requires.may c.requires.distinct)

pub returns-in_err-claim-clause-fills : goal.returns-in_err-claim-clause-fills
returns-in_err-claim-clause-fills g c =
    let p = err_from_is_err_and c.from_residual.result c.from_residual.ensures.1 in
    subst (λ (result : Result (Unit {0}) FillStop). FillsGroup c.args.cell.now c.args.window c.args.group.now result c.clear.new.self.items c.claim.new.cell) (sym p.1)
    (subst (λ (stop : FillStop). FillsGroup {T = Unit {0}} c.args.cell.now c.args.window c.args.group.now (Err stop) c.clear.new.self.items c.claim.new.cell) (sym p.2)
    (claim_fills c.args.cell.now c.claim.new.cell c.args.window c.args.group.now c.clear.new.self.items Reply (Unit {0}) c.in_err-claim.field-0.0 c.in_err-claim.ensures.claimed))

pub returns-clause-shows : goal.returns-clause-shows
returns-clause-shows g c = λ file before.
    let claimed = c.in_ok-claim.ensures.claimed in
    let stands = stands_less c.args.cell.now c.args.window (group_places c.args.group.now) (needed (length c.args.group.now) 1) (λ i. None) (Claim c.args.window (group_places c.args.group.now) ∷ []) c.claim.new.cell (omega arith) claimed.0 in
    let stored = c.store_group-end.ensures.shows c.args.cell.now 1 (Claim c.args.window (group_places c.args.group.now) ∷ []) stands c.requires.may c.requires.distinct file (c.claim.ensures.shows file before) in
    on_ok c.store_group-end.result (ShowsFile c.store_group-end.new.cell (with_group c.claim.new.cell.opened (state_now c.claim.new.cell).map file c.args.group.now)) (ShowsFile c.release.new.cell (with_group c.args.cell.now.opened (state_now c.args.cell.now).map file c.args.group.now))
    (λ shown. subst (λ (m : Digests). ShowsFile c.release.new.cell (with_group c.args.cell.now.opened m file c.args.group.now)) claimed.1
    (subst (λ (o : Opened). ShowsFile c.release.new.cell (with_group o (state_now c.claim.new.cell).map file c.args.group.now)) claimed.0.taken.opened (c.release.ensures.shows (with_group c.claim.new.cell.opened (state_now c.claim.new.cell).map file c.args.group.now) shown))) stored
