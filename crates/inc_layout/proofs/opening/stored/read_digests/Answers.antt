use Rattle.std.proofs.Common.{◌+◌, ◌*◌, refl, ap, ◌∙◌, rules, arith, length, length-append, length-drop, length-take}
use Rattle.std.proofs.lemmas.Result.{err_from_is_err_and}
use Rattle.inc_entry.specs.Entry.{area_places}
use Rattle.inc_layout.proofs.opened_file.FoundSteps.{found_at, found_none, no_cause, nothing_found}
use Rattle.inc_layout.proofs.LoopSteps.{digests_end}
use Rattle.inc_layout.proofs.opening.stored.read_digests.Goals as goal

pub fours-init : goal.fours-init
fours-init g c = record {
  kept = refl;
  quiet = refl;
  rooms = c.in_ok-rooms.ensures.sized;
  found = found_none _ (area_places c.args.areas.now) c.args.classes.now c.in_ok-digests.digests.items (search rules);
}

pub add_four-requires-clause-found : goal.add_four-requires-clause-found
add_four-requires-clause-found g c = rw c.fours.invariant.kept c.fours.invariant.found

pub fours-preserved : goal.fours-preserved
fours-preserved g c = record {
  kept = c.add_four.ensures.kept ∙ c.fours.invariant.kept;
  quiet = c.in_ok-add_four.ensures.cause.kept (λ e. cc) ∙ c.fours.invariant.quiet;
  rooms = simp (length-take, length-append, length-drop) (omega (arith, ap length c.as_mut_slice.ensures.value));
  found = found_at _ (area_places c.args.areas.now) c.args.classes.now _ (4 * c.fours.four + 4) (4 * (c.fours.four + 1)) (omega arith)
      (rw c.fours.invariant.kept at c.in_ok-add_four.ensures.found);
}

pub last-init : goal.last-init
last-init g c = record {
  kept = c.fours.invariant.kept;
  quiet = c.fours.invariant.quiet;
  rooms = c.fours.invariant.rooms;
  found = found_at _ (area_places c.args.areas.now) c.args.classes.now _ (4 * c.fours.four) _ (omega arith) c.fours.invariant.found;
}

pub add_one-requires-clause-found : goal.add_one-requires-clause-found
add_one-requires-clause-found g c = rw c.last.invariant.kept c.last.invariant.found

pub last-preserved : goal.last-preserved
last-preserved g c = record {
  kept = c.add_one.ensures.kept ∙ c.last.invariant.kept;
  quiet = c.in_ok-add_one.ensures.cause.kept (λ e. cc) ∙ c.last.invariant.quiet;
  rooms = simp (length-take, length-append, length-drop) (omega (arith, ap length c.as_mut_slice-in-last.ensures.value));
  found = rw c.last.invariant.kept at c.in_ok-add_one.ensures.found;
}

pub returns-in_err-add_four-clause-digests : goal.returns-in_err-add_four-clause-digests
returns-in_err-add_four-clause-digests g c =
    let p = err_from_is_err_and c.from_residual-in_err-add_four.result c.from_residual-in_err-add_four.ensures.1 in
    rw p.1 (nothing_found _ _)

pub returns-in_err-add_four-clause-cause : goal.returns-in_err-add_four-clause-cause
returns-in_err-add_four-clause-cause g c =
    let p = err_from_is_err_and c.from_residual-in_err-add_four.result c.from_residual-in_err-add_four.ensures.1 in
    let cause = rw c.fours.invariant.quiet at c.in_err-add_four.ensures.cause in
    rw (p.1, p.2) (record { later = cause.later; failed = λ e. cause.failed cc; kept = λ ne. cause.kept (λ e. ne cc) })

pub returns-in_err-add_one-clause-digests : goal.returns-in_err-add_one-clause-digests
returns-in_err-add_one-clause-digests g c =
    let p = err_from_is_err_and c.from_residual-in_err-add_one.result c.from_residual-in_err-add_one.ensures.1 in
    rw p.1 (nothing_found _ _)

pub returns-in_err-add_one-clause-cause : goal.returns-in_err-add_one-clause-cause
returns-in_err-add_one-clause-cause g c =
    let p = err_from_is_err_and c.from_residual-in_err-add_one.result c.from_residual-in_err-add_one.ensures.1 in
    let cause = rw c.last.invariant.quiet at c.in_err-add_one.ensures.cause in
    rw (p.1, p.2) (record { later = cause.later; failed = λ e. cause.failed cc; kept = λ ne. cause.kept (λ e. ne cc) })

pub returns-clause-digests : goal.returns-clause-digests
returns-clause-digests g c = digests_end _ (area_places c.args.areas.now) c.last.index c.args.classes.now _ (search rules) c.last.invariant.found.stored

pub returns-clause-cause : goal.returns-clause-cause
returns-clause-cause g c = no_cause _ _ _ _ c.last.invariant.quiet
