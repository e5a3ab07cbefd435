use Rattle.std.proofs.lemmas.Result.{err_from_is_err_and}
use Rattle.inc_tree.specs.read_block.Verified.{content_of}
use Rattle.std.specs.Prelude.{Some}
use Rattle.inc_layout.proofs.block_read.StaticSteps.{all_present, corrupt, good, has_block, no_hash_block, no_place, path_read}
use Rattle.inc_layout.proofs.reading.static_read.read_proved.Goals as goal

pub returns-in_err-place-clause-answer : goal.returns-in_err-place-clause-answer
returns-in_err-place-clause-answer g c =
    let p = err_from_is_err_and c.from_residual.result c.from_residual.ensures.1 in
    rw (p.1, p.2) (no_place content_of _ (Some c.args.root.now) c.args.areas.now c.args.classes.now c.args.index _ c.in_err-place.ensures.value)

pub returns-in_err-check_path_there-clause-answer : goal.returns-in_err-check_path_there-clause-answer
returns-in_err-check_path_there-clause-answer g c =
    let p = err_from_is_err_and c.from_residual-in_err-check_path_there.result c.from_residual-in_err-check_path_there.ensures.1 in
    rw (p.1, p.2) (no_hash_block content_of _ (Some c.args.root.now) c.args.areas.now c.args.classes.now c.args.index c.in_ok-place.place _ c.in_ok-place.ensures.value c.in_err-check_path_there.ensures.value)

pub returns-in_err-verify-clause-answer : goal.returns-in_err-verify-clause-answer
returns-in_err-verify-clause-answer g c =
    let p = err_from_is_err_and c.from_residual-in_err-verify.result c.from_residual-in_err-verify.ensures.1 in
    let there = all_present c.args.areas.now c.args.index _ c.in_ok-check_path_there.ensures.value in
    let block = has_block _ c.args.areas.now c.args.classes.now c.args.index c.in_ok-place.place _ c.in_ok-block.block c.requires.stands c.in_ok-place.ensures.here c.in_ok-place.ensures.value there
    c.block_len.ensures.value c.in_ok-block.ensures.value in
    let path = path_read _ c.args.areas.now c.args.classes.now c.args.index _ c.requires.stands (rw c.in_ok-block.ensures.kept at c.in_ok-path.ensures.value) in
    rw p.1 (corrupt _ c.args.root.now c.args.areas.now c.args.classes.now c.args.index _ _ _ _ _ _ block path c.in_err-verify.ensures.broken p.2)

pub returns-clause-answer : goal.returns-clause-answer
returns-clause-answer g c =
    let there = all_present c.args.areas.now c.args.index _ c.in_ok-check_path_there.ensures.value in
    let block = has_block _ c.args.areas.now c.args.classes.now c.args.index c.in_ok-place.place _ c.in_ok-block.block c.requires.stands c.in_ok-place.ensures.here c.in_ok-place.ensures.value there
    c.block_len.ensures.value c.in_ok-block.ensures.value in
    let path = path_read _ c.args.areas.now c.args.classes.now c.args.index _ c.requires.stands (rw c.in_ok-block.ensures.kept at c.in_ok-path.ensures.value) in
    good _ c.args.root.now c.args.areas.now c.args.classes.now c.args.index _ _ _ block path c.in_ok-verify.ensures.ok c.in_ok-verify.ensures.made c.in_ok-block.ensures.whole
