use Rattle.std.proofs.lemmas.Result.{err_from_is_err_and}
use Rattle.inc_layout.proofs.block_read.CheckingSteps.{all_arrived, compared_bad, compared_good, no_hash_block, no_place, open_there}
use Rattle.inc_layout.proofs.reading.checking.check_opened.Goals as goal

pub returns-in_err-block_place-clause-answer : goal.returns-in_err-block_place-clause-answer
returns-in_err-block_place-clause-answer g c =
    let p = err_from_is_err_and c.from_residual.result c.from_residual.ensures.1 in
    rw (p.1, p.2, c.root_of-root.ensures.value) (no_place _ c.root_of-root.result c.args.opened.now c.args.index _ (rw c.as_slice-classes.ensures.value at c.in_err-block_place.ensures.value))

pub returns-in_err-check_path_there-clause-answer : goal.returns-in_err-check_path_there-clause-answer
returns-in_err-check_path_there-clause-answer g c =
    let p = err_from_is_err_and c.from_residual-in_err-check_path_there.result c.from_residual-in_err-check_path_there.ensures.1 in
    rw (p.1, p.2, c.root_of-root.ensures.value) (no_hash_block _ c.root_of-root.result c.args.opened.now c.args.index c.in_ok-block_place.field-0 _ (rw c.as_slice-classes.ensures.value at c.in_ok-block_place.ensures.value) (rw c.as_slice-classes.ensures.value at c.in_err-check_path_there.ensures.value))

pub compare_digests-requires-clause-there : goal.compare_digests-requires-clause-there
compare_digests-requires-clause-there g c =
    open_there c.args.opened.now c.args.index c.in_ok-block_place.field-0 (rw c.as_slice-classes.ensures.value at c.in_ok-block_place.ensures.value) c.in_ok-block_place.ensures.here

pub compare_digests-requires-clause-arrived : goal.compare_digests-requires-clause-arrived
compare_digests-requires-clause-arrived g c = all_arrived c.args.opened.now c.args.index (rw c.as_slice-classes.ensures.value at c.in_ok-check_path_there.ensures.value)

pub returns-in_err-compare_digests-clause-answer : goal.returns-in_err-compare_digests-clause-answer
returns-in_err-compare_digests-clause-answer g c =
    let p = err_from_is_err_and c.from_residual-in_err-compare_digests.result c.from_residual-in_err-compare_digests.ensures.1 in
    let arrived = all_arrived c.args.opened.now c.args.index (rw c.as_slice-classes.ensures.value at c.in_ok-check_path_there.ensures.value) in
    rw (p.1, c.root_of-root.ensures.value) (compared_bad _ c.root_of-root.result c.args.opened.now c.keep_path.new.path c.args.index c.in_ok-block_place.field-0 _ _ _ _ c.requires.stands c.in_ok-block_place.ensures.here
    (rw c.as_slice-classes.ensures.value at c.in_ok-block_place.ensures.value) arrived c.in_ok-keep_path.ensures.after c.in_ok-keep_path.ensures.on c.in_err-compare_digests.ensures.answer p.2)

pub returns-clause-answer : goal.returns-clause-answer
returns-clause-answer g c =
    let arrived = all_arrived c.args.opened.now c.args.index (rw c.as_slice-classes.ensures.value at c.in_ok-check_path_there.ensures.value) in
    rw c.root_of-root.ensures.value (compared_good _ c.root_of-root.result c.args.opened.now c.keep_path.new.path c.args.index c.in_ok-block_place.field-0 c.requires.stands c.in_ok-block_place.ensures.here
    (rw c.as_slice-classes.ensures.value at c.in_ok-block_place.ensures.value) arrived c.in_ok-keep_path.ensures.after c.in_ok-keep_path.ensures.on c.in_ok-compare_digests.ensures.answer)
