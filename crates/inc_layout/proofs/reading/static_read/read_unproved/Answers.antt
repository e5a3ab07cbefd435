use Rattle.std.proofs.lemmas.Result.{err_from_is_err_and}
use Rattle.std.specs.Prelude.{None}
use Rattle.inc_tree.specs.read_block.Unproved.{unproved_content}
use Rattle.inc_layout.proofs.block_read.StaticSteps.{flat_none, has_block, no_place, unproved_given}
use Rattle.inc_layout.proofs.reading.static_read.read_unproved.Goals as goal

pub returns-in_err-place-clause-answer : goal.returns-in_err-place-clause-answer
returns-in_err-place-clause-answer g c =
    let p = err_from_is_err_and c.from_residual.result c.from_residual.ensures.1 in
    rw (p.1, p.2) (no_place unproved_content _ None c.args.areas.now c.args.classes.now c.args.index _ c.in_err-place.ensures.value)

pub returns-clause-answer : goal.returns-clause-answer
returns-clause-answer g c =
    let there = flat_none c.args.areas.now c.args.classes.now c.args.index c.requires.flat in
    let block = has_block _ c.args.areas.now c.args.classes.now c.args.index c.in_ok-place.place _ c.in_ok-block.block c.requires.stands c.in_ok-place.ensures.here c.in_ok-place.ensures.value there
    c.block_len.ensures.value c.in_ok-block.ensures.value in
    unproved_given _ c.args.areas.now c.args.classes.now c.args.index _ c.of.result block c.of.ensures.len c.of.ensures.bytes c.in_ok-block.ensures.whole
