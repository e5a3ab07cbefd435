use Rattle.std.proofs.lemmas.Result.{err_from_is_err_and}
use Rattle.inc_layout.proofs.fixed_part.FixedSteps.{has_blob, no_blob, no_blob_place}
use Rattle.inc_layout.proofs.fixed.read_sig.Goals as goal

pub returns-in_err-check_blob-clause-answer : goal.returns-in_err-check_blob-clause-answer
returns-in_err-check_blob-clause-answer g c =
    let p = err_from_is_err_and c.from_residual.result c.from_residual.ensures.1 in
    rw (p.1, p.2, c.in-Some.is) (no_blob_place _ c.args.len c.in-Some.signature _ c.requires c.in_err-check_blob.ensures.value)

pub returns-in_err-read_blob-clause-answer : goal.returns-in_err-read_blob-clause-answer
returns-in_err-read_blob-clause-answer g c =
    let p = err_from_is_err_and c.from_residual-in_err-read_blob.result c.from_residual-in_err-read_blob.ensures.1 in
    rw (p.1, p.2, c.in-Some.is) (no_blob _ c.args.len c.in-Some.signature _ c.requires c.in_ok-check_blob.ensures.value c.in_err-read_blob.ensures.answer)

pub returns-clause-answer : goal.returns-clause-answer
returns-clause-answer g c =
    rw c.in-Some.is (has_blob _ c.args.len c.in-Some.signature _ c.requires c.in_ok-check_blob.ensures.value c.in_ok-read_blob.ensures.answer)
