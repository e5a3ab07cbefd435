use Rattle.std.proofs.Common.{◌∙◌, length, sym, ap}
use Rattle.std.proofs.lemmas.Result.{err_from_is_err_and}
use Rattle.inc_tree.proofs.VerifyLemmas.{cleared_is, break_of_content}
use Rattle.inc_tree.proofs.read_block.verified.check.verify.Goals as goal

pub returns-in_err-check_path-clause-broken : goal.returns-in_err-check_path-clause-broken
returns-in_err-check_path-clause-broken c =
    let p = err_from_is_err_and c.from_residual.result c.from_residual.ensures.1 in
    let whole = sym (ap length c.as_slice.ensures.value) ∙ c.as_slice.ensures.len in
    let cleared = cleared_is c.args.bytes _ c.block_len-len.result c.clear_from.ensures.value whole c.block_len-len.ensures.most in
    rw (p.1, p.2) (
    break_of_content _ _ c.clear_from.new.self _ _ _ _ _ (rw c.block_len-len.ensures.value at cleared.0) whole
    (rw c.as_slice.ensures.value at c.in_err-check_path.ensures.broken))
