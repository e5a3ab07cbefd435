use Rattle.std.proofs.Common.{◌∙◌, length, sym, ap}
use Rattle.std.proofs.lemmas.Result.{err_from_is_err_and}
use Rattle.inc_tree.specs.read_block.Verified.{content_at}
use Rattle.inc_tree.proofs.VerifyLemmas.{break_of_content, cleared_is, digests_at_hand}
use Rattle.inc_tree.proofs.read_block.verified.check.verify_digested.Goals as goal

pub compare_levels-requires-clause-digested : goal.compare_levels-requires-clause-digested
compare_levels-requires-clause-digested c =
    let whole = sym (ap length c.as_slice.ensures.value) ∙ c.as_slice.ensures.len in
    let cleared = cleared_is c.args.bytes _ c.block_len-len.result c.clear_from.ensures.value whole c.block_len-len.ensures.most in
    rw (c.as_slice.ensures.value, c.as_slice-2.ensures.value)
    (digests_at_hand _ (content_at c.args.tree.now c.args.index c.args.bytes) _ _ (rw c.block_len-len.ensures.value at cleared.0) whole c.requires.digested)

pub returns-in_err-compare_levels-clause-broken : goal.returns-in_err-compare_levels-clause-broken
returns-in_err-compare_levels-clause-broken c =
    let p = err_from_is_err_and c.from_residual.result c.from_residual.ensures.1 in
    let whole = sym (ap length c.as_slice.ensures.value) ∙ c.as_slice.ensures.len in
    let cleared = cleared_is c.args.bytes _ c.block_len-len.result c.clear_from.ensures.value whole c.block_len-len.ensures.most in
    rw (p.1, p.2) (break_of_content _ _ c.clear_from.new.self _ _ _ _ _ (rw c.block_len-len.ensures.value at cleared.0) whole
    (rw (c.as_slice.ensures.value, c.as_slice-2.ensures.value) at c.in_err-compare_levels.ensures.broken))
