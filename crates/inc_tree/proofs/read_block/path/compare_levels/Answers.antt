use Rattle.std.proofs.Common.{arith}
use Rattle.inc_tree.proofs.PathLemmas.{first_is, good_has_no_break, breaks_at_slot, breaks_at_root, holds_step, holds_throughout, differs_from, same_from}
use Rattle.inc_tree.proofs.read_block.path.compare_levels.Goals as goal

pub returns-then-ne-clause-computed : goal.returns-then-ne-clause-computed
returns-then-ne-clause-computed c =
    first_is _ _ _ _ _
    (breaks_at_slot _ _ _ _ _ _ _ _ _ _ c.loop-block.invariant (omega arith) c.block-item.is c.path_slot.ensures.value
    c.slot_digest-wanted.ensures.value (differs_from _ _ _ c.ne.ensures c.if-ne.true))

pub loop-block-preserved : goal.loop-block-preserved
loop-block-preserved c =
    holds_step _ _ _ _ _ _ _ _ _ _ _ c.loop-block.invariant (omega arith) c.block-item.is c.path_slot.ensures.value
    c.slot_digest-wanted.ensures.value (same_from _ _ _ c.ne.ensures c.if-ne.false)
    (c.requires.digested _ (omega (arith, c.loop-block.invariant.level_is)))

pub returns-then-ne-2-clause-computed : goal.returns-then-ne-2-clause-computed
returns-then-ne-2-clause-computed c =
    first_is _ _ _ _ _
    (breaks_at_root _ _ _ _ _ _ _ c.loop-block.invariant (omega arith) (differs_from _ _ _ c.ne-2.ensures c.if-ne-2.true))

pub returns-clause-computed : goal.returns-clause-computed
returns-clause-computed c =
    good_has_no_break _ c.args.tree.now _ _ _
    (holds_throughout _ _ _ _ _ _ _ _ c.loop-block.invariant (omega arith) c.requires.full (same_from _ _ _ c.ne-2.ensures c.if-ne-2.false))
