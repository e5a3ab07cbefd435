use Rattle.std.proofs.Common.{◌≡◌, arith, add-one}
use Rattle.inc_tree.proofs.PathLemmas.{differs_from, same_from}
use Rattle.inc_layout.proofs.block_read.CheckingSteps.{all_hold, holds_first, holds_more, level_open, root_differs, slot_differs}
use Rattle.inc_layout.proofs.reading.checking.compare_digests.Goals as goal

pub loop-level-init : goal.loop-level-init
loop-level-init c = λ content hashes knows. holds_first c.args.root.now c.args.opened.now c.args.path.now c.args.index c.digest_there-got.result content hashes c.digest_there-got.ensures.value knows

pub returns-then-ne : goal.returns-then-ne
returns-then-ne c = record {
  answer = λ content hashes knows.
      slot_differs c.args.root.now c.args.opened.now c.args.path.now c.args.index c.loop-level.level c.path_slot.result c.loop-level.got c.digest-wanted.result content hashes (omega arith)
      c.path_slot.ensures.value c.digest-wanted.ensures.value (differs_from _ _ _ c.ne.ensures c.if-ne.true) knows (c.loop-level.invariant content hashes knows);
}

pub hash_digest-got-requires-clause-there : goal.hash_digest-got-requires-clause-there
hash_digest-got-requires-clause-there c =
    rw c.path_block.ensures.value (level_open c.args.opened.now c.args.index c.loop-level.level c.requires.arrived (omega arith))

pub loop-level-preserved : goal.loop-level-preserved
loop-level-preserved c = λ content hashes knows.
    rw add-one (
    holds_more c.args.root.now c.args.opened.now c.args.path.now c.args.index c.loop-level.level c.path_slot.result c.loop-level.got c.digest-wanted.result c.hash_digest-got.result content hashes (omega arith)
    c.path_slot.ensures.value c.digest-wanted.ensures.value (same_from _ _ _ c.ne.ensures c.if-ne.false) (rw c.path_block.ensures.value at c.hash_digest-got.ensures.value) knows
    (c.loop-level.invariant content hashes knows))

pub returns-then-ne-2 : goal.returns-then-ne-2
returns-then-ne-2 c = record {
  answer = λ content hashes knows.
      let end : c.depth.result ≡ c.loop-level.level = omega arith in
      rw end (
      root_differs c.args.root.now c.args.opened.now c.args.path.now c.args.index c.loop-level.level c.loop-level.got content hashes (omega arith)
      (differs_from _ _ _ c.ne-2.ensures c.if-ne-2.true) knows (c.loop-level.invariant content hashes knows));
}

pub returns : goal.returns
returns c = record {
  answer = λ content hashes knows.
      all_hold c.args.root.now c.args.opened.now c.args.path.now c.args.index c.loop-level.level c.loop-level.got content hashes (omega arith)
      (same_from _ _ _ c.ne-2.ensures c.if-ne-2.false) knows (c.loop-level.invariant content hashes knows);
}
