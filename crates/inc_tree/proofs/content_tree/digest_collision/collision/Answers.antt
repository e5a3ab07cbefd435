use Rattle.std.proofs.Common.{◌≡◌, ◌<◌, ◌-◌, ◌∙◌, ap, sym, length, arith}
use Rattle.inc_tree.specs.shape.Geometry.{depth}
use Rattle.inc_tree.specs.read_block.Path.{block_at}
use Rattle.inc_tree.specs.content_tree.Root.{content_block, path_through}
use Rattle.inc_tree.proofs.CollisionLemmas.{read_at, read_through, collides, same_below}
use Rattle.inc_tree.proofs.PathLemmas.{differs_from, same_from}
use Rattle.inc_tree.proofs.content_tree.digest_collision.collision.Goals as goal

pub returns-then-ne-clause-pair : goal.returns-then-ne-clause-pair
returns-then-ne-clause-pair c =
    let tree = c.in_ok-tree.tree in
    let path = c.args.path.now in
    let through = path_through tree.geometry tree.hash_blocks c.args.index in
    let theirs = c.index-as_slice-level.result in
    let ours = c.index-as_slice-place.result in
    let level = c.loop-level.level - 1 in
    let some : 0 < c.loop-level.level = c.loop-level-test.true in
    let there : level < length path = omega (arith, c.loop-level.invariant.0, c.loop-level-test.true) in
    let deep : level < depth tree.geometry = omega (arith, there, c.requires.good.full, ap depth c.in_ok-tree.ensures.geometry) in
    let theirs_is : theirs ≡ block_at path level = read_at path level theirs there (rw c.as_slice-in-loop-level-2.ensures.value at c.index-as_slice-level.is) in
    let ours_is : ours ≡ block_at through level =
    read_through tree.geometry tree.hash_blocks c.args.index level c.path_block-place.result ours deep c.path_block-place.ensures.value
    (omega (arith, c.path_block-place.ensures.within, c.in_ok-tree.ensures.count))
    (rw c.as_slice-in-loop-level.ensures.value at c.index-as_slice-place.is) in
    let ours_same = c.as_slice-in-loop-level-3.ensures.value in
    let theirs_same = c.as_slice-in-loop-level-4.ensures.value in
    rw (c.in_ok-copy.ensures.value, c.in_ok-copy-2.ensures.value) (
    collides c.args.bytes.now (content_block c.args.content.now c.args.index) path through c.loop-level.level theirs ours
    some c.loop-level.invariant.1 theirs_is ours_is (ap length (sym theirs_same) ∙ c.as_slice-in-loop-level-4.ensures.len)
    (ap length (sym ours_same) ∙ c.as_slice-in-loop-level-3.ensures.len)
    (λ e. differs_from _ _ _ c.ne.ensures c.if-ne.true (ours_same ∙ (sym e ∙ sym theirs_same))))

pub loop-level-preserved : goal.loop-level-preserved
loop-level-preserved c =
    let tree = c.in_ok-tree.tree in
    let path = c.args.path.now in
    let through = path_through tree.geometry tree.hash_blocks c.args.index in
    let theirs = c.index-as_slice-level.result in
    let ours = c.index-as_slice-place.result in
    let level = c.loop-level.level - 1 in
    let there : level < length path = omega (arith, c.loop-level.invariant.0, c.loop-level-test.true) in
    let deep : level < depth tree.geometry = omega (arith, there, c.requires.good.full, ap depth c.in_ok-tree.ensures.geometry) in
    let theirs_is : theirs ≡ block_at path level = read_at path level theirs there (rw c.as_slice-in-loop-level-2.ensures.value at c.index-as_slice-level.is) in
    let ours_is : ours ≡ block_at through level =
    read_through tree.geometry tree.hash_blocks c.args.index level c.path_block-place.result ours deep c.path_block-place.ensures.value
    (omega (arith, c.path_block-place.ensures.within, c.in_ok-tree.ensures.count))
    (rw c.as_slice-in-loop-level.ensures.value at c.index-as_slice-place.is) in
    let same : theirs ≡ ours =
    sym c.as_slice-in-loop-level-4.ensures.value ∙ (sym (same_from _ _ _ c.ne.ensures c.if-ne.false) ∙ c.as_slice-in-loop-level-3.ensures.value) in
    let mine = c.in_ok-tree.ensures.paths c.args.index (rw c.in_ok-tree.ensures.geometry c.requires.here) in (
      omega (arith, c.loop-level.invariant.0),
      same_below _ _ _ _ c.args.index c.args.bytes.now (content_block c.args.content.now c.args.index) path through level theirs ours c.requires.good mine there
          (omega (arith, deep, mine.full)) theirs_is ours_is same,
    )
