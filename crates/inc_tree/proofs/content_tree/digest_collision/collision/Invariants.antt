use Rattle.std.proofs.Common.{◌≡◌, ◌≤◌, length}
use Rattle.inc_tree.specs.read_block.Path.{digest_below}
use Rattle.inc_tree.specs.content_tree.Root.{content_block, path_through}
use Rattle.inc_tree.proofs.content_tree.digest_collision.collision.Given as goal

abbrev pub invariant-loop-level : goal.invariant-loop-level
invariant-loop-level l = (l.level ≤ length l.path)
    × (digest_below l.bytes l.path l.level
    ≡ digest_below (content_block l.content l.index) (path_through l.tree.geometry l.tree.hash_blocks l.index) l.level)

abbrev pub decreases-loop-level : goal.decreases-loop-level
decreases-loop-level l = l.level
