use Rattle.std.proofs.Common.{ap, ◌∙◌}
use Rattle.inc_tree.specs.shape.Geometry.{path_block}
use Rattle.inc_cache.specs.Kept.{CachedHashes}
use Rattle.inc_cache.proofs.KnownLemmas.{map_more}
use Rattle.inc_cache.proofs.cache.HashCache.levels_on.Goals as goal

pub loop-level-preserved : goal.loop-level-preserved
loop-level-preserved c =
    let same = c.path_block-number.ensures.value ∙ ap (λ (s : CachedHashes). path_block s.shape c.args.index c.loop-level.level) c.self.view_is in
    map_more _ _ c.in_ok-copy_of.field-0 _ _ c.loop-level.invariant (c.in_ok-copy_of.ensures.value ∙ rw same) c.in_ok-push.ensures.items
