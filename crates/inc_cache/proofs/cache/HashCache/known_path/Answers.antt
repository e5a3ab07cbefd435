use Rattle.std.proofs.Common.{length, ap, sym, ◌∙◌}
use Rattle.std.proofs.lemmas.List.FromFn.{length-map-range_with_len}
use Rattle.inc_tree.specs.shape.Geometry.{depth}
use Rattle.inc_cache.specs.Kept.{CachedHashes}
use Rattle.inc_cache.proofs.cache.HashCache.known_path.Goals as goal

pub of-requires-clause-full : goal.of-requires-clause-full
of-requires-clause-full c =
    ap length c.in_ok-levels.ensures.value ∙ (length-map-range_with_len _ 0 _ ∙ sym (ap (λ (s : CachedHashes). depth s.shape) c.self.view_is))
