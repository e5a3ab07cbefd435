use Rattle.std.proofs.Common.{◌≡◌, map}
use Rattle.std.specs.List.{range_with_len}
use Rattle.inc_tree.specs.shape.Geometry.{path_block}
use Rattle.inc_cache.specs.Used.{kept_at}
use Rattle.inc_cache.proofs.cache.HashCache.levels_on.Given as goal

abbrev pub invariant-loop-level : goal.invariant-loop-level
invariant-loop-level l =
    l.levels.items ≡ map (λ level. kept_at (path_block l.fn.self.shape l.index level) l.fn.self.kept) (range_with_len 0 l.level)
