use Rattle.std.proofs.Common.{◌≡◌, filter, map}
use Rattle.std.specs.Option.{is_some}
use Rattle.std.specs.List.{range_with_len}
use Rattle.inc_tree.specs.shape.Geometry.{path_block}
use Rattle.inc_cache.specs.Used.{kept_at}
use Rattle.inc_cache.proofs.cache.HashCache.numbers_on.Given as goal

abbrev pub invariant-loop-level : goal.invariant-loop-level
invariant-loop-level l =
    l.numbers.items ≡ filter (λ number. is_some (kept_at number l.fn.self.kept)) (map (path_block l.fn.self.shape l.index) (range_with_len 0 l.level))
