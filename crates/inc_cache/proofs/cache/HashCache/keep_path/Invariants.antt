use Rattle.std.proofs.Common.{◌≡◌}
use Rattle.std.specs.Map.{keys_of}
use Rattle.inc_cache.specs.Kept.{cache_with}
use Rattle.inc_cache.specs.Known.{AddsPath, numbers_down}
use Rattle.inc_cache.specs.Used.{after_uses}
use Rattle.inc_cache.proofs.cache.HashCache.keep_path.Given as goal

abbrev pub invariant-loop-level : goal.invariant-loop-level
invariant-loop-level l = record {
  used : keys_of l.self.kept ≡ after_uses l.fn.self.room (numbers_down l.fn.self.shape l.block.index l.level) (keys_of l.fn.self.kept);
  only : AddsPath l.fn.self.shape l.block.index l.block.path l.fn.self.kept l.self.kept;
  same : l.self ≡ cache_with l.fn.self l.self.kept;
}
