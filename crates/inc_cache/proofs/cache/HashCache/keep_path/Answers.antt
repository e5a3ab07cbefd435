use Rattle.std.proofs.Common.{◌<◌, ◌≤◌, length, refl, sym, ap, inl, ◌∙◌, add-one, arith, take_all}
use Rattle.std.specs.Map.{keys_of}
use Rattle.std.proofs.lemmas.Map.Entries.{length-keys_of}
use Rattle.inc_tree.specs.shape.Geometry.{data_blocks, depth}
use Rattle.inc_cache.specs.Kept.{CachedHashes, cache_with}
use Rattle.inc_cache.proofs.KnownLemmas.{level_apart, one_more_use, adds_more}
use Rattle.inc_cache.proofs.cache.HashCache.keep_path.Goals as goal

pub loop-level-init : goal.loop-level-init
loop-level-init c =
    let view = c.self.view_is in
    let fits : length (keys_of c.self.inside.blocks.entries) ≤ c.self.inside.blocks.cap = omega (arith, length-keys_of c.self.inside.blocks.entries, c.len-kept.ensures.valid.1) in
    record {
      used = rw (← view) (sym (take_all _ (keys_of c.self.inside.blocks.entries) fits));
      only = λ hash block h. inl h;
      same = refl;
    }

pub loop-level-preserved : goal.loop-level-preserved
loop-level-preserved c =
    let shape_is = ap (λ (s : CachedHashes). s.shape) c.loop-level.invariant.same in
    let room_is = ap (λ (s : CachedHashes). s.room) c.loop-level.invariant.same in
    let own = ap (λ (s : CachedHashes). s.shape) c.self.view_is in
    let within : c.loop-level.level < depth c.args.self.now.shape = omega (arith, c.loop-level-test.true, c.depth-level-end.ensures.value, ap depth own) in
    let here : c.args.block.now.index < data_blocks c.args.self.now.shape = rw (← c.requires.shape) c.args.block.now.here in
    let now = rw (shape_is, room_is) at c.in_ok-keep_level.ensures.used in
    record {
      used = rw add-one (one_more_use _ _ _ _ _ _ (level_apart _ _ _ here within) c.loop-level.invariant.used now);
      only = adds_more _ _ _ _ _ _ c.loop-level.invariant.only (rw shape_is at c.keep_level.ensures.only);
      same = c.keep_level.ensures.same ∙ ap (λ (s : CachedHashes). cache_with s c.keep_level.new.self.kept) c.loop-level.invariant.same;
    }
