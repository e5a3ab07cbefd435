use Rattle.std.proofs.Common.{◌≡◌, ◌+◌, ◌++◌, length, map, take, vec_capacity, vec_len}
use Rattle.std.specs.Vec.Iter.{into_iter_items, into_iter_len}
use Rattle.inc_cache.specs.Known.{missing_levels, path_with}
use Rattle.sha2.specs.Sha256.{sha256}
use Rattle.inc_cache.proofs.known_path.fill_in.Given as goal

abbrev pub invariant-loop-known : goal.invariant-loop-known
invariant-loop-known l = record {
  at : l.level ≡ vec_len l.path;
  so_far : l.level + length (into_iter_items l.levels) ≡ length l.fn.levels.items;
  room : vec_capacity l.path ≡ vec_capacity l.fn.path;
  left : missing_levels (into_iter_items l.levels) ≡ length (into_iter_items l.handed);
  path : l.path.items ++ path_with (into_iter_items l.levels) (into_iter_items l.handed) ≡ path_with l.fn.levels.items l.fn.handed.items;
  digests : take l.level l.digests ≡ map sha256 l.path.items;
}

abbrev pub decreases-loop-known : goal.decreases-loop-known
decreases-loop-known l = into_iter_len l.levels
