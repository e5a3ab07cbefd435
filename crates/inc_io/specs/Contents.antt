-- What stands on a shelf: a map from names to the bytes of their files, with the names in byte order.
use Rattle.std.specs.Prelude.{ℕ, List}
use Rattle.std.specs.Ordering.{nat_cmp}
use Rattle.std.specs.Cmp.Lexicographic.{slice_cmp}
use Rattle.std.specs.FinMap.{FinMap}

abbrev pub Contents : Type 0
Contents = FinMap (slice_cmp nat_cmp) (List ℕ)
