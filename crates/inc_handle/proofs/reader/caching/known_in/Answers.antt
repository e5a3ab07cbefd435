use Rattle.std.proofs.Common.{◌≤◌, ap, arith}
use Rattle.inc_tree.specs.shape.Geometry.{depth}
use Rattle.inc_handle.proofs.reads.ShowLemmas.{cache_knows}
use Rattle.inc_handle.proofs.reader.caching.known_in.Goals as goal

pub returns-in_ok-known-in-Some : goal.returns-in_ok-known-in-Some
returns-in_ok-known-in-Some g c =
    let fits = rw c.in-Some.is at c.requires.fits in
    let low : depth c.in-Some.cache.shape ≤ 4 = omega (arith, c.depth-depth.ensures.low, c.depth-depth.ensures.value, ap depth c.geometry.ensures.value, ap depth fits.1) in
    record { known = cache_knows _ _ _ _ _ _ c.in_ok-known-in-Some.ensures.value fits.0 fits.1 low }
