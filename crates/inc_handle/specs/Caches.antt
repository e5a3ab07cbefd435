-- Which cache of verified hash blocks the reader of a file has.
use Rattle.std.specs.Prelude.{◌≡◌, ℕ, List, Option, Some, None}
use Rattle.inc_tree.specs.shape.Geometry.{Shape}
use Rattle.inc_layout.specs.Backing.{sig_root}
use Rattle.inc_cache.specs.Kept.{CachedHashes}
use Rattle.inc_cell.specs.declared.machine.CellFooting.{CellFooting}

-- the root under which the blocks of a cache were verified; where there is no cache, this one
abbrev pub cached_root : Option (List ℕ) → Option CachedHashes → Option (List ℕ)
cached_root root None = root
cached_root root (Some cache) = Some cache.root

-- the shape of the file whose blocks a cache has; where there is no cache, this one
abbrev pub cached_shape : Shape → Option CachedHashes → Shape
cached_shape shape None = shape
cached_shape shape (Some cache) = cache.shape

-- a cache, where there is one, is one of this file: what it keeps was verified under the file's root
pub record IsCacheOf (footing : CellFooting) (cache : Option CachedHashes) : Type 0 where
  pub root_is : cached_root (sig_root footing.opened.sig) cache ≡ sig_root footing.opened.sig
  pub shape_is : cached_shape footing.opened.areas.geometry cache ≡ footing.opened.areas.geometry

-- a signed file has a cache, and an unsigned one has none
abbrev pub CacheFits : CellFooting → Option CachedHashes → Type 0
CacheFits footing None = sig_root footing.opened.sig ≡ None
CacheFits footing (Some cache) = (sig_root footing.opened.sig ≡ Some cache.root) × (cache.shape ≡ footing.opened.areas.geometry)
