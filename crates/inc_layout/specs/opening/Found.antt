-- The digests of the blocks that were read so far.
use Rattle.std.specs.Prelude.{◌≡◌, ℕ, ◌<◌, Bool, true, false, List, length, Option, Some, None, IfSome, is_some, slice_index_or}
use Rattle.sha2.specs.Sha256.{sha256}
use Rattle.inc_entry.specs.Entry.{Places, entries}
use Rattle.inc_entry.specs.Stored.{class_at, is_open_class, stored_digest}
use Rattle.inc_entry.specs.declared.classes.Class.{Class}
use Rattle.inc_entry.specs.declared.classes.Class.TheVariants.{Damaged}
use Rattle.inc_layout.specs.opening.Listed.{listed}

-- an open block has the digest of its room, and no other one has a digest
abbrev pub digest_if : Bool → List ℕ → Option (List ℕ)
digest_if true block = Some (sha256 block)
digest_if false block = None

-- the first so many entries have their digests or none; over a file that tells its content these are those of the stored blocks
pub record HasFound (told : Option (List ℕ)) (places : Places) (classes : List Class) (digests : List (Option (List ℕ))) (index : ℕ) : Type 0 where
  pub count : length digests ≡ index
  pub there : (i : ℕ) → i < index → is_some (slice_index_or digests i None) ≡ is_open_class (slice_index_or classes i Damaged)
  pub stored : IfSome told (λ bytes. classes ≡ listed (class_at places bytes) (entries places) → digests ≡ listed (stored_digest places bytes) index)
