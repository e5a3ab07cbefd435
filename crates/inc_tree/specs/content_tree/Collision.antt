-- A collision of the hash (FIPS 180-4): two different blocks of one digest. Nobody has shown one of SHA-256.
use Rattle.std.specs.Prelude.{◌≡◌, ◌≢◌, ℕ, List, length}
use Rattle.sha2.specs.Sha256.{sha256}

pub record IsCollision (one other : List ℕ) : Type 0 where
  pub one_whole : length one ≡ 4096
  pub other_whole : length other ≡ 4096
  pub differ : one ≢ other
  pub same_digest : sha256 one ≡ sha256 other
