use Rattle.std.proofs.Common.{◌≡◌, ◌*◌, length, take}
use Rattle.sha2.specs.Sha256.{digest_bytes}
use Rattle.inc_tree.specs.Lanes.{lane}
use Rattle.inc_tree.proofs.digest.four.digest_at.Given as goal

abbrev pub invariant-loop-place : goal.invariant-loop-place
invariant-loop-place l = (length l.digest ≡ 32) × (take (4 * l.place) l.digest ≡ digest_bytes (lane l.which l.state) l.place)
