use Rattle.std.proofs.Common.{◌≡◌}
use Rattle.sha2.specs.Sha256.{hash_after, initial_hash_256}
use Rattle.inc_tree.specs.Lanes.{EachLane, lane, message}
use Rattle.inc_tree.proofs.digest.four.digest_four.Given as goal

abbrev pub invariant-loop-piece : goal.invariant-loop-piece
invariant-loop-piece l = EachLane (λ j. lane j l.state ≡ hash_after initial_hash_256 (message l.first l.second l.third l.fourth j) l.piece)
