use Rattle.std.proofs.Common.{◌≡◌, ℕ, ◌*◌, ◌<◌, length}
use Rattle.sha2.specs.Sha256.{word_at}
use Rattle.inc_tree.specs.Lanes.{EachLane, lane_at, message}
use Rattle.inc_tree.proofs.digest.four.words_of.Given as goal

abbrev pub invariant-loop-place : goal.invariant-loop-place
invariant-loop-place l =
    (length l.words ≡ 16)
    × ((k : ℕ) → k < l.place → EachLane (λ j. lane_at l.words k j ≡ word_at (message l.first l.second l.third l.fourth j) (4 * k)))
