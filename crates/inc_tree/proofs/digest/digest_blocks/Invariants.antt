use Rattle.std.proofs.Common.{◌≡◌, ◌*◌, map, take}
use Rattle.sha2.specs.Sha256.{sha256}
use Rattle.inc_tree.proofs.digest.digest_blocks.Given as goal

abbrev pub invariant-fours : goal.invariant-fours
invariant-fours l = take (4 * l.four) l.digests ≡ map sha256 (take (4 * l.four) l.blocks)

abbrev pub invariant-last : goal.invariant-last
invariant-last l = take l.index l.digests ≡ map sha256 (take l.index l.blocks)
