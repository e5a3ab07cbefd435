use Rattle.std.proofs.Common.{◌≡◌, vec_len}
use Rattle.inc_drive_tests.proofs.sample.pieces_of.Given as goal

abbrev pub invariant-loop-block : goal.invariant-loop-block
invariant-loop-block l = vec_len l.pieces ≡ l.block-index
