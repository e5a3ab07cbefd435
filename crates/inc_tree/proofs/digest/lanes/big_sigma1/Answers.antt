use Rattle.std.proofs.Common.{slice_index, arith}
use Rattle.inc_tree.proofs.WordLemmas.{three_turned}
use Rattle.inc_tree.proofs.digest.lanes.big_sigma1.Goals as goal

pub returns : goal.returns
returns c = record {
  value = λ j h.
      rw (
        c.rotate_right-3.ensures.value j h,
        c.xor-2.ensures.value j h,
        c.rotate_right-2.ensures.value j h,
        c.xor.ensures.value j h,
        c.rotate_right.ensures.value j h,
      )
      (three_turned (slice_index c.args.x j) 6 5 14 (omega arith) (omega arith) (omega arith) (omega arith) (c.rotate_right.ensures.fits j h));
}
