use Rattle.std.proofs.Common.{ℕ, ◌/◌, ◌^◌, bit_xor, slice_index, ap, arith}
use Rattle.inc_tree.proofs.WordLemmas.{two_turned}
use Rattle.inc_tree.proofs.digest.lanes.small_sigma1.Goals as goal

pub returns : goal.returns
returns c = record {
  value = λ j h.
      let x = slice_index c.args.x j in
      rw (
        c.xor-2.ensures.value j h,
        c.rotate_right-2.ensures.value j h,
        c.xor.ensures.value j h,
        c.rotate_right.ensures.value j h,
        c.shift_right.ensures.value j h,
      )
      (ap (λ (n : ℕ). bit_xor n (x / 2 ^ 10)) (two_turned x 17 2 (omega arith) (omega arith) (omega arith) (c.rotate_right.ensures.fits j h)));
}
