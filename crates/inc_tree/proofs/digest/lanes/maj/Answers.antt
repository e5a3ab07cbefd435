use Rattle.std.proofs.Common.{slice_index}
use Rattle.inc_tree.proofs.WordLemmas.{short_maj}
use Rattle.inc_tree.proofs.digest.lanes.maj.Goals as goal

pub returns : goal.returns
returns c = record {
  value = λ j h.
      rw (c.xor-3.ensures.value j h, c.and.ensures.value j h, c.xor.ensures.value j h, c.xor-2.ensures.value j h)
      (short_maj (slice_index c.args.x j) (slice_index c.args.y j) (slice_index c.args.z j));
}
