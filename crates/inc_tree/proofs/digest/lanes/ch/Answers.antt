use Rattle.std.proofs.Common.{refl}
use Rattle.inc_tree.proofs.digest.lanes.ch.Goals as goal

pub returns : goal.returns
returns c = record {
  value = λ j h. rw (c.xor.ensures.value j h, c.and.ensures.value j h, c.and-2.ensures.value j h, c.not.ensures.value j h) refl;
}
