use Rattle.std.proofs.Common.{◌*◌, length, arith}
use Rattle.inc_loader.specs.Content.{generated_byte}
use Rattle.inc_loader.proofs.ContentLemmas.{filled_room}
use Rattle.inc_loader.proofs.gen_loader.content.fill_block.Goals as goal

pub returns : goal.returns
returns c = record {
  value = filled_room (generated_byte c.args.number) c.loop-place.room (4096 * c.args.index) (length c.args.room.now) (omega arith)
      (λ k lt. c.loop-place.invariant k (omega arith));
}
