use Rattle.std.proofs.Common.{refl, ◌∙◌, rules, arith, add-one, length-append}
use Rattle.inc_layout.proofs.LoopSteps.{path_start, path_more}
use Rattle.inc_layout.proofs.reading.static_read.read_path.Goals as goal

pub loop-level-init : goal.loop-level-init
loop-level-init g c = record { kept = refl; quiet = refl; count = search rules; path = path_start _ c.args.areas.now c.args.index _ c.new-blocks.ensures.items }

pub loop-level-preserved : goal.loop-level-preserved
loop-level-preserved g c = record {
  kept = c.read_stored.ensures.kept ∙ c.loop-level.invariant.kept;
  quiet = c.in_ok-read_stored.ensures.cause.kept (λ e. absurd (cc)) ∙ c.loop-level.invariant.quiet;
  count = rw (c.in_ok-push.ensures.items, length-append) (omega arith);
  path = rw (c.in_ok-push.ensures.items, add-one) (path_more _ c.args.areas.now c.args.index c.loop-level.level c.path_block-hash.result _ _ _ c.path_block-hash.ensures.value c.hash_block_at.ensures.value c.path_block-hash.ensures.within c.loop-level.invariant.path
      (rw c.loop-level.invariant.kept at c.in_ok-read_stored.ensures.value));
}
