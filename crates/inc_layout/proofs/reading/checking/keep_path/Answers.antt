use Rattle.std.proofs.Common.{◌∙◌, arith, add-one}
use Rattle.inc_layout.proofs.block_read.CheckingSteps.{more_kept}
use Rattle.inc_layout.proofs.reading.checking.keep_path.Goals as goal

pub loop-level-preserved : goal.loop-level-preserved
loop-level-preserved g c = record {
  kept = c.keep_level.ensures.kept ∙ c.loop-level.invariant.kept;
  quiet = c.in_ok-keep_level.ensures.cause.kept (λ e. absurd (cc)) ∙ c.loop-level.invariant.quiet;
  count = let here = c.in_ok-keep_level.ensures.on in omega (arith, here.there);
  on = rw add-one (more_kept c.loop-level.path c.keep_level.new.path c.args.areas.now.geometry c.args.index c.loop-level.level _ c.path_block-hash.ensures.value c.in_ok-keep_level.ensures.on
      c.keep_level.ensures.lower c.loop-level.invariant.on);
  after = rw c.loop-level.invariant.kept at c.keep_level.ensures.after;
}

pub returns-clause-on : goal.returns-clause-on
returns-clause-on g c = λ level lt. c.loop-level.invariant.on level (omega arith)
