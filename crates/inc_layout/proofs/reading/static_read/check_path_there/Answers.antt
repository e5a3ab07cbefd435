use Rattle.std.proofs.Common.{arith, add-one}
use Rattle.inc_layout.proofs.ListedLemmas.{none_yet}
use Rattle.inc_layout.specs.reading.StaticRead.{is_missing}
use Rattle.inc_layout.proofs.LoopSteps.{none_missing, one_missing}
use Rattle.inc_layout.proofs.reading.static_read.check_path_there.Goals as goal

pub loop-level-init : goal.loop-level-init
loop-level-init c = none_yet (is_missing c.args.areas.now c.args.classes.now c.args.index)

pub loop-level-preserved : goal.loop-level-preserved
loop-level-preserved c =
    rw add-one (none_missing c.args.areas.now c.args.classes.now c.args.index c.loop-level.level c.path_block-hash.result c.is_there.result c.loop-level.invariant c.path_block-hash.ensures.value c.is_there.ensures.value c.if-not-is_there.false)

pub returns-then-not-is_there-clause-value : goal.returns-then-not-is_there-clause-value
returns-then-not-is_there-clause-value c =
    one_missing c.args.areas.now c.args.classes.now c.args.index c.loop-level.level c.path_block-hash.result c.is_there.result c.loop-level.invariant (omega arith) c.path_block-hash.ensures.value c.is_there.ensures.value c.if-not-is_there.true
