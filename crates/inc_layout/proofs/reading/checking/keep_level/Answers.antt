use Rattle.inc_layout.proofs.block_read.CheckingSteps.{kept_after}
use Rattle.inc_layout.proofs.reading.checking.keep_level.Goals as goal

pub returns-clause-after : goal.returns-clause-after
returns-clause-after g c =
    kept_after _ c.args.areas.now c.args.level _ _ c.args.path.now c.keep.new.self c.keep.result c.hash_block_at.ensures.value c.requires.here c.requires.room
    c.requires.tree c.in_ok-block.ensures.value c.requires.before c.keep.ensures.over c.keep.ensures.more c.keep.ensures.stays
