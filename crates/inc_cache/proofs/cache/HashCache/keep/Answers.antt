use Rattle.inc_cache.proofs.UsedLemmas.{put_is_used, vouched_after_use}
use Rattle.inc_cache.proofs.cache.HashCache.keep.Goals as goal

pub invariant_of-self-2 : goal.invariant_of-self-2
invariant_of-self-2 c =
    let is = put_is_used c.self.inside.blocks c.args.hash c.args.block c.len-room.ensures.valid in
    let vouched = rw (← c.self.view_is) at c.requires.vouched in
    record {
      signed = c.self.invariant.signed;
      vouched = rw (c.in_ok-put.ensures.entries, c.of.ensures.value, is) (vouched_after_use _ _ c.self.inside.blocks.cap _ _ _ c.self.invariant.vouched vouched);
    }

pub returns-clause-kept : goal.returns-clause-kept
returns-clause-kept c =
    let is = put_is_used c.self.inside.blocks c.args.hash c.args.block c.len-room.ensures.valid in
    rw (← c.self.view_is, c.in_ok-put.ensures.entries, c.of.ensures.value, is)
