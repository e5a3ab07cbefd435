use Rattle.std.proofs.Common.{refl}
use Rattle.inc_cache.proofs.UsedLemmas.{promoted_is_used, kept_at-again}
use Rattle.inc_cache.proofs.cache.HashCache.touch.Goals as goal

pub invariant_of-self : goal.invariant_of-self
invariant_of-self c =
    let is = promoted_is_used c.self.inside.blocks c.args.hash c.len-room.ensures.valid in record {
      signed = c.self.invariant.signed;
      vouched = λ hash block h. c.self.invariant.vouched hash block (kept_at-again c.self.inside.blocks.cap hash c.args.hash _ c.self.inside.blocks.entries block refl (rw (c.promote.ensures.entries, is) at h));
    }

pub returns : goal.returns
returns c =
    let is = promoted_is_used c.self.inside.blocks c.args.hash c.len-room.ensures.valid in
    record { value = rw (← c.self.view_is, c.promote.ensures.entries, is) }
