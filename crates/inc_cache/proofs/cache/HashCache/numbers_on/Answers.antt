use Rattle.std.proofs.Common.{true, false, ap, sym, ◌∙◌, append-nil}
use Rattle.inc_cache.specs.Kept.{CachedHashes}
use Rattle.inc_cache.proofs.KnownLemmas.{numbers_more}
use Rattle.inc_cache.proofs.cache.HashCache.numbers_on.Goals as goal
use Rattle.inc_cache.proofs.cache.HashCache.numbers_on.Goals.{then-is_known+in_ok-push, else-is_known}

pub loop-level-preserved : goal.loop-level-preserved
loop-level-preserved c =
    let same = ap (λ (s : CachedHashes). s.shape) c.self.view_is in
    elim c.if-is_known.branch [
      | then-is_known+in_ok-push w ↦
          rw w.numbers-is (numbers_more c.args.self.now.shape c.self.inside.geometry c.args.index c.args.self.now.kept c.loop-level.level c.path_block-number.result true _ _ same
          c.loop-level.invariant c.path_block-number.ensures.value (sym w.if-is_known.true ∙ c.is_known.ensures.value) w.in_ok-push.ensures.items)
      | else-is_known w ↦
          rw w.numbers-is (numbers_more c.args.self.now.shape c.self.inside.geometry c.args.index c.args.self.now.kept c.loop-level.level c.path_block-number.result false _ _ same
          c.loop-level.invariant c.path_block-number.ensures.value (sym w.if-is_known.false ∙ c.is_known.ensures.value) (sym (append-nil _)))
    ]
