use Rattle.std.proofs.Common.{◌<◌, length, refl, sym, ap, inl, [], ◌∙◌, arith}
use Rattle.std.proofs.lemmas.Result.{on_ok_weaker, on_err_weaker}
use Rattle.std.proofs.lemmas.List.{get_or_read}
use Rattle.std.specs.Map.{keys_of}
use Rattle.inc_tree.specs.shape.Geometry.{depth, path_block}
use Rattle.inc_cache.specs.Kept.{CachedHashes}
use Rattle.inc_cache.proofs.UsedLemmas.{kept_at-again}
use Rattle.inc_cache.proofs.KnownLemmas.{keys-used, keys-again, kept_or_same}
use Rattle.inc_cache.proofs.cache.HashCache.keep_level.Goals as goal

pub returns-then-is_known-clause-used : goal.returns-then-is_known-clause-used
returns-then-is_known-clause-used c =
    let same = c.path_block-number.ensures.value ∙ ap (λ (s : CachedHashes). path_block s.shape c.args.block.now.index c.args.level) c.self.view_is in
    let there = sym c.is_known.ensures.value ∙ c.if-is_known.true in
    rw (c.touch.ensures.value, ← same) (keys-again _ _ _ _ there)

pub returns-then-is_known-clause-only : goal.returns-then-is_known-clause-only
returns-then-is_known-clause-only c = λ hash block h.
    let is = ap (λ (s : CachedHashes). s.kept) c.touch.ensures.value in
    inl (kept_at-again c.args.self.now.room hash c.path_block-number.result _ c.args.self.now.kept block refl (rw is at h))

pub returns-clause-used : goal.returns-clause-used
returns-clause-used c =
    let same = c.path_block-number.ensures.value ∙ ap (λ (s : CachedHashes). path_block s.shape c.args.block.now.index c.args.level) c.self.view_is in
    on_ok_weaker c.keep.result (λ is. ap (λ (s : CachedHashes). keys_of s.kept) is ∙ rw (← same) (keys-used _ _ _ _)) c.keep.ensures.kept

pub returns-clause-only : goal.returns-clause-only
returns-clause-only c =
    let same = c.path_block-number.ensures.value ∙ ap (λ (s : CachedHashes). path_block s.shape c.args.block.now.index c.args.level) c.self.view_is in
    let full = c.args.block.now.good.full ∙ ap depth c.requires.shape in
    let there : c.args.level < length c.args.block.now.path = omega (arith, full, c.requires.within) in
    let read = rw c.as_slice.ensures.value at c.index-as_slice-level.is in
    kept_or_same c.keep.result c.args.self.now.shape c.args.block.now.index c.args.level c.path_block-number.result c.args.block.now.path c.in_ok-kept.kept c.args.self.now.room
    c.args.self.now.kept c.keep.new.self.kept c.requires.within same (sym (get_or_read c.args.block.now.path c.args.level _ there read []) ∙ sym c.in_ok-kept.ensures.value)
    (on_ok_weaker c.keep.result (ap (λ (s : CachedHashes). s.kept)) c.keep.ensures.kept)
    (on_err_weaker c.keep.result (ap (λ (s : CachedHashes). s.kept)) c.keep.ensures.same)
