use Rattle.std.proofs.Common.{ℕ, take, ap, sym, ◌∙◌}
use Rattle.inc_tree.specs.shape.Geometry.{Shape}
use Rattle.inc_tree.specs.read_block.Path.{block_digest}
use Rattle.inc_tree.specs.read_block.Verified.{content_at}
use Rattle.inc_cache.proofs.tests.breaking_level.Goals as goal

pub check-requires-clause-hashed : goal.check-requires-clause-hashed
check-requires-clause-hashed c =
    c.digest_of_front-digest.ensures.value
    ∙ (ap (λ (n : ℕ). block_digest (take n c.in-Some.block)) c.block_len-len.ensures.value
    ∙ (ap (λ (s : Shape). block_digest (content_at s 1 c.in-Some.block)) (sym c.requires.shape)
    ∙ ap (λ (i : ℕ). block_digest (content_at c.args.known.shape i c.in-Some.block)) (sym c.requires.index)))
