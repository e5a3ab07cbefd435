use Rattle.std.proofs.Common.{◌≡◌, ℕ, ◌+◌, ◌*◌, ◌<◌, get_or}
use Rattle.inc_loader.specs.Content.{generated_byte}
use Rattle.inc_loader.proofs.gen_loader.content.fill_block.Given as goal

abbrev pub invariant-loop-place : goal.invariant-loop-place
invariant-loop-place l = (k : ℕ) → k < l.place → get_or l.room k 0 ≡ generated_byte l.number (4096 * l.index + k)
