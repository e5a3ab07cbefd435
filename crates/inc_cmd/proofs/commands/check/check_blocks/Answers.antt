use Rattle.std.proofs.Common.{refl, ◌∙◌, arith, add-one}
use Rattle.inc_layout.specs.Backing.{layout_in}
use Rattle.inc_cmd.proofs.CheckLemmas.{told_kept, told_more, told_none}
use Rattle.inc_cmd.proofs.commands.check.check_blocks.Goals as goal

pub loop-index-init : goal.loop-index-init
loop-index-init g c = record {
  kept = refl;
  quiet = refl;
  some = omega arith;
  path = rw c.new-path.ensures.value (told_kept _ (layout_in c.args.opened.now));
  checked = rw c.new-lines.ensures.items (told_none _ (layout_in c.args.opened.now) c.args.part.now);
}

pub loop-index-preserved : goal.loop-index-preserved
loop-index-preserved g c = record {
  kept = c.check_block.ensures.kept ∙ c.loop-index.invariant.kept;
  quiet = c.in_ok-good.ensures.cause.kept (λ e. absurd (cc)) ∙ c.loop-index.invariant.quiet;
  some = (let few = c.in_ok-good.ensures.one in let low = c.loop-index.invariant.some in omega arith);
  path = rw c.loop-index.invariant.kept at c.check_block.ensures.after;
  checked = rw add-one (told_more _ (layout_in c.args.opened.now) c.args.part.now c.loop-index.index c.loop-index.lines.items _ c.loop-index.good c.in_ok-good.field-0 c.loop-index.invariant.checked
      (rw c.loop-index.invariant.kept at c.in_ok-good.ensures.good) (rw c.loop-index.invariant.kept at c.in_ok-good.ensures.line));
}
