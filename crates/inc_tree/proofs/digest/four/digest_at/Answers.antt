use Rattle.std.proofs.Common.{rules, ◌∙◌, ap, sym, arith}
use Rattle.std.proofs.lemmas.Slice.{overwrites}
use Rattle.std.specs.Int.{to_be_bytes, w32}
use Rattle.sha2.specs.Sha256.{digest_bytes}
use Rattle.sha2.proofs.Absorbing256.{digest_more}
use Rattle.inc_tree.specs.Lanes.{lane}
use Rattle.inc_tree.proofs.MessageLemmas.{lane_word}
use Rattle.inc_tree.proofs.digest.four.digest_at.Goals as goal

pub loop-place-init : goal.loop-place-init
unfolding digest_bytes
loop-place-init c = search rules

pub loop-place-preserved : goal.loop-place-preserved
loop-place-preserved c = (
  search (rules, overwrites),
  digest_more c.loop-place.digest (lane c.args.which c.args.state.now) _ c.loop-place.place _ c.loop-place.invariant.1 (omega arith)
      (c.copy_from_slice.ensures.after ∙ (c.to_be_bytes.ensures
      ∙ ap (to_be_bytes w32) (sym (lane_word c.args.which c.args.state.now c.loop-place.place (omega arith))))),
)
