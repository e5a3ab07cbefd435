use Rattle.std.proofs.Common.{◌∙◌, arith}
use Rattle.std.proofs.lemmas.List.{take_all}
use Rattle.inc_tree.proofs.block.Block.padded.Goals as goal

pub returns : goal.returns
returns c =
    let copied = c.in_ok-bytes.ensures.items_if_clones_equal (λ x y e. e) in
    let whole = take_all 4096 c.args.bytes.now c.requires in
    record {
      value = c.in_ok-resize.ensures.items ∙ grind (arith, copied, whole, c.in_ok-bytes.ensures.len);
    }
