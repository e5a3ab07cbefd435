use Rattle.std.proofs.Common.{ℕ, List, ◌++◌, length, ap, ◌∙◌}
use Rattle.std.proofs.lemmas.List.{drop-replicate}
use Rattle.inc_tree.proofs.read_block.path.padded_leaf.Goals as goal

pub returns : goal.returns
returns c = record {
  value =
      c.put_front.ensures.value
      ∙ ap (λ (zeros : List ℕ). c.args.bytes.now ++ zeros) (drop-replicate {X = ℕ} (length c.args.bytes.now) 4096 0);
}
