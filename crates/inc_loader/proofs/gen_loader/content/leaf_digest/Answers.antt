use Rattle.std.proofs.Common.{◌≡◌, ◌∙◌, ap, length, take, arith}
use Rattle.std.proofs.lemmas.List.{length-take}
use Rattle.inc_tree.specs.read_block.Path.{block_digest}
use Rattle.inc_loader.proofs.ContentLemmas.{filled_block}
use Rattle.inc_loader.proofs.gen_loader.content.leaf_digest.Goals as goal

pub returns : goal.returns
returns c =
    let long : length (take c.block_len-len.result c.args.room.now) ≡ c.block_len-len.result = omega (arith, length-take c.block_len-len.result c.args.room.now) in
    record {
      value = c.digest_block.ensures.value
          ∙ ap block_digest (filled_block c.args.number c.args.geometry.now.size c.args.index _ _ c.fill_block.ensures.value c.requires.here (long ∙ c.block_len-len.ensures.value));
    }
