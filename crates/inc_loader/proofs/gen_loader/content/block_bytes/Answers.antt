use Rattle.std.proofs.Common.{◌≡◌, ◌∙◌, ap, length, arith}
use Rattle.std.proofs.lemmas.List.{take_at}
use Rattle.inc_loader.proofs.ContentLemmas.{filled_block}
use Rattle.inc_loader.proofs.gen_loader.content.block_bytes.Goals as goal

pub returns : goal.returns
returns c =
    let before : length c.deref_mut.result.now ≡ c.block_len.result = omega (arith, ap length c.deref_mut.ensures.value, c.in_ok-bytes.ensures.len) in
    record {
      value = take_at c.fill_block.new.room _ c.in_ok-bytes.bytes.len (omega (arith, c.fill_block.auto.room, c.in_ok-bytes.ensures.len, before))
          ∙ filled_block c.args.number c.args.geometry.now.size c.args.index _ _ c.fill_block.ensures.value c.requires (before ∙ c.block_len.ensures.value);
    }
