use Rattle.inc_layout.proofs.fresh_file.FreshPieces.{signature_appended}
use Rattle.inc_layout.proofs.fresh.record.push_signature.Goals as goal

pub returns : goal.returns
returns c = record {
  value = signature_appended c.args.blob_size c.args.tree_size c.args.tree_at c.args.image.now.items c.push_head.new.image.items c.push_u32.new.image.items c.push_u64.new.image.items c.push_u32-2.new.image.items _
      c.in_ok-push_head.ensures.value c.in_ok-push_u32.ensures.value c.in_ok-push_u64.ensures.value c.in_ok-push_u32-2.ensures.value c.in_ok-push_u64-2.ensures.value;
}
