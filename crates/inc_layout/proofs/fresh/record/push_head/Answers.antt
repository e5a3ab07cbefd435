use Rattle.inc_layout.proofs.fresh_file.FreshPieces.{head_appended}
use Rattle.inc_layout.proofs.fresh.record.push_head.Goals as goal

pub returns : goal.returns
returns c = record {
  value = head_appended c.args.kind c.args.size c.args.next c.args.image.now.items c.push.new.self.items c.push_u16.new.image.items c.push_u32.new.image.items c.push_u64.new.image.items _
      c.in_ok-push.ensures.items c.in_ok-push_u16.ensures.value c.in_ok-push_u32.ensures.value c.in_ok-push_u64.ensures.value c.in_ok-push_u64-2.ensures.value;
}
