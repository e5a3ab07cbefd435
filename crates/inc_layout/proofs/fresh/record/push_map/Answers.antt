use Rattle.inc_layout.proofs.fresh_file.FreshPieces.{map_appended}
use Rattle.inc_layout.proofs.fresh.record.push_map.Goals as goal

pub returns : goal.returns
returns c = record {
  value = map_appended c.args.base c.args.count c.args.image.now.items c.push_head.new.image.items c.push_u64.new.image.items _
      c.in_ok-push_head.ensures.value c.in_ok-push_u64.ensures.value c.in_ok-push_u32.ensures.value;
}
