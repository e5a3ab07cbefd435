use Rattle.inc_layout.proofs.fresh_file.FreshPieces.{status_appended}
use Rattle.inc_layout.proofs.fresh.record.push_status.Goals as goal

pub returns : goal.returns
returns c = record { value = status_appended c.args.image.now.items c.push_head.new.image.items _ c.in_ok-push_head.ensures.value c.in_ok-extend_from_slice.ensures.items }
