use Rattle.inc_signature.proofs.Printing.{info_appended}
use Rattle.inc_signature.proofs.writing.push_info.Goals as goal

pub returns-clause-value : goal.returns-clause-value
returns-clause-value c =
    info_appended c.args.blob.now.items c.args.root.now c.push_u32.new.bytes.items c.push.new.self.items c.push_u32-2.new.bytes.items c.push_u32-3.new.bytes.items _ c.told-root
    c.in_ok-push_u32.ensures.ok c.in_ok-push.ensures.items c.in_ok-push_u32-2.ensures.ok c.in_ok-push_u32-3.ensures.ok c.in_ok-extend_from_slice.ensures.items
