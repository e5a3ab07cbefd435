use Rattle.std.proofs.Common.{◌∙◌, ap}
use Rattle.inc_signature.specs.Signature.{printed}
use Rattle.inc_signature.proofs.Printing.{blob_appended, read_again, printed_again}
use Rattle.inc_signature.proofs.writing.print.Goals as goal

pub returns-clause-value : goal.returns-clause-value
returns-clause-value c =
    c.from_vec.ensures.value
    ∙ blob_appended c.args.s.now.root c.as_slice-signing.result.now c.new-blob.result.items c.push_u32.new.bytes.items c.push_u32-2.new.bytes.items c.push_info.new.blob.items c.push_u32-3.new.bytes.items _ c.push_info.ensures.sized
    c.new-blob.ensures.items c.in_ok-push_u32.ensures.ok c.in_ok-push_u32-2.ensures.ok c.in_ok-push_info.ensures.value c.in_ok-push_u32-3.ensures.ok c.in_ok-extend_from_slice.ensures.items
    ∙ ap (λ signing. printed c.args.s.now.root signing) c.as_slice-signing.ensures.value

pub returns-clause-read_back : goal.returns-clause-read_back
returns-clause-read_back c = read_again c.args.s.now _ c.push_info.ensures.sized c.requires.short (returns-clause-value c)

pub returns-clause-again : goal.returns-clause-again
returns-clause-again c = λ bytes fits e. printed_again c.args.s.now _ bytes (returns-clause-value c) fits e
