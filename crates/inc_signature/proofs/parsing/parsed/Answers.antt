use Rattle.std.proofs.Common.{ap, ◌+◌, Err}
use Rattle.std.proofs.lemmas.Result.{err_from_is_err_and}
use Rattle.std.proofs.lemmas.List.{take_rest}
use Rattle.inc_signature.specs.Signature.{signature_of}
use Rattle.inc_signature.specs.declared.signature.SigFault.{SigFault}
use Rattle.inc_signature.proofs.Printing.{told_fault, memory_at_whole, blob_refused, info_refused, all_hold}
use Rattle.inc_signature.proofs.parsing.parsed.Goals as goal

pub returns-in_err-end : goal.returns-in_err-end
returns-in_err-end c =
    let p = err_from_is_err_and c.from_residual.result c.from_residual.ensures.1 in
    let fault = c.in_err-end.field-0.0 in
    record { value = rw (p.1, p.2) (told_fault fault (signature_of c.args.b.now) (λ e. c.in_err-end.ensures.told (ap (λ (x : SigFault). Err x) e)) (blob_refused c.args.b.now fault c.in_err-end.ensures.value)) }

pub returns-in_err-root : goal.returns-in_err-root
returns-in_err-root c =
    let p = err_from_is_err_and c.from_residual-in_err-root.result c.from_residual-in_err-root.ensures.1 in
    let fault = c.in_err-root.field-0.0 in
    record { value = rw (p.1, p.2) (told_fault fault (signature_of c.args.b.now) (λ e. c.in_err-root.ensures.told (ap (λ (x : SigFault). Err x) e)) (info_refused c.args.b.now c.in_ok-end.end fault c.in_ok-end.ensures.value c.in_err-root.ensures.value)) }

pub returns-in_err-signing : goal.returns-in_err-signing
returns-in_err-signing c =
    let p = err_from_is_err_and c.from_residual-in_err-signing.result c.from_residual-in_err-signing.ensures.1 in
    record { value = rw (p.1, p.2) (memory_at_whole (signature_of c.args.b.now) _ (all_hold c.args.b.now c.in_ok-end.end c.in_ok-root.root c.in_ok-end.ensures.value c.in_ok-root.ensures.value)) }

pub returns : goal.returns
returns c = record { value = rw (c.in_ok-signing.ensures.value, take_rest c.args.b.now (c.in_ok-end.end + 4)) (all_hold c.args.b.now c.in_ok-end.end c.in_ok-root.root c.in_ok-end.ensures.value c.in_ok-root.ensures.value) }
