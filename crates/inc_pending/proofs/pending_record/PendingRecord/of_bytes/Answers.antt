use Rattle.std.proofs.Common.{◌≡◌, sym, ap, ◌∙◌}
use Rattle.inc_pending.specs.Record.{record_bytes, record_in}
use Rattle.inc_pending.specs.declared.pending_record.PendingRecord.{PendingRecord}
use Rattle.inc_pending.proofs.RecordLemmas.{read_is, bytes_again}
use Rattle.inc_pending.proofs.pending_record.PendingRecord.of_bytes.Goals as goal

abbrev fields : (c : goal.After-unwrap-3) → record_in c.args.b.now ≡ record { id = c.copy_from_slice.new.self; asked = c.unwrap.result; block = c.unwrap-2.result; serial = c.unwrap-3.result; uid = 0 }
fields c =
    read_is c.args.b.now _ _ _ _ c.told-b c.copy_from_slice.ensures.after
    (sym c.unwrap.ensures ∙ c.get_u64.ensures.value)
    (sym c.unwrap-2.ensures ∙ c.get_u32.ensures.value)
    (sym c.unwrap-3.ensures ∙ c.get_u32-2.ensures.value)

pub returns-clause-value : goal.returns-clause-value
returns-clause-value c = sym (fields c)

pub returns-clause-back : goal.returns-clause-back
returns-clause-back c = ap (λ (r : PendingRecord). record_bytes r) (sym (fields c)) ∙ bytes_again c.args.b.now c.fits-b c.told-b
