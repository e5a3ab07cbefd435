use Rattle.std.proofs.Common.{◌≡◌, sym, ap, ◌∙◌}
use Rattle.inc_pending.specs.Record.{record_in, record_bytes2, record_in2}
use Rattle.inc_pending.specs.declared.pending_record.PendingRecord.{PendingRecord}
use Rattle.inc_pending.proofs.RecordLemmas.{read_is2, bytes_again2, last_unread}
use Rattle.inc_pending.proofs.pending_record.PendingRecord.of_bytes2.Goals as goal

abbrev fields : (c : goal.After-unwrap) → record c.of_bytes-record.result { uid = c.unwrap.result } ≡ record_in2 c.args.b.now
fields c =
    read_is2 c.args.b.now c.unwrap.result c.of_bytes-record.result c.told-b
    (c.of_bytes-record.ensures.value ∙ ap record_in c.copy_from_slice.ensures.after)
    (sym c.unwrap.ensures ∙ c.get_u32.ensures.value)

pub returns-clause-value : goal.returns-clause-value
returns-clause-value c = fields c

pub returns-clause-back : goal.returns-clause-back
returns-clause-back c = ap (λ (r : PendingRecord). record_bytes2 r) (fields c) ∙ bytes_again2 c.args.b.now c.fits-b c.told-b

pub returns-clause-unread : goal.returns-clause-unread
returns-clause-unread c = λ rest. last_unread c.args.b.now rest c.told-b ∙ sym (fields c)
