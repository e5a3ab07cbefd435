use Rattle.std.proofs.Common.{◌≡◌, ap, ◌∙◌, refl, arith}
use Rattle.inc_pending.specs.Record.{record_bytes, record_in}
use Rattle.inc_pending.proofs.RecordLemmas.{written, record_again}
use Rattle.inc_pending.proofs.pending_record.PendingRecord.to_bytes.Goals as goal

abbrev spelled : (c : goal.After-bytes-8-1) → c.put_u32-2.new.b ≡ record_bytes c.args.self.now
spelled c = written c.args.self.now _ _ c.put_u64.new.b c.put_u32.new.b _ c.copy_from_slice.ensures.len refl c.copy_from_slice.ensures.after c.put_u64.ensures.written c.put_u32.ensures.written c.put_u32-2.ensures.written

pub returns-clause-value : goal.returns-clause-value
returns-clause-value c = spelled c

pub returns-clause-back : goal.returns-clause-back
returns-clause-back c = ap (λ bytes. record_in bytes) (spelled c) ∙ record_again c.args.self.now (omega arith) (omega arith) (omega arith) (omega arith)
