use Rattle.std.proofs.Common.{◌≡◌, ap, ◌∙◌, sym, length, arith}
use Rattle.inc_pending.specs.Record.{record_bytes2, record_in2}
use Rattle.inc_pending.proofs.RecordLemmas.{written2, record_again2}
use Rattle.inc_pending.proofs.pending_record.PendingRecord.to_bytes2.Goals as goal

abbrev spelled : (c : goal.After-bytes-4-1) → c.put_u32.new.b ≡ record_bytes2 c.args.self.now
spelled c = written2 c.args.self.now c.copy_from_slice.new.self c.put_u32.new.b c.copy_from_slice.ensures.len (c.copy_from_slice.ensures.after ∙ c.to_bytes.ensures.value) c.put_u32.ensures.written

pub returns-clause-value : goal.returns-clause-value
returns-clause-value c = spelled c

pub returns-clause-back : goal.returns-clause-back
returns-clause-back c = ap record_in2 (spelled c) ∙ record_again2 c.args.self.now c.to_bytes.result (sym (ap length c.copy_from_slice.ensures.after) ∙ c.copy_from_slice.ensures.len) c.to_bytes.ensures.value c.to_bytes.ensures.back (omega arith)
