-- A pending read as the public interface tells it, in 32 bytes, or in 40 with its user:
--
--     at  bytes  field
--      0     16  id of the file
--     16      8  when the read was asked, in microseconds
--     24      4  index of its block
--     28      4  its serial
--     32      4  uid of the user who asked
--     36      4  zeros
use Rattle.std.specs.Prelude.{ℕ, List, ◌++◌, take, replicate}
use Rattle.inc_bytes.specs.Fields.{le_bytes, field}
use Rattle.inc_pending.specs.declared.pending_record.PendingRecord.{PendingRecord}

unfoldable pub record_bytes : PendingRecord → List ℕ
record_bytes r = r.id ++ le_bytes 8 r.asked ++ le_bytes 4 r.block ++ le_bytes 4 r.serial

-- the 32 bytes have no user, and give the user 0
unfoldable pub record_in : List ℕ → PendingRecord
record_in bytes = record { id = take 16 bytes; asked = field 8 16 bytes; block = field 4 24 bytes; serial = field 4 28 bytes; uid = 0 }

unfoldable pub record_bytes2 : PendingRecord → List ℕ
record_bytes2 r = record_bytes r ++ le_bytes 4 r.uid ++ replicate 4 0

-- the last four bytes aren't looked at
unfoldable pub record_in2 : List ℕ → PendingRecord
record_in2 bytes = record (record_in (take 32 bytes)) { uid = field 4 32 bytes }
