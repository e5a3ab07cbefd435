-- A stream of requests: a hello of eight bytes, requests, and an end of one byte.
--
-- The hello is the letters INCREQ, the version as two bytes, 1 or 2. A request is the byte 1 and a pending record, in version 1
-- its 32 bytes, in version 2 its 40 bytes with the user. The end is the byte 2.
use Rattle.std.specs.Prelude.{ℕ, List, [], ◌∷◌, ◌++◌}
use Rattle.std.specs.List.{flat_map}
use Rattle.inc_frame.specs.Frames.{end_bytes}
use Rattle.inc_pending.specs.Record.{record_bytes, record_bytes2}
use Rattle.inc_pending.specs.declared.pending_record.PendingRecord.{PendingRecord}

unfoldable pub request_hello_bytes : ℕ → List ℕ
request_hello_bytes version = 0x49 ∷ 0x4e ∷ 0x43 ∷ 0x52 ∷ 0x45 ∷ 0x51 ∷ version ∷ 0 ∷ []

unfoldable pub request_bytes : PendingRecord → List ℕ
request_bytes r = 1 ∷ record_bytes r

unfoldable pub request_bytes2 : PendingRecord → List ℕ
request_bytes2 r = 1 ∷ record_bytes2 r

-- what a loader that was told these reads has been sent once it is stopped
unfoldable pub request_stream : List PendingRecord → List ℕ
request_stream records = request_hello_bytes 1 ++ flat_map request_bytes records ++ end_bytes

unfoldable pub request_stream2 : List PendingRecord → List ℕ
request_stream2 records = request_hello_bytes 2 ++ flat_map request_bytes2 records ++ end_bytes
