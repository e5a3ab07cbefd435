-- What a loader's sink gets: the stream of requests, piece by piece.
use Rattle.std.specs.Prelude.{◌≡◌, ℕ, Bool, true, false, if◌then◌else◌, List, [], ◌++◌, Option, option_map}
use Rattle.std.specs.List.{flat_map}
use Rattle.inc_frame.specs.Requests.{request_bytes, request_bytes2, request_hello_bytes, request_stream, request_stream2}
use Rattle.inc_pending.specs.declared.pending_record.PendingRecord.{PendingRecord}

-- a sink that had this, after these bytes
abbrev pub sent_after : Option (List ℕ) → List ℕ → Option (List ℕ)
sent_after before bytes = option_map (λ had. had ++ bytes) before

-- the hello, of version 2 or 1
abbrev pub hello_of : Bool → List ℕ
hello_of second = request_hello_bytes (if second then 2 else 1)

-- one request
abbrev pub request_of : Bool → PendingRecord → List ℕ
request_of true = request_bytes2
request_of false = request_bytes

-- the hello comes before all else, once
abbrev pub greeting_of : Bool → Bool → List ℕ
greeting_of second true = []
greeting_of second false = hello_of second

-- the whole stream of requests of a loader that was told these reads and is stopped
abbrev pub requests_of : Bool → List PendingRecord → List ℕ
requests_of true told = request_stream2 told
requests_of false told = request_stream told

-- what of it is out before the loader is stopped
abbrev pub begun_requests : Bool → Bool → List PendingRecord → List ℕ
begun_requests second greeted told = if greeted then hello_of second ++ flat_map (request_of second) told else []

-- a sink that had this got the requests of all reads that were told, and nothing else
pub record HasRequests (had written : Option (List ℕ)) (second greeted : Bool) (told : List PendingRecord) : Type 0 where
  pub sent_is : written ≡ sent_after had (begun_requests second greeted told)
  pub hello_first : greeted ≡ false → told ≡ []
