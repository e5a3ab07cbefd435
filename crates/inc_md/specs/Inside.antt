-- What the records of a chain name lies inside the file.
use Rattle.std.specs.Prelude.{ℕ, ◌+◌, ◌<◌, ◌≤◌, length, Option, Some, None}
use Rattle.inc_md.specs.declared.kinds.TheConstants.{HEAD_SIZE, COUNTS_SIZE}
use Rattle.inc_md.specs.declared.records.Records.{Records}
use Rattle.inc_md.specs.declared.records.StatusRecord.{StatusRecord}

-- the two counts of a status record end inside a file of so many bytes
abbrev pub HasStatusInside : ℕ → Option StatusRecord → Type 0
HasStatusInside len None = Unit {0}
HasStatusInside len (Some status) = status.at + COUNTS_SIZE ≤ len

-- the status record's counts do, and so does the head of the last record, where there is one
pub record AreRecordsInside (len : ℕ) (records : Records) : Type 0 where
  pub status : HasStatusInside len records.status
  pub last : 0 < length records.spans → records.last + HEAD_SIZE ≤ len
