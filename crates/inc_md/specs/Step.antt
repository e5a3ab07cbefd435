-- One step along a chain, on what the records before it said.
use Rattle.std.specs.Prelude.{◌≡◌, ℕ, ◌+◌, ◌==◌, if◌then◌else◌, Bool, List, [], ◌∷◌, ◌++◌, length, Option, Some, is_some, ◌⊎◌}
use Rattle.std.specs.Option.{option_or}
use Rattle.inc_md.specs.declared.fault.ChainFault.{ChainFault}
use Rattle.inc_md.specs.declared.fault.ChainFault.TheVariants.{ReadFault, OutOfMemory}
use Rattle.inc_md.specs.declared.kinds.TheConstants.{HEAD_SIZE, MAP_KIND, MAP_RECORD_SIZE, SIGNATURE_KIND, SIGNATURE_RECORD_SIZE, STATUS_KIND, STATUS_RECORD_SIZE}
use Rattle.inc_md.specs.declared.records.Records.{Records}
use Rattle.inc_md.specs.Record.{head_of, place_tests, head_tests, map_fields, sig_fields, status_fields, span_of}

-- the least size of a record of this type
abbrev pub least_size : ℕ → ℕ
least_size kind =
    if kind == MAP_KIND then MAP_RECORD_SIZE
    else (if kind == SIGNATURE_KIND then SIGNATURE_RECORD_SIZE
    else (if kind == STATUS_KIND then STATUS_RECORD_SIZE
    else HEAD_SIZE))

-- the tests of a record at a place, after those that said this
abbrev pub tests_after : Records → List ℕ → ℕ → ℕ → List (Bool × ChainFault)
tests_after records bytes len at =
    place_tests (length records.spans) len at ++ head_tests (is_some records.map) (is_some records.signature) len at (head_of bytes at)

-- what is known with the fields of a record of this type that passed its tests
abbrev pub with_fields : List ℕ → ℕ → ℕ → Records → Records
with_fields bytes at kind records = record {
  map = if kind == MAP_KIND then Some (map_fields bytes (at + HEAD_SIZE)) else records.map;
  signature = if kind == SIGNATURE_KIND then Some (sig_fields bytes (at + HEAD_SIZE)) else records.signature;
  status = if kind == STATUS_KIND then option_or records.status (Some (status_fields bytes (at + HEAD_SIZE))) else records.status;
  spans = records.spans;
  last = records.last;
}

-- and with its place
unfoldable pub with_record : List ℕ → ℕ → Records → Records
with_record bytes at records = record (with_fields bytes at (head_of bytes at).kind records) { spans = records.spans ++ span_of bytes at ∷ []; last = at }

-- a fault of the device or of memory, or of the first test that fails
abbrev pub FailsBy : Option ChainFault → ChainFault → Type 0
FailsBy failing fault = (failing ≡ Some fault) ⊎ ((fault ≡ ReadFault) ⊎ (fault ≡ OutOfMemory))
