-- What a walk along a chain may answer. A fault of the device or of memory may come at any record; its cause is a clause of its own.
use Rattle.std.specs.Prelude.{◌≡◌, ℕ, ◌<◌, ◌≤◌, Bool, true, List, length, Some, None, Result, Ok, Err, IsSome}
use Rattle.inc_bytes.specs.Tests.{first_failing}
use Rattle.inc_md.specs.declared.fault.ChainFault.{ChainFault}
use Rattle.inc_md.specs.declared.fault.ChainFault.TheVariants.{NoMap, ReadFault, OutOfMemory}
use Rattle.inc_md.specs.declared.kinds.TheConstants.{MAP_KIND, MOST_RECORDS}
use Rattle.inc_md.specs.declared.records.Records.{Records}
use Rattle.inc_md.specs.Chain.{record_tests, IsChainFront, first_of_kind, records_of}

-- the fault is this answer, or one of the device or of memory
abbrev pub GivesChainFault : ChainFault → Result Records ChainFault → Type 0
GivesChainFault ReadFault wanted = Unit {0}
GivesChainFault OutOfMemory wanted = Unit {0}
GivesChainFault fault wanted = wanted ≡ Err fault

abbrev pub GivesChain : Result Records ChainFault → Result Records ChainFault → Type 0
GivesChain (Ok records) wanted = wanted ≡ Ok records
GivesChain (Err fault) wanted = GivesChainFault fault wanted

-- the whole chain passed its tests, and this is what it says
pub record IsChain (bytes : List ℕ) (len first : ℕ) (need_map : Bool) (records : Records) : Type 0 where
  pub places : List ℕ
  pub whole : IsChainFront bytes len first places 0
  pub few : length places ≤ MOST_RECORDS
  pub said : records ≡ records_of bytes places
  pub mapped : need_map ≡ true → IsSome records.map

-- a record of the chain fails this test first, and those before it pass all of theirs
pub record FailsAtRecord (bytes : List ℕ) (len first : ℕ) (fault : ChainFault) : Type 0 where
  pub places : List ℕ
  pub at : ℕ
  pub front : IsChainFront bytes len first places at
  pub there : 0 < at
  pub fails : first_failing (record_tests bytes len places at) ≡ Some fault

-- a map is needed, and the whole chain has none
pub record HasNoMap (bytes : List ℕ) (len first : ℕ) (need_map : Bool) : Type 0 where
  pub places : List ℕ
  pub whole : IsChainFront bytes len first places 0
  pub needed : need_map ≡ true
  pub none : first_of_kind bytes MAP_KIND places ≡ None

abbrev pub HasFault : List ℕ → ℕ → ℕ → Bool → ChainFault → Type 0
HasFault bytes len first need_map ReadFault = Unit {0}
HasFault bytes len first need_map OutOfMemory = Unit {0}
HasFault bytes len first need_map NoMap = HasNoMap bytes len first need_map
HasFault bytes len first need_map fault = FailsAtRecord bytes len first fault
