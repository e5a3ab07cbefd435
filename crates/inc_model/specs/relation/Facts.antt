-- What holds in every state that a legal history reaches from an opening.
use Rattle.std.specs.Prelude.{◌≡◌, ◌⊎◌, ℕ, ◌+◌, ◌<◌, ◌≤◌, true, false, List, Option, Some, None, is_some, All}
use Rattle.inc_tree.specs.shape.Geometry.{shape_of, hash_blocks}
use Rattle.inc_pending.specs.Keyed.{lookup, KeysRise}
use Rattle.inc_pending.specs.Polling.{AreRising}
use Rattle.inc_pending.specs.Times.{HoldsTimes}
use Rattle.inc_pending.specs.declared.reads.ReadRow.{ReadRow}
use Rattle.inc_pending.specs.declared.timeouts.Times.{Times}
use Rattle.inc_model.specs.declared.words.limits.TheConstants.{FIRST_SERIALS, MOST_DATA_BLOCKS, MOST_ENTRIES}
use Rattle.inc_model.specs.declared.words.file_state.FileState.{FileState}
use Rattle.inc_model.specs.declared.words.file_state.FlightRow.{FlightRow}
use Rattle.inc_model.specs.declared.words.file_state.Stage.{Stage}
use Rattle.inc_model.specs.declared.words.file_state.Stage.TheVariants.{Written, Placed, Settled, Gated}
use Rattle.inc_model.specs.relation.State.{Digests, is_in, has, all_places, Rise, WindowsRise, FlightRises, IsSameFile, AreSound, AreDisjoint}
use Rattle.inc_model.specs.relation.Stages.{is_gated}

-- a read is done exactly where its block is in the map; serials differ, and are below the next one
pub record ReadFacts (digests : Digests) (reads : List ReadRow) (next : ℕ) : Type 0 where
  pub done : All (λ row. row.done ≡ is_in row.block digests) reads
  pub rising : AreRising reads
  pub below : All (λ row. row.serial < next) reads

-- `first` is the map of the opening
pub record MapFacts (first digests begun : Digests) (acknowledged : List ℕ) (failed : Option ℕ) : Type 0 where
  -- each open index was open then, or its gate write began, with the same digest
  pub origin : (index : ℕ) (digest : List ℕ) → lookup index digests ≡ Some digest → (lookup index first ≡ Some digest) ⊎ (lookup index begun ≡ Some digest)
  pub acknowledged_open : (index : ℕ) → has index acknowledged ≡ true → is_in index digests ≡ true
  -- a gate write that began and didn't open its entry has failed
  pub begun_open : (index : ℕ) → is_in index begun ≡ true → (is_in index digests ≡ true) ⊎ (is_some failed ≡ true)

pub record RowFacts (digests : Digests) (damaged compressed : List ℕ) (row : FlightRow) : Type 0 where
  pub undamaged : has row.index damaged ≡ false
  pub uncompressed : has row.index compressed ≡ false
  -- it is at stage gated exactly where it is in the map
  pub gated : is_gated row.stage ≡ is_in row.index digests

-- an index is in flight once at most
pub record FlightFacts (digests : Digests) (damaged compressed : List ℕ) (flight : List FlightRow) : Type 0 where
  pub once : FlightRises flight
  pub rows : All (RowFacts digests damaged compressed) flight

pub record FileFacts (first s : FileState) : Type 0 where
  pub read : ReadFacts s.map s.reads s.next
  pub opened : MapFacts first.map s.map s.begun s.acknowledged s.failed
  pub flying : FlightFacts s.map s.damaged s.compressed s.flight

-- ---- what else holds in such a state

-- how an index in flight stands in `begun`: its own gate write alone can have begun, and only from stage settled on
abbrev pub BegunAs : Stage → List ℕ → Option (List ℕ) → Type 0
BegunAs Written digest found = found ≡ None
BegunAs Placed digest found = found ≡ None
BegunAs Settled digest found = (found ≡ None) ⊎ (found ≡ Some digest)
BegunAs Gated digest found = found ≡ Some digest

pub record FillFacts (digests begun : Digests) (acknowledged : List ℕ) (row : FlightRow) : Type 0 where
  pub unacknowledged : has row.index acknowledged ≡ false
  -- where it is in the map, it is there with its own digest
  pub own : is_gated row.stage ≡ true → lookup row.index digests ≡ Some row.digest
  pub begun_as : BegunAs row.stage row.digest (lookup row.index begun)

-- the keys of the other lists rise
pub record ListFacts (digests begun : Digests) (damaged compressed acknowledged : List ℕ) (times : List (ℕ × Times)) : Type 0 where
  pub digests_rise : KeysRise digests
  pub begun_rises : KeysRise begun
  pub damaged_rises : Rise damaged
  pub compressed_rises : Rise compressed
  pub acknowledged_rises : Rise acknowledged
  pub times_hold : HoldsTimes times

-- each index is one of the file's; reads are of data blocks
pub record IndexFacts (n m : ℕ) (digests begun : Digests) (damaged compressed acknowledged : List ℕ) (reads : List ReadRow) (flight : List FlightRow) : Type 0 where
  pub reads_within : All (λ row. row.block < n) reads
  pub digests_within : All (λ row. row.0 < n + m) digests
  pub begun_within : All (λ row. row.0 < n + m) begun
  pub damaged_within : All (λ index. index < n + m) damaged
  pub compressed_within : All (λ index. index < n + m) compressed
  pub acknowledged_within : All (λ index. index < n + m) acknowledged
  pub flight_within : All (λ row. row.index < n + m) flight

-- `first` is the map of the opening
pub record KeptFacts (first digests begun : Digests) (acknowledged : List ℕ) : Type 0 where
  -- each index that was open at the opening is acknowledged
  pub opened : (index : ℕ) → is_in index first ≡ true → has index acknowledged ≡ true
  -- a gate write begins only of an index that wasn't open then
  pub fresh : (index : ℕ) → is_in index begun ≡ true → is_in index first ≡ false
  -- what is open since then has the digest with which its gate write began
  pub same : (index : ℕ) (digest other : List ℕ) → lookup index begun ≡ Some digest → lookup index digests ≡ Some other → digest ≡ other

-- an index is open or begun, or damaged, or compressed, and never two of these
pub record ApartFacts (digests begun : Digests) (damaged compressed : List ℕ) : Type 0 where
  pub open_sound : AreSound digests damaged compressed
  pub begun_sound : AreSound begun damaged compressed
  pub apart : AreDisjoint damaged compressed

pub record MoreFacts (first s : FileState) : Type 0 where
  pub same : IsSameFile first s
  pub fills : All (FillFacts s.map s.begun s.acknowledged) s.flight
  pub lists : ListFacts s.map s.begun s.damaged s.compressed s.acknowledged s.times
  pub indices : IndexFacts s.n s.m s.map s.begun s.damaged s.compressed s.acknowledged s.reads s.flight
  pub claims : WindowsRise s.claimed
  pub kept : KeptFacts first.map s.map s.begun s.acknowledged
  pub apart : ApartFacts s.map s.begun s.damaged s.compressed

-- ---- a state to begin from, whatever its map and its reads are

-- the numbers of data and hash blocks are those of one size within the limit, with a tree or with no hash block at all
pub record IsShape (n m : ℕ) : Type 0 where
  pub small : n ≤ MOST_DATA_BLOCKS
  pub tree : m ≡ hash_blocks (shape_of n m)

pub record IsStart (s : FileState) : Type 0 where
  pub shape : IsShape s.n s.m
  pub lists : ListFacts s.map s.begun s.damaged s.compressed s.acknowledged s.times
  pub claims : WindowsRise s.claimed
  pub once : FlightRises s.flight
  pub indices : IndexFacts s.n s.m s.map s.begun s.damaged s.compressed s.acknowledged s.reads s.flight
  pub rising : AreRising s.reads
  pub below : All (λ row. row.serial < s.next) s.reads
  pub serials : s.next < FIRST_SERIALS
  pub places : all_places s.claimed ≤ MOST_ENTRIES
