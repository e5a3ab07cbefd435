-- What a read of a block of an opened file answers: the first of the reasons why there are no bytes, and else the bytes.
use Rattle.std.specs.Prelude.{◌≡◌, ℕ, ◌+◌, ◌*◌, ◌<◌, ◌≤◌, ◌^◌, nat_lt, not, if◌then◌else◌, Bool, true, List, length, Option, Some, None, Result, Ok, Err, slice_index_or}
use Rattle.inc_tree.specs.shape.Geometry.{block_len, data_blocks, depth, hash_blocks, path_block}
use Rattle.inc_tree.specs.read_block.Path.{IsProof, NamesBreak, digest_below, digest_wanted, first_break}
use Rattle.inc_tree.specs.declared.read_block.shown.Shown.{Shown}
use Rattle.inc_tree.specs.declared.read_block.shown.Shown.TheVariants.{Proved, Unproved as without_proof}
use Rattle.inc_tree.specs.declared.read_block.unproved.Unproved.{Unproved}
use Rattle.inc_tree.specs.declared.read_block.verified.Verified.{Verified}
use Rattle.inc_entry.specs.Spans.{IsInside}
use Rattle.inc_entry.specs.Entry.{area_places, block_bytes, entries, hash_block_place, tree_span}
use Rattle.inc_entry.specs.Stored.{class_at, is_open_class, part}
use Rattle.inc_entry.specs.declared.areas.Areas.{Areas}
use Rattle.inc_entry.specs.declared.classes.Class.{Class}
use Rattle.inc_entry.specs.declared.classes.Class.TheVariants as class
use Rattle.inc_layout.specs.Backing.{sig_root}
use Rattle.inc_layout.specs.opening.Listed.{IsFirst, first_below, listed}
use Rattle.inc_layout.specs.declared.opened.Layout.{Layout}
use Rattle.inc_layout.specs.declared.reading.static_error.StaticError.{StaticError}
use Rattle.inc_layout.specs.declared.reading.stored_error.StoredError.{StoredError}
use Rattle.inc_layout.specs.declared.reading.stored_error.StoredError.TheVariants as stored
use Rattle.inc_layout.specs.declared.reading.static_error.StaticError.TheVariants.{OutOfRange, Damaged, Compressed, Absent, PathAbsent, Corrupt, ReadFault, OutOfMemory}

abbrev pub class_in : List Class → ℕ → Class
class_in classes i = slice_index_or classes i class.Damaged

abbrev pub place_in_class : Class → Result ℕ StaticError
place_in_class (class.OpenAt place size) = Ok place
place_in_class class.Damaged = Err Damaged
place_in_class class.Compressed = Err Compressed
place_in_class class.Closed = Err Absent

-- where a data block is stored
unfoldable pub block_place : Areas → List Class → ℕ → Result ℕ StaticError
block_place areas classes index = if nat_lt index (data_blocks areas.geometry) then place_in_class (class_in classes index) else Err OutOfRange

-- the hash block on a level of the path hasn't arrived
abbrev pub is_missing : Areas → List Class → ℕ → ℕ → Bool
is_missing areas classes index level = not (is_open_class (class_in classes (data_blocks areas.geometry + path_block areas.geometry index level)))

-- the lowest such level
abbrev pub first_missing : Areas → List Class → ℕ → Option ℕ
first_missing areas classes index = first_below (depth areas.geometry) (is_missing areas classes index)

-- the block's bytes of the content, from its place
abbrev pub content_from : List ℕ → Areas → ℕ → ℕ → List ℕ
content_from bytes areas index place = part (block_len areas.geometry index) place bytes

-- a hash block, by its number
abbrev pub hash_block : List ℕ → Areas → ℕ → List ℕ
hash_block bytes areas number = part block_bytes (hash_block_place (area_places areas) number) bytes

-- the path, leaf level first
abbrev pub path_in : List ℕ → Areas → ℕ → List (List ℕ)
path_in bytes areas index = listed (λ level. hash_block bytes areas (path_block areas.geometry index level)) (depth areas.geometry)

-- by the first level at which the path fails
abbrev pub judged : List ℕ → ℕ → List ℕ → List (List ℕ) → Option ℕ → Result (List ℕ) StaticError
judged root index content path None = Ok content
judged root index content path (Some level) = Err (Corrupt level (digest_wanted root index path level) (digest_below content path level))

-- against the root, where the file has one
abbrev pub by_root : Option (List ℕ) → ℕ → List ℕ → List (List ℕ) → Result (List ℕ) StaticError
by_root None index content path = Ok content
by_root (Some root) index content path = judged root index content path (first_break root index content path)

abbrev pub with_missing : List ℕ → Option (List ℕ) → Areas → ℕ → ℕ → Option ℕ → Result (List ℕ) StaticError
with_missing bytes root areas index place None = by_root root index (content_from bytes areas index place) (path_in bytes areas index)
with_missing bytes root areas index place (Some level) = Err (PathAbsent (path_block areas.geometry index level))

abbrev pub with_place : List ℕ → Option (List ℕ) → Areas → List Class → ℕ → Result ℕ StaticError → Result (List ℕ) StaticError
with_place bytes root areas classes index (Ok place) = with_missing bytes root areas index place (first_missing areas classes index)
with_place bytes root areas classes index (Err error) = Err error

-- of a file with this root or none, whose entries have these classes
unfoldable pub block_reading : List ℕ → Option (List ℕ) → Areas → List Class → ℕ → Result (List ℕ) StaticError
block_reading bytes root areas classes index = with_place bytes root areas classes index (block_place areas classes index)

abbrev pub static_reading : List ℕ → Layout → ℕ → Result (List ℕ) StaticError
static_reading bytes layout index = block_reading bytes (sig_root layout.sig) layout.areas layout.classes index

-- ---- in words

-- the index has a data block, whose entry has this class
pub record IsClassed (bytes : List ℕ) (layout : Layout) (index : ℕ) (class : Class) : Type 0 where
  pub here : index < data_blocks layout.areas.geometry
  pub classed : class_at (area_places layout.areas) bytes index ≡ class

-- the block is stored at a place
pub record IsStoredAt (bytes : List ℕ) (layout : Layout) (index place : ℕ) : Type 0 where
  pub size : ℕ
  pub open_there : IsClassed bytes layout index (class.OpenAt place size)

-- the hash block on a level of the path is there, by its own entry
abbrev pub is_path_there : List ℕ → Layout → ℕ → ℕ → Bool
is_path_there bytes layout index level =
    is_open_class (class_at (area_places layout.areas) bytes (data_blocks layout.areas.geometry + path_block layout.areas.geometry index level))

-- the block is stored, and of its path the hash block on this level is the lowest one that isn't there
pub record IsLowestMissing (bytes : List ℕ) (layout : Layout) (index hash : ℕ) : Type 0 where
  pub place : ℕ
  pub level : ℕ
  pub stored : IsStoredAt bytes layout index place
  pub lowest : IsFirst (depth layout.areas.geometry) (λ level. not (is_path_there bytes layout index level)) level
  pub hash_is : hash ≡ path_block layout.areas.geometry index level

-- the block and its whole path are stored, and these are its bytes
pub record IsWhole (bytes : List ℕ) (layout : Layout) (index : ℕ) (content : List ℕ) : Type 0 where
  pub place : ℕ
  pub stored : IsStoredAt bytes layout index place
  pub content_is : content ≡ content_from bytes layout.areas index place
  pub path_there : (level : ℕ) → level < depth layout.areas.geometry → is_path_there bytes layout index level ≡ true

-- and the path fails at this level first
pub record IsBroken (bytes : List ℕ) (layout : Layout) (index level : ℕ) (wanted got : List ℕ) : Type 0 where
  pub root : List ℕ
  pub content : List ℕ
  pub root_is : sig_root layout.sig ≡ Some root
  pub whole : IsWhole bytes layout index content
  pub names : NamesBreak root index content (path_in bytes layout.areas index) level wanted got

-- the path proves the content, where the file has a root
abbrev pub IsProvedBy : Option (List ℕ) → List ℕ → Layout → ℕ → List ℕ → Type 0
IsProvedBy None bytes layout index content = Unit {0}
IsProvedBy (Some root) bytes layout index content = IsProof root layout.areas.geometry index content (path_in bytes layout.areas index)

pub record IsContent (bytes : List ℕ) (layout : Layout) (index : ℕ) (content : List ℕ) : Type 0 where
  pub whole : IsWhole bytes layout index content
  pub proved : IsProvedBy (sig_root layout.sig) bytes layout index content

-- what a reading means, by what it is
abbrev pub MeansReading : List ℕ → Layout → ℕ → Result (List ℕ) StaticError → Type 0
MeansReading bytes layout index (Ok content) = IsContent bytes layout index content
MeansReading bytes layout index (Err OutOfRange) = data_blocks layout.areas.geometry ≤ index
MeansReading bytes layout index (Err Damaged) = IsClassed bytes layout index class.Damaged
MeansReading bytes layout index (Err Compressed) = IsClassed bytes layout index class.Compressed
MeansReading bytes layout index (Err Absent) = IsClassed bytes layout index class.Closed
MeansReading bytes layout index (Err (PathAbsent hash)) = IsLowestMissing bytes layout index hash
MeansReading bytes layout index (Err (Corrupt level wanted got)) = IsBroken bytes layout index level wanted got
MeansReading bytes layout index (Err ReadFault) = ⊥
MeansReading bytes layout index (Err OutOfMemory) = ⊥

-- ---- what a call answers

-- the checked block is that of this index, by this root and the file's shape
pub record IsBlockIn (root : Option (List ℕ)) (areas : Areas) (index : ℕ) (block : Verified) : Type 0 where
  pub root_is : root ≡ Some block.root
  pub shape : block.geometry ≡ areas.geometry
  pub place : block.index ≡ index

-- the block is that of this index in a file without a root
pub record IsUnprovedIn (root : Option (List ℕ)) (areas : Areas) (index : ℕ) (block : Unproved) : Type 0 where
  pub no_root : root ≡ None
  pub place : block.index ≡ index
  pub len_is : block.len ≡ block_len areas.geometry index

-- a block is proved exactly where the file has a root
abbrev pub IsShownIn : Option (List ℕ) → Areas → ℕ → Shown → Type 0
IsShownIn root areas index (Proved block) = IsBlockIn root areas index block
IsShownIn root areas index (without_proof block) = IsUnprovedIn root areas index block

abbrev pub IsBlockOf : Layout → ℕ → Verified → Type 0
IsBlockOf layout index block = IsBlockIn (sig_root layout.sig) layout.areas index block

abbrev pub IsShownOf : Layout → ℕ → Shown → Type 0
IsShownOf layout index shown = IsShownIn (sig_root layout.sig) layout.areas index shown

-- a failing device and want of memory
abbrev pub static_error : StoredError → StaticError
static_error stored.ReadFault = ReadFault
static_error stored.OutOfMemory = OutOfMemory

-- a fault of the device and want of memory are free, and have clauses of their own
abbrev pub GivesReading : {T : Type 0} → (T → List ℕ) → Result T StaticError → Result (List ℕ) StaticError → Type 0
GivesReading content (Ok block) wanted = wanted ≡ Ok (content block)
GivesReading content (Err ReadFault) wanted = Unit {0}
GivesReading content (Err OutOfMemory) wanted = Unit {0}
GivesReading content (Err error) wanted = wanted ≡ Err error

-- why a hash block isn't there, by the lowest level without one
abbrev pub missing_error : Areas → ℕ → Option ℕ → Result (Unit {0}) StaticError
missing_error areas index None = Ok tt
missing_error areas index (Some level) = Err (PathAbsent (path_block areas.geometry index level))

-- ---- what a read rests on

-- of an opened file, whether its bytes are told or not
pub record IsReadable (areas : Areas) (classes : List Class) : Type 0 where
  pub class_count : length classes ≡ entries (area_places areas)
  pub tree_end : areas.hash_at + block_bytes * hash_blocks areas.geometry < 2 ^ 64

-- the classes are those of the entries in these bytes, and the tree lies inside them
pub record AreClassesOf (bytes : List ℕ) (areas : Areas) (classes : List Class) : Type 0 where
  pub tree_inside : IsInside (length bytes) (tree_span (area_places areas))
  pub each_class : (i : ℕ) → i < entries (area_places areas) → class_in classes i ≡ class_at (area_places areas) bytes i
