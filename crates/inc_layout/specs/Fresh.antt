-- A new backing file, none of whose blocks has come. A signed one:
--
--     at              what
--     0               header, with the first record at 56
--     56              block map record, with the next record at 91
--     91              signature record, with the next record at 138
--     138             status record, the last one, with all counts 0
--     193             signature blob
--     behind it       block map: ten zeros for each data block and each hash block
--     tree_place      hash tree: 4096 zeros for each hash block
--
-- The tree begins at the first multiple of 4096 at or behind the map's end, with zeros before it. Where there is no hash block, the file
-- ends with the map, and the tree is said to be at 0. An unsigned file has neither signature record nor blob nor tree:
--
--     at              what
--     0               header, with the first record at 56
--     56              block map record, with the next record at 91
--     91              status record, the last one, with all counts 0
--     146             block map: ten zeros for each data block
use Rattle.std.specs.Prelude.{◌≡◌, ◌==◌, ℕ, ◌+◌, ◌-◌, ◌*◌, ◌/◌, ◌<◌, ◌≤◌, if◌then◌else◌, List, ◌∷◌, ◌++◌, length, replicate, Option, Some, None, Result, Ok, Err, IsOk, slice_index_or}
use Rattle.inc_bytes.specs.Fields.{le_bytes}
use Rattle.inc_tree.specs.shape.Geometry.{Shape, blocks_of, data_blocks, hash_blocks}
use Rattle.inc_tree.specs.shape.Limits.{most_size}
use Rattle.inc_header.specs.Header.{header_bytes}
use Rattle.inc_header.specs.declared.reading.TheConstants.{HEADER_LEN}
use Rattle.inc_header.specs.declared.header.Header.{Header}
use Rattle.inc_header.specs.declared.header.HeaderKind.TheVariants.{Plain}
use Rattle.inc_signature.specs.Signature.{signature_of}
use Rattle.inc_signature.specs.declared.signature.SigInfo.{SigInfo}
use Rattle.inc_signature.specs.declared.signature.SigFault.{SigFault}
use Rattle.inc_signature.specs.declared.signature.SigFault.TheVariants as signature_faults
use Rattle.inc_entry.specs.declared.classes.Class.TheVariants.{Closed, Damaged}
use Rattle.inc_md.specs.declared.kinds.TheConstants.{MAP_KIND, MAP_RECORD_SIZE, SIGNATURE_KIND, SIGNATURE_RECORD_SIZE, STATUS_KIND, STATUS_RECORD_SIZE}
use Rattle.inc_layout.specs.Backing.{IsBackingFile}
use Rattle.inc_entry.specs.Entry.{block_bytes, entry_bytes}
use Rattle.inc_layout.specs.fixed.Fixed.{shape_for}
use Rattle.inc_layout.specs.declared.fresh.FreshFault.{FreshFault}
use Rattle.inc_layout.specs.declared.fresh.FreshImage.{FreshImage}
use Rattle.inc_layout.specs.declared.fresh.FreshFault.TheVariants as fault
use Rattle.inc_layout.specs.declared.opened.Opened.{Opened}

-- ---- places, for a content of this shape and a blob of `blob_size` bytes

-- where the records stand, each behind the one before it, and what comes behind them
abbrev pub map_record_place : ℕ
map_record_place = HEADER_LEN

abbrev pub second_record_place : ℕ
second_record_place = map_record_place + MAP_RECORD_SIZE

abbrev pub third_record_place : ℕ
third_record_place = second_record_place + SIGNATURE_RECORD_SIZE

abbrev pub blob_place : ℕ
blob_place = third_record_place + STATUS_RECORD_SIZE

abbrev pub unsigned_map_place : ℕ
unsigned_map_place = second_record_place + STATUS_RECORD_SIZE

-- the entries of a map
abbrev pub entry_count : Shape → ℕ
entry_count shape = data_blocks shape + hash_blocks shape

abbrev pub map_place : ℕ → ℕ
map_place blob_size = blob_place + blob_size

abbrev pub map_end : Shape → ℕ → ℕ
map_end shape blob_size = map_place blob_size + entry_bytes * entry_count shape

-- the next multiple of 4096
abbrev pub block_start : ℕ → ℕ
block_start at = 4096 * ((at + 4095) / 4096)

unfoldable pub tree_place : Shape → ℕ → ℕ
tree_place shape blob_size = if hash_blocks shape == 0 then 0 else block_start (map_end shape blob_size)

abbrev pub tree_bytes : Shape → ℕ
tree_bytes shape = block_bytes * hash_blocks shape

-- the zeros between map and tree
unfoldable pub gap : Shape → ℕ → ℕ
gap shape blob_size = if hash_blocks shape == 0 then 0 else tree_place shape blob_size - map_end shape blob_size

unfoldable pub fresh_length : Shape → ℕ → ℕ
fresh_length shape blob_size = if hash_blocks shape == 0 then map_end shape blob_size else tree_place shape blob_size + tree_bytes shape

-- of an unsigned file
abbrev pub unsigned_length : ℕ → ℕ
unsigned_length size = unsigned_map_place + entry_bytes * blocks_of size

-- ---- pieces

abbrev pub zeros : ℕ → List ℕ
zeros count = replicate count 0

-- a record's type and size, and the place of the next one
abbrev pub record_head : ℕ → ℕ → ℕ → List ℕ
record_head kind size next = kind ∷ le_bytes 2 size ++ le_bytes 4 0 ++ le_bytes 8 next ++ le_bytes 8 0

unfoldable pub map_record : ℕ → ℕ → List ℕ
map_record base count = record_head MAP_KIND MAP_RECORD_SIZE second_record_place ++ le_bytes 8 base ++ le_bytes 4 count

unfoldable pub signature_record : ℕ → ℕ → ℕ → List ℕ
signature_record blob_size tree_size tree_at =
    record_head SIGNATURE_KIND SIGNATURE_RECORD_SIZE third_record_place ++ le_bytes 4 blob_size ++ le_bytes 8 blob_place ++ le_bytes 4 tree_size ++ le_bytes 8 tree_at

unfoldable pub status_record : List ℕ
status_record = record_head STATUS_KIND STATUS_RECORD_SIZE 0 ++ zeros 32

abbrev pub fresh_header : ℕ → List ℕ → Header
fresh_header size id = record { kind = Plain map_record_place; size = size; id = id }

-- ---- the whole file

unfoldable pub fresh_of : (shape : Shape) (id blob : List ℕ) → List ℕ
fresh_of shape id blob =
    header_bytes (fresh_header shape.size id)
    ++ map_record (map_place (length blob)) (entry_count shape)
    ++ signature_record (length blob) (tree_bytes shape) (tree_place shape (length blob))
    ++ status_record
    ++ blob
    ++ zeros (entry_bytes * entry_count shape)
    ++ zeros (gap shape (length blob))
    ++ zeros (tree_bytes shape)

unfoldable pub unsigned_of : (size : ℕ) (id : List ℕ) → List ℕ
unsigned_of size id =
    header_bytes (fresh_header size id)
    ++ map_record unsigned_map_place (blocks_of size)
    ++ status_record
    ++ zeros (entry_bytes * blocks_of size)

-- the bytes of a file that is described by its front: zeros stand behind that
abbrev pub image_of : FreshImage → List ℕ
image_of image = image.front ++ zeros (image.len - length image.front)

-- ---- in words

-- the signature is that of the blob, where there is one
abbrev pub IsSigOf : Option (List ℕ) → Option SigInfo → Type 0
IsSigOf None None = Unit {0}
IsSigOf (Some blob) (Some sig) = signature_of blob ≡ Ok sig
IsSigOf None (Some sig) = ⊥
IsSigOf (Some blob) None = ⊥

-- It is a backing file with this header and this blob or none, none of whose blocks is stored.
pub record IsFreshFile (size : ℕ) (id : List ℕ) (blob : Option (List ℕ)) (bytes : List ℕ) : Type 0 where
  pub opened : Opened
  pub stands : IsBackingFile bytes opened
  pub header : opened.header ≡ fresh_header size id
  pub sig : IsSigOf blob opened.sig
  pub all_closed : (i : ℕ) → i < entry_count (shape_for blob size) → slice_index_or opened.classes i Damaged ≡ Closed
  pub none_stored : (i : ℕ) → i < entry_count (shape_for blob size) → slice_index_or opened.digests i None ≡ None

-- of some content
pub record IsFreshImage (bytes : List ℕ) : Type 0 where
  pub size : ℕ
  pub id : List ℕ
  pub blob : Option (List ℕ)
  pub fresh : IsFreshFile size id blob bytes

-- ---- what a call answers

-- an inner want of memory is one of the whole
abbrev pub fresh_fault : SigFault → FreshFault
fresh_fault signature_faults.OutOfMemory = fault.OutOfMemory
fresh_fault refused = fault.Signature refused

-- a fault of the signature exactly where the blob isn't one
abbrev pub GivesSignature : {T : Type 0} → Result T FreshFault → Result SigInfo SigFault → Type 0
GivesSignature (Err (fault.Signature refused)) judged = judged ≡ Err refused
GivesSignature result judged = IsOk judged

-- and none where there is no blob
abbrev pub HasNoBlob : {T : Type 0} → Result T FreshFault → Type 0
HasNoBlob (Err (fault.Signature refused)) = ⊥
HasNoBlob result = Unit {0}

-- too large exactly where the size is over the limit, for a good signature
abbrev pub GivesSize : {T : Type 0} → Result T FreshFault → ℕ → Type 0
GivesSize (Ok image) size = size ≤ most_size
GivesSize (Err fault.TooLarge) size = most_size < size
GivesSize (Err refused) size = Unit {0}
