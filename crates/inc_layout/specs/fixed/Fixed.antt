-- The part of a backing file that no fill changes: header, chain of records and signature blob, and where map and tree lie.
--
-- A file is signed where its chain has a signature record: it has a blob and a hash tree. Where it has none, it is unsigned: there is
-- neither blob nor tree, and its shape is flat.
--
-- A file is tested in this order; the first test that fails gives the fault. It has at most 2 ^ 47 bytes; its first 56 bytes are a
-- header; it is plain; its content has at most 2 ^ 34 bytes; its chain stands, with a block map where there are data blocks; of a
-- signed file the blob has at most 8096 bytes, lies inside the file and can be read; the map has an entry for each data and hash
-- block; the map lies inside the file; the tree has 4096 bytes for each hash block; the tree lies inside the file; header, records,
-- blob, map and tree have no byte in common.
use Rattle.std.specs.Prelude.{◌≡◌, ◌==◌, ℕ, ◌*◌, ◌^◌, ◌≤◌, Bool, nat_le, nat_lt, if◌then◌else◌, List, [], ◌∷◌, ◌++◌, length, take, Option, Some, None, Result, Ok, Err}
use Rattle.inc_bytes.specs.Tests.{first_failing, judge}
use Rattle.inc_bytes.specs.declared.span.Span.{Span}
use Rattle.inc_tree.specs.shape.Geometry.{Shape, blocks_of, flat_of, hash_blocks, tree_of}
use Rattle.inc_tree.specs.shape.Limits.{most_size}
use Rattle.inc_header.specs.Header.{header_of, place_of}
use Rattle.inc_header.specs.declared.header.Header.{Header}
use Rattle.inc_header.specs.declared.header.HeaderKind.{HeaderKind}
use Rattle.inc_header.specs.declared.header.HeaderKind.TheVariants as kind
use Rattle.inc_md.specs.Chain.{chain_of}
use Rattle.inc_md.specs.Outcome.{IsChain}
use Rattle.inc_md.specs.declared.fault.ChainFault.{ChainFault}
use Rattle.inc_md.specs.declared.records.MapRecord.{MapRecord}
use Rattle.inc_md.specs.declared.records.Records.{Records}
use Rattle.inc_md.specs.declared.records.SigRecord.{SigRecord}
use Rattle.inc_signature.specs.Signature.{signature_of}
use Rattle.inc_signature.specs.declared.signature.SigInfo.{SigInfo}
use Rattle.inc_signature.specs.declared.signature.SigFault.TheVariants as signature_faults
use Rattle.inc_entry.specs.Spans.{AreApart, IsInside, are_apart, is_inside}
use Rattle.inc_entry.specs.Entry.{Places, block_bytes, entries, map_span, tree_span, areas_of}
use Rattle.inc_entry.specs.Stored.{part}
use Rattle.inc_layout.specs.opening.Faults.{told_header, told_sig}
use Rattle.inc_layout.specs.declared.fault.LayoutFault.{LayoutFault}
use Rattle.inc_layout.specs.declared.fault.LayoutFault.TheVariants as faults

-- what this part of a file tells
pub record Fixed : Type 0 where
  pub header : Header
  pub records : Records
  pub sig : Option SigInfo
  pub places : Places

-- the bytes of a header, and the most bytes of a file and of a blob
abbrev pub header_len : ℕ
header_len = 56

abbrev pub most_length : ℕ
most_length = 2 ^ 47

abbrev pub most_blob : ℕ
most_blob = 8096

abbrev pub header_span : Span
header_span = record { at = 0; len = header_len }

abbrev pub blob_span : SigRecord → Span
blob_span signature = record { at = signature.sig_at; len = signature.sig_size }

abbrev pub blob_in : List ℕ → SigRecord → List ℕ
blob_in bytes signature = part signature.sig_size signature.sig_at bytes

-- a missing map has no entries, and stands at 0
abbrev pub map_count : Option MapRecord → ℕ
map_count None = 0
map_count (Some map) = map.count

abbrev pub map_base : Option MapRecord → ℕ
map_base None = 0
map_base (Some map) = map.base

-- an unsigned file has no blob, and its tree has no bytes and is said to be at 0
abbrev pub blob_spans : Option SigRecord → List Span
blob_spans None = []
blob_spans (Some signature) = blob_span signature ∷ []

abbrev pub hash_base : Option SigRecord → ℕ
hash_base None = 0
hash_base (Some signature) = signature.tree_at

abbrev pub hash_size : Option SigRecord → ℕ
hash_size None = 0
hash_size (Some signature) = signature.tree_size

-- the shape of a content of this size, with a tree where there is a signature
abbrev pub shape_for : {T : Type 0} → Option T → ℕ → Shape
shape_for None size = flat_of size
shape_for (Some signature) size = tree_of size

-- where everything lies, for a content of this size
abbrev pub places_in : ℕ → Records → Places
places_in size records = record {
  shape = shape_for records.signature size;
  spans = header_span ∷ records.spans ++ blob_spans records.signature;
  map_at = map_base records.map;
  hash_at = hash_base records.signature;
}

abbrev pub fixed_from : Header → Records → Option SigInfo → Fixed
fixed_from header records sig = record { header = header; records = records; sig = sig; places = places_in header.size records }

-- a map is needed where there is a data block
abbrev pub needs_map : Header → Bool
needs_map header = nat_lt 0 (blocks_of header.size)

-- ---- in words

-- the first bytes of a file that isn't too long are this header
pub record IsHeaderOf (bytes : List ℕ) (header : Header) : Type 0 where
  pub short : length bytes ≤ most_length
  pub header_is : header_of (take header_len bytes) ≡ Ok header

-- the blob of this record lies inside the file and is the spelling of this signature
pub record IsBlob (bytes : List ℕ) (signature : SigRecord) (sig : SigInfo) : Type 0 where
  pub short : signature.sig_size ≤ most_blob
  pub inside : IsInside (length bytes) (blob_span signature)
  pub spelled : signature_of (blob_in bytes signature) ≡ Ok sig

-- the file is signed, with a record and its blob, or unsigned, with neither
abbrev pub IsSigned : List ℕ → Option SigRecord → Option SigInfo → Type 0
IsSigned bytes (Some signature) (Some sig) = IsBlob bytes signature sig
IsSigned bytes None None = Unit {0}
IsSigned bytes (Some signature) None = ⊥
IsSigned bytes None (Some sig) = ⊥

-- the part stands
pub record IsFixed (bytes : List ℕ) (fixed : Fixed) : Type 0 where
  pub first : ℕ
  pub front : IsHeaderOf bytes fixed.header
  pub plain : fixed.header.kind ≡ kind.Plain first
  pub small : fixed.header.size ≤ most_size
  pub chain : IsChain bytes (length bytes) first (needs_map fixed.header) fixed.records
  pub signed : IsSigned bytes fixed.records.signature fixed.sig
  pub placed : fixed.places ≡ places_in fixed.header.size fixed.records
  pub map_counted : map_count fixed.records.map ≡ entries fixed.places
  pub map_inside : IsInside (length bytes) (map_span fixed.places)
  pub tree_sized : hash_size fixed.records.signature ≡ block_bytes * hash_blocks fixed.places.shape
  pub tree_inside : IsInside (length bytes) (tree_span fixed.places)
  pub all_apart : AreApart (areas_of fixed.places)

-- ---- the same as a function, a definition a step

-- where tests hold, what comes after them
abbrev pub if_passed : {T : Type 0} → Option LayoutFault → Result T LayoutFault → Result T LayoutFault
if_passed None next = next
if_passed (Some fault) next = Err fault

-- the header, where the file isn't too long
unfoldable pub front_of : List ℕ → Result Header LayoutFault
front_of bytes = if nat_le (length bytes) most_length then told_header (header_of (take header_len bytes)) else Err faults.TooLong

abbrev pub plain_kind : Header → HeaderKind → Result Header LayoutFault
plain_kind header (kind.Plain first) = if nat_le header.size most_size then Ok header else Err faults.TooLarge
plain_kind header (kind.Mapped offset) = Err faults.Mapped

-- the header of a plain file that isn't too large
unfoldable pub plain_of : Header → Result Header LayoutFault
plain_of header = plain_kind header header.kind

unfoldable pub blob_span_tests : ℕ → SigRecord → List (Bool × LayoutFault)
blob_span_tests len signature =
    (nat_le signature.sig_size most_blob, faults.Signature signature_faults.TooLong)
    ∷ (is_inside len (blob_span signature), faults.SignatureOutside)
    ∷ []

-- the signature, of a signed file
abbrev pub sig_in : List ℕ → Option SigRecord → Result (Option SigInfo) LayoutFault
sig_in bytes None = Ok None
sig_in bytes (Some signature) = if_passed (first_failing (blob_span_tests (length bytes) signature)) (told_sig (signature_of (blob_in bytes signature)))

-- of a map with so many entries and a tree of so many bytes
unfoldable pub area_tests : ℕ → Places → ℕ → ℕ → List (Bool × LayoutFault)
area_tests len places count tree_size =
    (count == entries places, faults.MapCount (entries places) count)
    ∷ (is_inside len (map_span places), faults.MapOutside)
    ∷ (tree_size == block_bytes * hash_blocks places.shape, faults.TreeSize (block_bytes * hash_blocks places.shape) tree_size)
    ∷ (is_inside len (tree_span places), faults.TreeOutside)
    ∷ (are_apart (areas_of places), faults.Overlap)
    ∷ []

abbrev pub tests_with : ℕ → Header → Records → List (Bool × LayoutFault)
tests_with len header records = area_tests len (places_in header.size records) (map_count records.map) (hash_size records.signature)

abbrev pub with_sig : ℕ → Header → Records → Result (Option SigInfo) LayoutFault → Result Fixed LayoutFault
with_sig len header records (Ok sig) = judge (first_failing (tests_with len header records)) (fixed_from header records sig)
with_sig len header records (Err fault) = Err fault

abbrev pub with_chain : List ℕ → Header → Result Records ChainFault → Result Fixed LayoutFault
with_chain bytes header (Ok records) = with_sig (length bytes) header records (sig_in bytes records.signature)
with_chain bytes header (Err fault) = Err (faults.Chain fault)

abbrev pub with_plain : List ℕ → Result Header LayoutFault → Result Fixed LayoutFault
with_plain bytes (Ok header) = with_chain bytes header (chain_of bytes (length bytes) (place_of header.kind) (needs_map header))
with_plain bytes (Err fault) = Err fault

abbrev pub with_front : List ℕ → Result Header LayoutFault → Result Fixed LayoutFault
with_front bytes (Ok header) = with_plain bytes (plain_of header)
with_front bytes (Err fault) = Err fault

unfoldable pub fixed_of : List ℕ → Result Fixed LayoutFault
fixed_of bytes = with_front bytes (front_of bytes)
