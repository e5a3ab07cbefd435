-- What the calls that open the fixed part of a file answer, by their results.
use Rattle.std.specs.Prelude.{◌≡◌, ℕ, ◌+◌, ◌*◌, ◌^◌, ◌<◌, List, length, is_some, Result, Ok, Err}
use Rattle.inc_tree.specs.shape.Geometry.{hash_blocks}
use Rattle.inc_md.specs.Inside.{AreRecordsInside}
use Rattle.inc_signature.specs.declared.signature.SigInfo.{SigInfo}
use Rattle.inc_signature.specs.declared.signature.SigFault.{SigFault}
use Rattle.inc_entry.specs.Spans.{AreApart, IsInside}
use Rattle.inc_entry.specs.Entry.{area_places, areas_of, block_bytes, entries, entry_bytes, map_span, tree_span}
use Rattle.inc_layout.specs.opening.Faults.{GivesLayoutFault}
use Rattle.inc_layout.specs.fixed.Fixed.{Fixed, front_of, shape_for}
use Rattle.inc_layout.specs.opening.Opening.{IsPlainKind}
use Rattle.inc_layout.specs.declared.fault.LayoutFault.{LayoutFault}
use Rattle.inc_layout.specs.declared.fault.LayoutFault.TheVariants.{Signature, ReadFault, OutOfMemory}
use Rattle.inc_layout.specs.declared.fixed.part.FixedPart.{FixedPart}
use Rattle.inc_layout.specs.declared.fixed.part.Front.{Front}

-- the header and the length
abbrev pub GivesFront : List ℕ → Result Front LayoutFault → Type 0
GivesFront bytes (Ok front) = (front_of bytes ≡ Ok front.header) × (front.len ≡ length bytes)
GivesFront bytes (Err fault) = GivesLayoutFault fault (front_of bytes)

-- a fault of the blob is told as one of the whole file
abbrev pub IsBlobFault : LayoutFault → Result SigInfo SigFault → Type 0
IsBlobFault ReadFault wanted = Unit {0}
IsBlobFault OutOfMemory wanted = Unit {0}
IsBlobFault (Signature fault) wanted = wanted ≡ Err fault
IsBlobFault fault wanted = ⊥

abbrev pub GivesBlob : Result SigInfo LayoutFault → Result SigInfo SigFault → Type 0
GivesBlob (Ok sig) wanted = wanted ≡ Ok sig
GivesBlob (Err fault) wanted = IsBlobFault fault wanted

abbrev pub part_fixed : FixedPart → Fixed
part_fixed part = record { header = part.header; records = part.records; sig = part.sig; places = area_places part.areas }

abbrev pub GivesFixed : ℕ → Result FixedPart LayoutFault → Result Fixed LayoutFault → Type 0
GivesFixed len (Ok part) wanted = (wanted ≡ Ok (part_fixed part)) × (part.areas.len ≡ len)
GivesFixed len (Err fault) wanted = GivesLayoutFault fault wanted

-- where everything lies, whether the file tells its bytes or not
pub record IsPlaced (part : FixedPart) : Type 0 where
  pub plain : IsPlainKind part.header.kind
  pub shape : part.areas.geometry ≡ shape_for part.sig part.header.size
  pub signed : is_some part.records.signature ≡ is_some part.sig
  pub records_inside : AreRecordsInside part.areas.len part.records
  pub map_inside : IsInside part.areas.len (map_span (area_places part.areas))
  pub map_end : part.areas.map_at + entry_bytes * entries (area_places part.areas) < 2 ^ 64
  pub tree_inside : IsInside part.areas.len (tree_span (area_places part.areas))
  pub tree_end : part.areas.hash_at + block_bytes * hash_blocks part.areas.geometry < 2 ^ 64
  pub all_apart : AreApart (areas_of (area_places part.areas))
