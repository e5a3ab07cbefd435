-- What the calls that open a file and read its entries answer, by their results.
use Rattle.std.specs.Prelude.{◌≡◌, ℕ, ◌<◌, ◌≤◌, ◌+◌, ◌*◌, ◌^◌, List, length, Option, Some, None, Result, Ok, Err, is_some, slice_index_or}
use Rattle.inc_tree.specs.shape.Geometry.{hash_blocks}
use Rattle.inc_header.specs.declared.header.HeaderKind.{HeaderKind}
use Rattle.inc_header.specs.declared.header.HeaderKind.TheVariants as kind
use Rattle.inc_md.specs.Inside.{AreRecordsInside}
use Rattle.inc_entry.specs.Spans.{AreApart, IsInside}
use Rattle.inc_entry.specs.Entry.{Places, area_places, areas_of, block_bytes, entries, entry_bytes, map_span, tree_span}
use Rattle.inc_entry.specs.Stored.{class_at, is_open_class, is_past}
use Rattle.inc_entry.specs.declared.classes.Class.{Class}
use Rattle.inc_entry.specs.declared.classes.Class.TheVariants.{Damaged}
use Rattle.inc_layout.specs.Backing.{first_past, layout_in}
use Rattle.inc_layout.specs.fixed.Fixed.{Fixed, IsFixed, most_length, shape_for}
use Rattle.inc_layout.specs.opening.Listed.{IsFirst, first_below, listed}
use Rattle.inc_layout.specs.declared.fault.LayoutFault.{LayoutFault}
use Rattle.inc_layout.specs.declared.fault.LayoutFault.TheVariants.{PlacePastEnd, ReadFault, OutOfMemory}
use Rattle.inc_layout.specs.declared.fixed.part.FixedPart.{FixedPart}
use Rattle.inc_layout.specs.declared.opened.Layout.{Layout}
use Rattle.inc_layout.specs.declared.opened.Opened.{Opened}

-- ---- the entries

-- the first so many entries were judged: none of them names a block past the end, and these are their classes
pub record HasClasses (places : Places) (bytes : List ℕ) (count : ℕ) (classes : List Class) : Type 0 where
  pub none : first_below count (is_past places bytes) ≡ None
  pub all : classes ≡ listed (class_at places bytes) count

-- the fault tells of the least entry that does, or of the device or memory
abbrev pub IsPastFault : Places → List ℕ → LayoutFault → Type 0
IsPastFault places bytes ReadFault = Unit {0}
IsPastFault places bytes OutOfMemory = Unit {0}
IsPastFault places bytes (PlacePastEnd i) = first_past places bytes ≡ Some i
IsPastFault places bytes fault = ⊥

-- each class has its digest or none
pub record HaveDigests (classes : List Class) (digests : List (Option (List ℕ))) : Type 0 where
  pub count : length digests ≡ length classes
  pub each : (i : ℕ) → i < length classes → is_some (slice_index_or digests i None) ≡ is_open_class (slice_index_or classes i Damaged)

-- ---- what is promised of each opened file, whether its bytes are told or not

abbrev pub IsPlainKind : HeaderKind → Type 0
IsPlainKind (kind.Plain first) = Unit {0}
IsPlainKind (kind.Mapped offset) = ⊥

-- An empty map or tree may stand anywhere.
pub record IsSoundLayout (layout : Layout) : Type 0 where
  pub plain : IsPlainKind layout.header.kind
  pub shape : layout.areas.geometry ≡ shape_for layout.sig layout.header.size
  pub signed : is_some layout.records.signature ≡ is_some layout.sig
  pub records_inside : AreRecordsInside layout.len layout.records
  pub len_is : layout.areas.len ≡ layout.len
  pub short : layout.len ≤ most_length
  pub map_inside : IsInside layout.len (map_span (area_places layout.areas))
  pub map_end : layout.areas.map_at + entry_bytes * entries (area_places layout.areas) < 2 ^ 64
  pub tree_inside : IsInside layout.len (tree_span (area_places layout.areas))
  pub tree_end : layout.areas.hash_at + block_bytes * hash_blocks layout.areas.geometry < 2 ^ 64
  pub all_apart : AreApart (areas_of (area_places layout.areas))
  pub class_count : length layout.classes ≡ entries (area_places layout.areas)

pub record IsSoundOpened (opened : Opened) : Type 0 where
  pub layout : IsSoundLayout (layout_in opened)
  pub digests : HaveDigests opened.classes opened.digests

-- ---- what an opening answers

-- what an opening makes of its parts
abbrev pub layout_with : FixedPart → List Class → Layout
layout_with part classes = record {
  header = part.header;
  records = part.records;
  sig = part.sig;
  areas = part.areas;
  classes = classes;
  len = part.areas.len;
}

-- a backing file is taken, but for a fault of the device or of memory
abbrev pub Accepts : {T : Type 0} → Result T LayoutFault → T → Type 0
Accepts (Ok opened) wanted = opened ≡ wanted
Accepts (Err ReadFault) wanted = Unit {0}
Accepts (Err OutOfMemory) wanted = Unit {0}
Accepts (Err fault) wanted = ⊥

-- the fixed part stands, and this is the least index of an entry that names a block past the end
pub record IsLeastPast (bytes : List ℕ) (i : ℕ) : Type 0 where
  pub fixed : Fixed
  pub stands : IsFixed bytes fixed
  pub least : IsFirst (entries fixed.places) (is_past fixed.places bytes) i
