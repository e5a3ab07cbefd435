-- A backing file: its fixed part stands, no entry of its map names a block past its end, and each entry has its class. Of each open
-- entry the digest of the stored block is told. What a file tells without its digests is its layout.
use Rattle.std.specs.Prelude.{◌≡◌, ℕ, ◌<◌, false, List, length, Option, Some, None, Result, Ok, Err, slice_index_or}
use Rattle.inc_signature.specs.declared.signature.SigInfo.{SigInfo}
use Rattle.inc_entry.specs.Entry.{Places, area_places, entries}
use Rattle.inc_entry.specs.Stored.{class_at, is_past, stored_digest}
use Rattle.inc_entry.specs.declared.areas.Areas.{Areas}
use Rattle.inc_entry.specs.declared.classes.Class.TheVariants.{Damaged}
use Rattle.inc_layout.specs.fixed.Fixed.{Fixed, IsFixed, fixed_of}
use Rattle.inc_layout.specs.opening.Listed.{first_below, listed}
use Rattle.inc_layout.specs.declared.fault.LayoutFault.{LayoutFault}
use Rattle.inc_layout.specs.declared.fault.LayoutFault.TheVariants.{PlacePastEnd}
use Rattle.inc_layout.specs.declared.opened.Layout.{Layout}
use Rattle.inc_layout.specs.declared.opened.Opened.{Opened}

-- the root of a signature, where there is one
abbrev pub sig_root : Option SigInfo → Option (List ℕ)
sig_root None = None
sig_root (Some sig) = Some sig.root

-- what is told without digests, and of it what no fill changes
abbrev pub layout_in : Opened → Layout
layout_in opened = record {
  header = opened.header;
  records = opened.records;
  sig = opened.sig;
  areas = opened.areas;
  classes = opened.classes;
  len = opened.len;
}

abbrev pub layout_fixed : Layout → Fixed
layout_fixed layout = record { header = layout.header; records = layout.records; sig = layout.sig; places = area_places layout.areas }

abbrev pub fixed_in : Opened → Fixed
fixed_in opened = layout_fixed (layout_in opened)

-- ---- in words

-- the file stands, and this is where everything lies and what the entries say
pub record IsLaidOut (bytes : List ℕ) (layout : Layout) : Type 0 where
  pub fixed : IsFixed bytes (layout_fixed layout)
  pub len_is : layout.len ≡ length bytes
  pub area_len : layout.areas.len ≡ length bytes
  pub none_past : (i : ℕ) → i < entries (area_places layout.areas) → is_past (area_places layout.areas) bytes i ≡ false
  pub class_count : length layout.classes ≡ entries (area_places layout.areas)
  pub each_class : (i : ℕ) → i < entries (area_places layout.areas) → slice_index_or layout.classes i Damaged ≡ class_at (area_places layout.areas) bytes i

-- the file stands, and this is all that it tells
pub record IsBackingFile (bytes : List ℕ) (opened : Opened) : Type 0 where
  pub laid : IsLaidOut bytes (layout_in opened)
  pub digest_count : length opened.digests ≡ entries (area_places opened.areas)
  pub each_digest : (i : ℕ) → i < entries (area_places opened.areas) → slice_index_or opened.digests i None ≡ stored_digest (area_places opened.areas) bytes i

-- ---- the same as a function

abbrev pub areas_with : ℕ → Places → Areas
areas_with len places = record { len = len; spans = places.spans; map_at = places.map_at; hash_at = places.hash_at; geometry = places.shape }

abbrev pub layout_from : List ℕ → Fixed → Layout
layout_from bytes fixed = record {
  header = fixed.header;
  records = fixed.records;
  sig = fixed.sig;
  areas = areas_with (length bytes) fixed.places;
  classes = listed (class_at fixed.places bytes) (entries fixed.places);
  len = length bytes;
}

-- the least index of an entry that names a block past the end
abbrev pub first_past : Places → List ℕ → Option ℕ
first_past places bytes = first_below (entries places) (is_past places bytes)

abbrev pub with_past : Option ℕ → Layout → Result Layout LayoutFault
with_past None layout = Ok layout
with_past (Some i) layout = Err (PlacePastEnd i)

abbrev pub with_fixed : List ℕ → Result Fixed LayoutFault → Result Layout LayoutFault
with_fixed bytes (Ok fixed) = with_past (first_past fixed.places bytes) (layout_from bytes fixed)
with_fixed bytes (Err fault) = Err fault

unfoldable pub laid_of : List ℕ → Result Layout LayoutFault
laid_of bytes = with_fixed bytes (fixed_of bytes)

-- a layout and the digests that belong to it
abbrev pub opened_with : Layout → List (Option (List ℕ)) → Opened
opened_with layout digests = record {
  header = layout.header;
  records = layout.records;
  sig = layout.sig;
  areas = layout.areas;
  classes = layout.classes;
  digests = digests;
  len = layout.len;
}

abbrev pub digests_in : List ℕ → Areas → List (Option (List ℕ))
digests_in bytes areas = listed (stored_digest (area_places areas) bytes) (entries (area_places areas))

abbrev pub with_layout : List ℕ → Result Layout LayoutFault → Result Opened LayoutFault
with_layout bytes (Ok layout) = Ok (opened_with layout (digests_in bytes layout.areas))
with_layout bytes (Err fault) = Err fault

unfoldable pub opened_of : List ℕ → Result Opened LayoutFault
opened_of bytes = with_layout bytes (laid_of bytes)
