-- A backing file, as its tests compute it and in words.
use Rattle.std.proofs.Common.{◌≡◌, ℕ, ◌<◌, false, List, Option, Some, None, Result, Ok, Err, refl, sym, ap, ◌∙◌, subst}
use Rattle.inc_entry.specs.Entry.{Places, area_places, entries}
use Rattle.inc_entry.specs.Stored.{class_at, is_past, stored_digest}
use Rattle.inc_entry.specs.declared.classes.Class.TheVariants.{Damaged}
use Rattle.inc_layout.specs.Backing.{IsBackingFile, IsLaidOut, areas_with, digests_in, first_past, laid_of, layout_fixed, layout_from, layout_in, opened_of, opened_with, with_fixed, with_layout, with_past}
use Rattle.inc_layout.specs.fixed.Fixed.{Fixed, IsFixed, fixed_of}
use Rattle.inc_layout.specs.opening.Listed.{listed}
use Rattle.inc_layout.specs.declared.fault.LayoutFault.{LayoutFault}
use Rattle.inc_layout.specs.declared.opened.Layout.{Layout}
use Rattle.inc_layout.specs.declared.opened.Opened.{Opened}
use Rattle.inc_layout.proofs.fixed_part.FixedMeaning.{fixed_stands, stands_fixed}
use Rattle.inc_layout.proofs.ListedLemmas.{below_none, length-listed, listed_at, listed_from, none_below}

-- ---- without digests

from_fixed : (bytes : List ℕ) (fixed : Fixed) → IsFixed bytes fixed → first_past fixed.places bytes ≡ None → IsLaidOut bytes (layout_from bytes fixed)
from_fixed bytes fixed is none = record {
  fixed = is;
  len_is = refl;
  area_len = refl;
  none_past = none_below (entries fixed.places) (is_past fixed.places bytes) none;
  class_count = length-listed (class_at fixed.places bytes) (entries fixed.places);
  each_class = λ i lt. listed_at (class_at fixed.places bytes) (entries fixed.places) i Damaged lt;
}

from_past : (bytes : List ℕ) (fixed : Fixed) (layout : Layout) → IsFixed bytes fixed → (past : Option ℕ) → first_past fixed.places bytes ≡ past
    → with_past past (layout_from bytes fixed) ≡ Ok layout → IsLaidOut bytes layout
from_past bytes fixed layout is None none e =
    let same : layout_from bytes fixed ≡ layout = cc in
    subst (λ (o : Layout). IsLaidOut bytes o) same (from_fixed bytes fixed is none)
from_past bytes fixed layout is (Some i) past e = absurd cc

from_part : (bytes : List ℕ) (layout : Layout) (found : Result Fixed LayoutFault) → fixed_of bytes ≡ found → with_fixed bytes found ≡ Ok layout → IsLaidOut bytes layout
from_part bytes layout (Ok fixed) is e = from_past bytes fixed layout (fixed_stands bytes fixed is) _ refl e
from_part bytes layout (Err fault) is e = absurd cc

-- what the tests find stands
pub laid_stands : (bytes : List ℕ) (layout : Layout) → laid_of bytes ≡ Ok layout → IsLaidOut bytes layout
unfolding laid_of
laid_stands bytes layout e = from_part bytes layout _ refl e

-- a fixed part and no entry past the end are a layout
pub fixed_laid : (bytes : List ℕ) (fixed : Fixed) → IsFixed bytes fixed → ((i : ℕ) → i < entries fixed.places → is_past fixed.places bytes i ≡ false) → laid_of bytes ≡ Ok (layout_from bytes fixed)
unfolding laid_of
fixed_laid bytes fixed is none_past =
    ap (with_fixed bytes) (stands_fixed bytes fixed is)
    ∙ ap (λ (past : Option ℕ). with_past past (layout_from bytes fixed)) (below_none (entries fixed.places) (is_past fixed.places bytes) none_past)

-- what stands is what the tests find
pub stands_laid : (bytes : List ℕ) (layout : Layout) → IsLaidOut bytes layout → laid_of bytes ≡ Ok layout
stands_laid bytes layout is =
    let places : Places = area_places layout.areas in
    let classes : listed (class_at places bytes) (entries places) ≡ layout.classes = sym (listed_from (class_at places bytes) (entries places) layout.classes Damaged is.class_count is.each_class) in
    let same : layout_from bytes (layout_fixed layout) ≡ layout = λ i. record {
      header = layout.header;
      records = layout.records;
      sig = layout.sig;
      areas = areas_with (sym is.area_len i) places;
      classes = classes i;
      len = sym is.len_is i;
    } in
    fixed_laid bytes (layout_fixed layout) is.fixed is.none_past ∙ ap (λ (o : Layout). Ok o) same

-- ---- with digests

digested : (bytes : List ℕ) (layout : Layout) → IsLaidOut bytes layout → IsBackingFile bytes (opened_with layout (digests_in bytes layout.areas))
digested bytes layout is =
    let places : Places = area_places layout.areas in
    record {
      laid = is;
      digest_count = length-listed (stored_digest places bytes) (entries places);
      each_digest = λ i lt. listed_at (stored_digest places bytes) (entries places) i None lt;
    }

from_layout : (bytes : List ℕ) (opened : Opened) (found : Result Layout LayoutFault) → laid_of bytes ≡ found → with_layout bytes found ≡ Ok opened → IsBackingFile bytes opened
from_layout bytes opened (Ok layout) is e =
    let same : opened_with layout (digests_in bytes layout.areas) ≡ opened = cc in
    subst (λ (o : Opened). IsBackingFile bytes o) same (digested bytes layout (laid_stands bytes layout is))
from_layout bytes opened (Err fault) is e = absurd cc

pub backing_stands : (bytes : List ℕ) (opened : Opened) → opened_of bytes ≡ Ok opened → IsBackingFile bytes opened
unfolding opened_of
backing_stands bytes opened e = from_layout bytes opened _ refl e

pub stands_backing : (bytes : List ℕ) (opened : Opened) → IsBackingFile bytes opened → opened_of bytes ≡ Ok opened
unfolding opened_of
stands_backing bytes opened is =
    let places : Places = area_places opened.areas in
    let digests : listed (stored_digest places bytes) (entries places) ≡ opened.digests = sym (listed_from (stored_digest places bytes) (entries places) opened.digests None is.digest_count is.each_digest) in
    ap (with_layout bytes) (stands_laid bytes (layout_in opened) is.laid) ∙ (λ i. Ok (opened_with (layout_in opened) (digests i)))

-- what a file tells whose fixed part stands and whose entries name no block past its end
pub fixed_backing : (bytes : List ℕ) (fixed : Fixed) → IsFixed bytes fixed → ((i : ℕ) → i < entries fixed.places → is_past fixed.places bytes i ≡ false)
    → IsBackingFile bytes (opened_with (layout_from bytes fixed) (digests_in bytes (areas_with 0 fixed.places)))
fixed_backing bytes fixed is none_past = digested bytes (layout_from bytes fixed) (laid_stands bytes (layout_from bytes fixed) (fixed_laid bytes fixed is none_past))
