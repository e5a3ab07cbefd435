-- The steps of opening a file, over a content that may not be told.
use Rattle.std.proofs.Common.{◌≡◌, ℕ, ◌<◌, ◌≤◌, false, List, length, Option, Some, None, Ok, Err, refl, sym, ap, ◌∙◌}
use Rattle.std.specs.Prelude.{IfOk, IfSome, Result}
use Rattle.inc_entry.specs.Entry.{area_places, entries, map_span}
use Rattle.inc_entry.specs.Spans.{IsInside}
use Rattle.inc_entry.specs.Stored.{class_at, is_past, stored_digest}
use Rattle.inc_entry.specs.declared.classes.Class.{Class}
use Rattle.inc_entry.specs.declared.classes.Class.TheVariants.{Damaged}
use Rattle.inc_layout.specs.Backing.{IsBackingFile, IsLaidOut, areas_with, digests_in, first_past, laid_of, layout_from, opened_of, opened_with, with_fixed, with_layout, with_past}
use Rattle.inc_layout.specs.opening.Faults.{GivesLayoutFault, GivesOpening}
use Rattle.inc_layout.specs.fixed.Fixed.{fixed_of, most_length}
use Rattle.inc_layout.specs.opening.Listed.{listed}
use Rattle.inc_layout.specs.opening.Opening.{HasClasses, IsPastFault, IsSoundLayout, layout_with}
use Rattle.inc_layout.specs.fixed.Told.{GivesFixed, IsPlaced, part_fixed}
use Rattle.inc_layout.specs.declared.fault.LayoutFault.{LayoutFault}
use Rattle.inc_layout.specs.declared.fault.LayoutFault.TheVariants.{PlacePastEnd, ReadFault, OutOfMemory}
use Rattle.inc_layout.specs.declared.fixed.part.FixedPart.{FixedPart}
use Rattle.inc_layout.specs.declared.opened.Layout.{Layout}
use Rattle.inc_layout.specs.declared.opened.Opened.{Opened}
use Rattle.inc_layout.proofs.opened_file.BackingMeaning.{backing_stands, laid_stands, stands_laid}
use Rattle.inc_layout.proofs.fixed_part.FixedSteps.{same_fault}
use Rattle.inc_layout.proofs.ListedLemmas.{listed_from}

-- ---- without digests

-- the fixed part was opened
abbrev pub HasPart : Option (List ℕ) → FixedPart → Type 0
HasPart told part = IfSome told (λ bytes. GivesFixed (length bytes) (Ok part) (fixed_of bytes))

pub no_part : (told : Option (List ℕ)) (fault : LayoutFault) → IfSome told (λ bytes. GivesFixed (length bytes) (Err fault) (fixed_of bytes)) → IfSome told (λ bytes. GivesLayoutFault fault (laid_of bytes))
unfolding laid_of
no_part None fault given = tt
no_part (Some bytes) fault given = same_fault fault (fixed_of bytes) (laid_of bytes) given (λ e. ap (with_fixed bytes) e)

with_part : (bytes : List ℕ) (part : FixedPart) → GivesFixed (length bytes) (Ok part) (fixed_of bytes)
    → laid_of bytes ≡ with_past (first_past (area_places part.areas) bytes) (layout_from bytes (part_fixed part))
unfolding laid_of
with_part bytes part is = ap (with_fixed bytes) is.0

past_given : (bytes : List ℕ) (part : FixedPart) (fault : LayoutFault) → GivesFixed (length bytes) (Ok part) (fixed_of bytes) → IsPastFault (area_places part.areas) bytes fault
    → GivesLayoutFault fault (laid_of bytes)
past_given bytes part ReadFault is past = tt
past_given bytes part OutOfMemory is past = tt
past_given bytes part (PlacePastEnd i) is past = with_part bytes part is ∙ ap (λ (p : Option ℕ). with_past p (layout_from bytes (part_fixed part))) past
past_given bytes part fault is past = absurd past

pub no_classes_given : (told : Option (List ℕ)) (part : FixedPart) (fault : LayoutFault) → HasPart told part → IsPlaced part
    → IfSome told (λ bytes. IsInside (length bytes) (map_span (area_places part.areas)) → part.areas.len ≡ length bytes → IsPastFault (area_places part.areas) bytes fault)
    → IfSome told (λ bytes. GivesLayoutFault fault (laid_of bytes))
no_classes_given None part fault is placed given = tt
no_classes_given (Some bytes) part fault is placed given = past_given bytes part fault is (given (rw is.1 at placed.map_inside) is.1)

whole : (bytes : List ℕ) (part : FixedPart) (classes : List Class) → GivesFixed (length bytes) (Ok part) (fixed_of bytes)
    → HasClasses (area_places part.areas) bytes (entries (area_places part.areas)) classes → laid_of bytes ≡ Ok (layout_with part classes)
whole bytes part classes is has =
    with_part bytes part is ∙ ap (λ (p : Option ℕ). with_past p (layout_from bytes (part_fixed part))) has.none
    ∙ (λ i. Ok (record {
      header = part.header;
      records = part.records;
      sig = part.sig;
      areas = areas_with (sym is.1 i) (area_places part.areas);
      classes = sym has.all i;
      len = sym is.1 i;
    }))

pub layout_given : (told : Option (List ℕ)) (part : FixedPart) (classes : List Class) (layout : Layout) → HasPart told part → IsPlaced part
    → IfSome told (λ bytes. IsInside (length bytes) (map_span (area_places part.areas)) → part.areas.len ≡ length bytes → HasClasses (area_places part.areas) bytes (entries (area_places part.areas)) classes)
    → layout ≡ layout_with part classes → IfSome told (λ bytes. laid_of bytes ≡ Ok layout)
layout_given None part classes layout is placed judged made = tt
layout_given (Some bytes) part classes layout is placed judged made =
    whole bytes part classes is (judged (rw is.1 at placed.map_inside) is.1) ∙ ap (λ (o : Layout). Ok o) (sym made)

pub layout_told : (told : Option (List ℕ)) (layout : Layout) → IfSome told (λ bytes. laid_of bytes ≡ Ok layout) → IfSome told (λ bytes. IsLaidOut bytes layout)
layout_told None layout is = tt
layout_told (Some bytes) layout is = laid_stands bytes layout is

pub laid_told : (told : Option (List ℕ)) (layout : Layout) → IfSome told (λ bytes. IsLaidOut bytes layout) → IfSome told (λ bytes. laid_of bytes ≡ Ok layout)
laid_told None layout is = tt
laid_told (Some bytes) layout is = stands_laid bytes layout is

pub layout_sound : (part : FixedPart) (classes : List Class) → IsPlaced part → part.areas.len ≤ most_length → length classes ≡ entries (area_places part.areas) → IsSoundLayout (layout_with part classes)
layout_sound part classes placed short count = record {
  plain = placed.plain;
  shape = placed.shape;
  signed = placed.signed;
  records_inside = placed.records_inside;
  len_is = refl;
  short = short;
  map_inside = placed.map_inside;
  map_end = placed.map_end;
  tree_inside = placed.tree_inside;
  tree_end = placed.tree_end;
  all_apart = placed.all_apart;
  class_count = count;
}

-- ---- with digests

pub no_layout : (told : Option (List ℕ)) (fault : LayoutFault) → IfSome told (λ bytes. GivesOpening {T = Layout} (Err fault) (laid_of bytes)) → IfSome told (λ bytes. GivesLayoutFault fault (opened_of bytes))
unfolding opened_of
no_layout None fault given = tt
no_layout (Some bytes) fault given = same_fault fault (laid_of bytes) (opened_of bytes) given (λ e. ap (with_layout bytes) e)

with_digests : (bytes : List ℕ) (layout : Layout) (digests : List (Option (List ℕ))) → laid_of bytes ≡ Ok layout → digests ≡ digests_in bytes layout.areas → opened_of bytes ≡ Ok (opened_with layout digests)
unfolding opened_of
with_digests bytes layout digests is made = ap (with_layout bytes) is ∙ (λ i. Ok (opened_with layout (sym made i)))

classes_are : (bytes : List ℕ) (layout : Layout) → laid_of bytes ≡ Ok layout → layout.classes ≡ listed (class_at (area_places layout.areas) bytes) (entries (area_places layout.areas))
classes_are bytes layout is = all_classes bytes layout (laid_stands bytes layout is)
  where
    all_classes : (bytes : List ℕ) (layout : Layout) → IsLaidOut bytes layout → layout.classes ≡ listed (class_at (area_places layout.areas) bytes) (entries (area_places layout.areas))
    all_classes bytes layout laid = listed_from (class_at (area_places layout.areas) bytes) (entries (area_places layout.areas)) layout.classes Damaged laid.class_count laid.each_class

pub opened_given : (told : Option (List ℕ)) (layout : Layout) (digests : List (Option (List ℕ))) (opened : Opened) → IfSome told (λ bytes. laid_of bytes ≡ Ok layout)
    → IfSome told (λ bytes. layout.classes ≡ listed (class_at (area_places layout.areas) bytes) (entries (area_places layout.areas))
    → digests ≡ listed (stored_digest (area_places layout.areas) bytes) (entries (area_places layout.areas)))
    → opened ≡ opened_with layout digests → IfSome told (λ bytes. opened_of bytes ≡ Ok opened)
opened_given None layout digests opened is stored made = tt
opened_given (Some bytes) layout digests opened is stored made =
    with_digests bytes layout digests is (stored (classes_are bytes layout is)) ∙ ap (λ (o : Opened). Ok o) (sym made)

pub told_stands : (told : Option (List ℕ)) (opened : Opened) → IfSome told (λ bytes. opened_of bytes ≡ Ok opened) → IfSome told (λ bytes. IsBackingFile bytes opened)
told_stands None opened is = tt
told_stands (Some bytes) opened is = backing_stands bytes opened is

pub none_past_given : (told : Option (List ℕ)) (result : Result Opened LayoutFault) → IfSome told (λ bytes. GivesOpening result (opened_of bytes))
    → IfSome told (λ bytes. IfOk result (λ opened. (i : ℕ) → i < entries (area_places opened.areas) → is_past (area_places opened.areas) bytes i ≡ false))
none_past_given None result given = tt
none_past_given (Some bytes) (Ok opened) given = (backing_stands bytes opened given).laid.none_past
none_past_given (Some bytes) (Err fault) given = tt
