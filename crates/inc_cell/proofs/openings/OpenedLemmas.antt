-- An opened file has the facts with which a fill begins.
use Rattle.std.proofs.Common.{◌≡◌, ℕ, ◌<◌, List, None, refl, sym, ◌∙◌, ap, subst, arith}
use Rattle.std.specs.Prelude.{slice_index_or}
use Rattle.std.proofs.lemmas.List.{get_or_default}
use Rattle.inc_entry.specs.Entry.{Places, area_places, entries}
use Rattle.inc_entry.specs.Keeps.{Kind}
use Rattle.inc_entry.specs.Stored.{class_at, digest_of}
use Rattle.inc_entry.specs.declared.classes.Class.{Class}
use Rattle.inc_entry.specs.declared.classes.Class.TheVariants.{Closed, OpenAt, Compressed, Damaged}
use Rattle.inc_disk.specs.Disk.{settled}
use Rattle.inc_fill.specs.Facts.{Facts}
use Rattle.inc_fill.specs.Laws.{IsFound}
use Rattle.inc_fill.proofs.Known.{found_facts}
use Rattle.inc_layout.specs.Backing.{IsBackingFile, fixed_in}
use Rattle.inc_layout.specs.state.Reopening.{kind_from, opened_kind}
use Rattle.inc_layout.specs.fixed.SameFixed.{is_fixed_byte}
use Rattle.inc_layout.specs.declared.opened.Opened.{Opened}
use Rattle.inc_layout.proofs.fixed_part.LayoutMeaning.{layout_stands}
use Rattle.inc_cell.specs.seen.Spots.{opened_spot, spot_of}

found : (places : Places) (bytes : List ℕ) (i : ℕ) (class : Class) → IsFound places bytes i class (kind_from (digest_of places bytes i class) class) (spot_of class)
found places bytes i (OpenAt place size) = (refl, refl)
found places bytes i Compressed = refl
found places bytes i Damaged = refl
found places bytes i Closed = refl

pub mounts_opened : (bytes : List ℕ) (opened : Opened) → IsBackingFile bytes opened
    → Facts (area_places opened.areas) (is_fixed_byte (fixed_in opened)) bytes (opened_kind opened) (λ i. None) (opened_spot opened) (settled bytes)
mounts_opened bytes opened stands =
    found_facts (area_places opened.areas) (is_fixed_byte (fixed_in opened)) bytes (opened_kind opened) (opened_spot opened) (layout_stands bytes (fixed_in opened) stands.laid.fixed)
    stands.laid.fixed.front.short stands.laid.none_past each
  where
    class_is : (i : ℕ) → i < entries (area_places opened.areas) → slice_index_or opened.classes i Closed ≡ class_at (area_places opened.areas) bytes i
    class_is i lt = get_or_default opened.classes i Closed Damaged (omega (arith, stands.laid.class_count, lt)) ∙ stands.laid.each_class i lt

    digest_is : (i : ℕ) → i < entries (area_places opened.areas)
        → slice_index_or opened.digests i None ≡ digest_of (area_places opened.areas) bytes i (class_at (area_places opened.areas) bytes i)
    digest_is i lt = stands.each_digest i lt

    each : (i : ℕ) → i < entries (area_places opened.areas) → IsFound (area_places opened.areas) bytes i (class_at (area_places opened.areas) bytes i) (opened_kind opened i) (opened_spot opened i)
    each i lt =
        let class : Class = class_at (area_places opened.areas) bytes i in
        let kind : kind_from (digest_of (area_places opened.areas) bytes i class) class ≡ opened_kind opened i = λ d. kind_from (sym (digest_is i lt) d) (sym (class_is i lt) d) in
        subst (λ (k : Kind). IsFound (area_places opened.areas) bytes i class k (opened_spot opened i)) kind
        (subst (λ (s : ℕ). IsFound (area_places opened.areas) bytes i class (kind_from (digest_of (area_places opened.areas) bytes i class) class) s) (ap spot_of (sym (class_is i lt)))
        (found (area_places opened.areas) bytes i class))
