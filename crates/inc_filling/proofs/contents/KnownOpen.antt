-- An index is open in the bytes exactly where it is in the map.
use Rattle.std.proofs.Common.{◌≡◌, inl, inr, ℕ, ◌<◌, ◌≤◌, Bool, true, false, List, length, Option, Some, None, refl, sym, ap, subst, ◌∙◌}
use Rattle.std.specs.Prelude.{is_some, Ok}
use Rattle.inc_pending.specs.Keyed.{lookup}
use Rattle.inc_entry.specs.Entry.{Places, area_places, class_of, entries, entry_at, entry_from}
use Rattle.inc_entry.specs.Keeps.{IsLayout, KeepsEntry, Kind, Shut}
use Rattle.inc_entry.specs.Stored.{class_at, digest_of, is_open_class, is_past, stored_digest}
use Rattle.inc_entry.specs.declared.classes.Class.{Class}
use Rattle.inc_entry.specs.declared.classes.Class.TheVariants.{Closed, OpenAt}
use Rattle.inc_entry.specs.declared.entry.Entry.{Entry}
use Rattle.inc_fill.proofs.Classes.{class_longer}
use Rattle.inc_layout.specs.Backing.{fixed_in}
use Rattle.inc_layout.specs.fixed.Fixed.{Fixed}
use Rattle.inc_layout.specs.fixed.SameFixed.{is_fixed_byte}
use Rattle.inc_layout.specs.state.State.{kind_in}
use Rattle.inc_layout.specs.declared.opened.Opened.{Opened}
use Rattle.inc_layout.proofs.fixed_part.FixedMeaning.{stands_fixed}
use Rattle.inc_layout.proofs.fixed_part.LayoutMeaning.{layout_stands}
use Rattle.inc_model.specs.relation.Facts.{FileFacts}
use Rattle.inc_model.specs.relation.State.{Digests, has, is_in}
use Rattle.inc_model.specs.declared.words.file_state.FileState.{FileState}
use Rattle.inc_cell.specs.seen.Parts.{parts_of}
use Rattle.inc_cell.specs.seen.Standing.{ReadsAs}
use Rattle.inc_cell.proofs.standing.KindLemmas.{shut_kind}
use Rattle.inc_filling.specs.Stands.{MayBeFilled}

-- its entry names no block past the end, and is open where the index is one of these
pub record IsKnown (places : Places) (open_ones : Digests) (bytes : List ℕ) (i : ℕ) : Type 0 where
  pub past : is_past places bytes i ≡ false
  pub class : is_open_class (class_at places bytes i) ≡ is_in i open_ones

open_digest : (places : Places) (bytes : List ℕ) (i : ℕ) (class : Class) → is_some (digest_of places bytes i class) ≡ is_open_class class
open_digest places bytes i (OpenAt place size) = refl
open_digest places bytes i class = refl

pub known_digest : (places : Places) (open_ones : Digests) (bytes : List ℕ) (i : ℕ) → IsKnown places open_ones bytes i → is_some (stored_digest places bytes i) ≡ is_in i open_ones
known_digest places open_ones bytes i h = open_digest places bytes i (class_at places bytes i) ∙ h.class

-- in a longer file with the same entry too
pub known_longer : (places : Places) (open_ones : Digests) (bytes longer : List ℕ) (i : ℕ) → length bytes ≤ length longer → entry_from longer (entry_at places i) ≡ entry_from bytes (entry_at places i) → IsKnown places open_ones bytes i → IsKnown places open_ones longer i
known_longer places open_ones bytes longer i le same h =
    let e = entry_from bytes (entry_at places i) in
    let both = class_longer places (length bytes) (length longer) i e le h.past in
    record {
      past = subst (λ (f : Entry). past_of f ≡ false) (sym same) both.1;
      class = ap (λ (f : Entry). is_open_class (class_of places (length longer) i f)) same ∙ ap is_open_class both.0 ∙ h.class;
    }
  where
    past_of : Entry → Bool
    past_of f = Rattle.inc_entry.specs.Entry.past_end places (length longer) i f

ok_is : {E : Type 0} (a b : Fixed) → (let first : Rattle.std.specs.Prelude.Result Fixed E = Ok a in first) ≡ Ok b → a ≡ b
ok_is a b e = cc

-- ---- what a file tells that reads as a state

module _ (opened : Opened) (s : FileState) (bytes : List ℕ) (reads : ReadsAs opened s bytes) where
  same_places : area_places reads.keeps.opened.areas ≡ area_places opened.areas
  same_places =
      let one : fixed_in reads.keeps.opened ≡ reads.fixed.found = ok_is (fixed_in reads.keeps.opened) reads.fixed.found (sym (stands_fixed bytes (fixed_in reads.keeps.opened) reads.keeps.stands.laid.fixed) ∙ stands_fixed bytes reads.fixed.found reads.fixed.stands) in
      ap (λ (f : Fixed). f.places) one ∙ reads.fixed.same.places

  pub areas_stand : IsLayout (area_places opened.areas) (is_fixed_byte reads.fixed.found) (length bytes)
  areas_stand = subst (λ (p : Places). IsLayout p (is_fixed_byte reads.fixed.found) (length bytes)) reads.fixed.same.places (layout_stands bytes reads.fixed.found reads.fixed.stands)

  module _ (first : FileState) (facts : FileFacts first s) (unfailed : s.failed ≡ None) (i : ℕ) (may : MayBeFilled s i) (here : i < entries (area_places opened.areas)) where
    none_held : is_in i s.map ≡ false → has i s.acknowledged ≡ false
    none_held out = step (has i s.acknowledged) refl
      where
        step : (b : Bool) → has i s.acknowledged ≡ b → b ≡ false
        step true e = absurd (let inside = facts.opened.acknowledged_open i e in cc)
        step false e = refl

    none_begun : is_in i s.map ≡ false → lookup i s.begun ≡ None
    none_begun out = step (lookup i s.begun) refl
      where
        step : (found : Option (List ℕ)) → lookup i s.begun ≡ found → found ≡ None
        step None e = refl
        step (Some digest) e = absurd (elim (facts.opened.begun_open i (ap (λ (f : Option (List ℕ)). is_some f) e)) [
          | inl inside ↦ cc
          | inr failed ↦ let none : is_some s.failed ≡ false = ap (λ (f : Option ℕ). is_some f) unfailed in cc
        ])

    shut_class : lookup i s.map ≡ None → class_at (area_places opened.areas) bytes i ≡ Closed
    shut_class e =
        let out : is_in i s.map ≡ false = ap (λ (f : Option (List ℕ)). is_some f) e in
        let shut : kind_in (parts_of s) i ≡ Shut = shut_kind s i (none_held out) (none_begun out) may.undamaged may.uncompressed in
        let kept : KeepsEntry (area_places reads.keeps.opened.areas) bytes i Shut = subst (λ (k : Kind). KeepsEntry (area_places reads.keeps.opened.areas) bytes i k) shut (reads.keeps.each i may.within) in
        subst (λ (p : Places). class_at p bytes i ≡ Closed) same_places kept

    by_map : (found : Option (List ℕ)) → lookup i s.map ≡ found → is_open_class (class_at (area_places opened.areas) bytes i) ≡ is_some found
    by_map None e = ap is_open_class (shut_class e)
    by_map (Some digest) e =
        sym (open_digest (area_places opened.areas) bytes i (class_at (area_places opened.areas) bytes i)) ∙ ap (λ (f : Option (List ℕ)). is_some f) (reads.whole i digest e)

    pub state_known : IsKnown (area_places opened.areas) s.map bytes i
    state_known = record {
      past = subst (λ (p : Places). is_past p bytes i ≡ false) same_places (reads.keeps.stands.laid.none_past i (subst (λ (p : Places). i < entries p) (sym same_places) here));
      class = by_map (lookup i s.map) refl;
    }
