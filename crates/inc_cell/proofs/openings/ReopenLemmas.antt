-- The parts of a state that a crash kept, and the state that is opened from them.
use Rattle.std.proofs.Common.{◌≡◌, inl, inr, ℕ, ◌+◌, ◌<◌, Bool, true, false, ◌||◌, cond, eqb, List, [], ◌∷◌, Some, None, Ok, refl, sym, ap, subst, ◌∙◌, arith}
use Rattle.std.specs.Prelude.{All}
use Rattle.std.proofs.lemmas.Bool.{eqb-true, false_from_ne_true, true≢false}
use Rattle.std.proofs.lemmas.List.Elements.{All-head, All-tail}
use Rattle.inc_pending.specs.Keyed.{lookup}
use Rattle.inc_entry.specs.Entry.{Places, area_places}
use Rattle.inc_entry.specs.Stored.{stored_digest}
use Rattle.inc_layout.specs.Backing.{IsBackingFile, fixed_in}
use Rattle.inc_layout.specs.fixed.Fixed.{Fixed, fixed_of}
use Rattle.inc_layout.specs.opening.Opening.{IsSoundOpened}
use Rattle.inc_layout.specs.state.Preserves.{MayReopen}
use Rattle.inc_layout.specs.state.Reopening.{AreApartIn, opened_parts, rows_of}
use Rattle.inc_layout.specs.fixed.SameFixed.{HasSameFixed}
use Rattle.inc_layout.specs.state.State.{row_digest}
use Rattle.inc_layout.specs.declared.opened.Opened.{Opened}
use Rattle.inc_layout.proofs.fixed_part.FixedMeaning.{stands_fixed}
use Rattle.inc_layout.proofs.opened_file.OpenedParts.{has_parts}
use Rattle.inc_model.specs.relation.Facts.{FileFacts, MoreFacts}
use Rattle.inc_model.specs.relation.Openings.{acknowledged_rows}
use Rattle.inc_model.specs.relation.State.{Digests, has, is_in}
use Rattle.inc_model.specs.histories.Worlds.{IsReopening}
use Rattle.inc_model.specs.declared.words.file_state.FileState.{FileState}
use Rattle.inc_model.proofs.lists.Sets.{none_found}
use Rattle.inc_model.proofs.runs.Openings.{reopens_as}
use Rattle.inc_cell.specs.laws.Laws.{ReopensWhole}
use Rattle.inc_cell.specs.seen.Parts.{opening_of, parts_of}
use Rattle.inc_cell.specs.seen.Standing.{ReadsAs}
use Rattle.inc_cell.proofs.standing.KindLemmas.{held_is, same_index, same_row}
use Rattle.inc_cell.proofs.steps.MayLemmas.{lookup_within}
use Rattle.inc_cell.proofs.openings.OpeningLemmas.{begins_as}

has_within : (most i : ℕ) (indices : List ℕ) → All (λ index. index < most) indices → has i indices ≡ true → i < most
has_within most i [] within e = absurd (cc)
has_within most i (index ∷ rest) within e = step (has_within most i rest (All-tail (λ (n : ℕ). n < most) index rest within)) (eqb i index) refl e
  where
    step : (has i rest ≡ true → i < most) → (b : Bool) → eqb i index ≡ b → (b || has i rest) ≡ true → i < most
    step later true t e' = let same = eqb-true i index t in let lt = All-head (λ (n : ℕ). n < most) index rest within in omega arith
    step later false t e' = later e'

-- everything lies in the same places again
same_places : (opened next : Opened) (bytes : List ℕ) → HasSameFixed bytes (fixed_in opened) → IsBackingFile bytes next → area_places next.areas ≡ area_places opened.areas
same_places opened next bytes has stands =
    let one : fixed_of bytes ≡ Ok has.found = stands_fixed bytes has.found has.stands in
    let two : fixed_of bytes ≡ Ok (fixed_in next) = stands_fixed bytes (fixed_in next) stands.laid.fixed in
    let same : fixed_in next ≡ has.found = (cc) in
    ap (λ (fixed : Fixed). fixed.places) same ∙ has.same.places

module _ (first s : FileState) (f : FileFacts first s) (m : MoreFacts first s) where
  held_map : (i : ℕ) (digest : List ℕ) → row_digest (acknowledged_rows s) i ≡ Some digest → lookup i s.map ≡ Some digest
  held_map i digest e = step (has i s.acknowledged) (sym (held_is s i) ∙ e)
    where
      step : (b : Bool) → cond b (lookup i s.map) None ≡ Some digest → lookup i s.map ≡ Some digest
      step true e' = e'
      step false e' = absurd (cc)

  -- a damaged or compressed index is neither open nor begun
  not_in : (indices : List ℕ) (rows : Digests) (i : ℕ) → (is_in i rows ≡ true → has i indices ≡ false) → has i indices ≡ true → lookup i rows ≡ None
  not_in indices rows i sound there = none_found i rows (false_from_ne_true (is_in i rows) (λ t. absurd (true≢false (sym there ∙ sound t))))

  not_held : (i : ℕ) → lookup i s.map ≡ None → row_digest (acknowledged_rows s) i ≡ None
  not_held i none = held_is s i ∙ step (has i s.acknowledged)
    where
      step : (b : Bool) → cond b (lookup i s.map) None ≡ None
      step true = none
      step false = refl

  pub apart_in : AreApartIn (parts_of s)
  apart_in = record {
    acknowledged_in = λ i digest e. lookup_within (s.n + s.m) i digest s.map m.indices.digests_within (held_map i digest e);
    damaged_in = λ i e. has_within (s.n + s.m) i s.damaged m.indices.damaged_within (sym (same_index s.damaged i) ∙ e);
    compressed_in = λ i e. has_within (s.n + s.m) i s.compressed m.indices.compressed_within (sym (same_index s.compressed i) ∙ e);
    damaged_alone = λ i e.
        let there = sym (same_index s.damaged i) ∙ e in
        (not_held i (not_in s.damaged s.map i (λ t. (m.apart.open_sound i t).0) there), same_row s.begun i ∙ not_in s.damaged s.begun i (λ t. (m.apart.begun_sound i t).0) there);
    compressed_alone = λ i e.
        let there = sym (same_index s.compressed i) ∙ e in (
          not_held i (not_in s.compressed s.map i (λ t. (m.apart.open_sound i t).1) there),
          same_row s.begun i ∙ not_in s.compressed s.begun i (λ t. (m.apart.begun_sound i t).1) there,
          same_index s.damaged i ∙ false_from_ne_true (has i s.damaged) (λ t. absurd (true≢false (sym there ∙ m.apart.apart i t))),
        );
  }

  pub parts_reopen : (opened : Opened) (faults readers : ℕ) → IsSoundOpened opened → MayReopen (parts_of s) (opened_parts opened) → IsReopening s (opening_of opened faults readers)
  parts_reopen opened faults readers sound may =
      let t : FileState = opening_of opened faults readers in
      let begins = begins_as opened sound faults readers in
      let so : MayReopen (parts_of s) (parts_of t) = subst (MayReopen (parts_of s)) (sym begins.parts) may in
      reopens_as s t m.lists.damaged_rises m.lists.compressed_rises (record {
        opening = begins.opening;
        id = so.id_is;
        data_blocks = so.data_is;
        hash_blocks = so.hash_is;
        root = so.root_is;
        damaged = λ i. sym (same_index t.damaged i) ∙ so.damaged_is i ∙ same_index s.damaged i;
        compressed = λ i. sym (same_index t.compressed i) ∙ so.compressed_is i ∙ same_index s.compressed i;
        at_least = λ i digest e. sym (same_row (acknowledged_rows t) i) ∙ so.at_least i digest (same_row (acknowledged_rows s) i ∙ e);
        at_most = λ i digest e. elim (so.at_most i digest (same_row (acknowledged_rows t) i ∙ e)) [
          | inl held ↦ inl (sym (same_row (acknowledged_rows s) i) ∙ held)
          | inr begun ↦ inr (sym (same_row s.begun i) ∙ begun)
        ];
      })

  -- ---- after a clean end

  pub ends_reopen : (opened next : Opened) (bytes : List ℕ) (faults readers : ℕ) → ReadsAs opened s bytes → IsSoundOpened next → IsBackingFile bytes next → MayReopen (parts_of s) (opened_parts next)
      → ReopensWhole s (opening_of next faults readers)
  ends_reopen opened next bytes faults readers reads sound stands may = record {
    reopening = parts_reopen next faults readers sound may;
    whole = λ i digest e.
        let lt = lookup_within (s.n + s.m) i digest s.map m.indices.digests_within e in
        let content = may.data_is in
        let tree = may.hash_is in
        sym (same_row (rows_of 0 next.digests) i) ∙ (has_parts next).acknowledged_is i ∙ stands.each_digest i (omega arith)
        ∙ ap (λ (places : Places). stored_digest places bytes i) (same_places opened next bytes reads.fixed stands) ∙ reads.whole i digest e;
  }
