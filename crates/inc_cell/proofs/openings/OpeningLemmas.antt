-- A mounted file begins in an opening.
use Rattle.std.proofs.Common.{◌≡◌, inl, inr, ℕ, suc, ◌+◌, ◌<◌, ◌≤◌, Bool, true, false, cond, List, [], ◌∷◌, length, get_or, Option, Some, None, refl, sym, ◌∙◌, ap, subst, arith}
use Rattle.std.specs.Prelude.{All, is_some}
use Rattle.std.proofs.lemmas.Bool.{cases_lt, true≢false}
use Rattle.std.proofs.lemmas.List.{get_or_default, get_or_past}
use Rattle.std.proofs.lemmas.List.Elements.{All-nil, All-cons}
use Rattle.std.proofs.lemmas.List.Kept.{AllPairs-cons}
use Rattle.inc_pending.specs.Keyed.{KeysRise}
use Rattle.inc_tree.specs.shape.Geometry.{data_blocks, hash_blocks}
use Rattle.inc_entry.specs.Stored.{is_compressed_class, is_damaged_class, is_open_class}
use Rattle.inc_entry.specs.declared.classes.Class.{Class}
use Rattle.inc_entry.specs.declared.classes.Class.TheVariants.{Closed, Compressed, Damaged, OpenAt}
use Rattle.inc_layout.specs.opening.Opening.{IsSoundOpened}
use Rattle.inc_layout.specs.state.Reopening.{AreOpened, indices_passing, opened_parts, rows_of}
use Rattle.inc_layout.specs.state.State.{StateParts}
use Rattle.inc_layout.specs.declared.opened.Opened.{Opened}
use Rattle.inc_layout.proofs.opened_file.OpenedParts.{has_parts}
use Rattle.inc_model.specs.relation.Openings.{AreOpeningLists, acknowledged_rows}
use Rattle.inc_model.specs.relation.State.{Digests, Rise, has, is_in}
use Rattle.inc_model.specs.declared.words.file_state.FileState.{FileState}
use Rattle.inc_model.proofs.lists.Sets.{pairs_none}
use Rattle.inc_model.proofs.runs.Openings.{lists_open, opened_acknowledged}
use Rattle.inc_cell.specs.laws.Laws.{BeginsAs}
use Rattle.inc_cell.specs.seen.Parts.{lists_of, opening_of, parts_of}
use Rattle.inc_cell.proofs.standing.KindLemmas.{same_index, same_row}

-- ---- the lists rise

above_passing : (passes : Class → Bool) (low first : ℕ) (classes : List Class) → low ≤ first → All (λ index. low ≤ index) (indices_passing passes first classes)
above_passing passes low first [] le = All-nil (λ (index : ℕ). low ≤ index)
above_passing passes low first (class ∷ classes) le =
    let rest = above_passing passes low (suc first) classes (omega arith) in
    elim (passes class) as (λ b. All (λ index. low ≤ index) (cond b (first ∷ indices_passing passes (suc first) classes) (indices_passing passes (suc first) classes))) [
      | true ↦ All-cons (λ (index : ℕ). low ≤ index) first (indices_passing passes (suc first) classes) le rest
      | false ↦ rest
    ]

passing_rise : (passes : Class → Bool) (first : ℕ) (classes : List Class) → Rise (indices_passing passes first classes)
passing_rise passes first [] = pairs_none (λ (a b : ℕ). a < b)
passing_rise passes first (class ∷ classes) =
    let rest = passing_rise passes (suc first) classes in
    let above = above_passing passes (suc first) (suc first) classes (omega arith) in
    elim (passes class) as (λ b. Rise (cond b (first ∷ indices_passing passes (suc first) classes) (indices_passing passes (suc first) classes))) [
      | true ↦ AllPairs-cons (λ (a b : ℕ). a < b) first (indices_passing passes (suc first) classes) (λ k d lt. let le = above k d lt in omega arith) rest
      | false ↦ rest
    ]

passing_within : (passes : Class → Bool) (first most : ℕ) (classes : List Class) → first + length classes ≤ most → All (λ index. index < most) (indices_passing passes first classes)
passing_within passes first most [] le = All-nil (λ (index : ℕ). index < most)
passing_within passes first most (class ∷ classes) le =
    let rest = passing_within passes (suc first) most classes (omega arith) in
    elim (passes class) as (λ b. All (λ index. index < most) (cond b (first ∷ indices_passing passes (suc first) classes) (indices_passing passes (suc first) classes))) [
      | true ↦ All-cons (λ (index : ℕ). index < most) first (indices_passing passes (suc first) classes) (omega arith) rest
      | false ↦ rest
    ]

above_rows : (low first : ℕ) (digests : List (Option (List ℕ))) → low ≤ first → All (λ row. low ≤ row.0) (rows_of first digests)
above_rows low first [] le = All-nil (λ (row : ℕ × List ℕ). low ≤ row.0)
above_rows low first (Some digest ∷ digests) le = All-cons (λ (row : ℕ × List ℕ). low ≤ row.0) (first, digest) (rows_of (suc first) digests) le (above_rows low (suc first) digests (omega arith))
above_rows low first (None ∷ digests) le = above_rows low (suc first) digests (omega arith)

rows_rise : (first : ℕ) (digests : List (Option (List ℕ))) → KeysRise (rows_of first digests)
rows_rise first [] = pairs_none (λ (a b : ℕ × List ℕ). a.0 < b.0)
rows_rise first (Some digest ∷ digests) =
    let above = above_rows (suc first) (suc first) digests (omega arith) in
    AllPairs-cons (λ (a b : ℕ × List ℕ). a.0 < b.0) (first, digest) (rows_of (suc first) digests) (λ k d lt. let le = above k d lt in omega arith) (rows_rise (suc first) digests)
rows_rise first (None ∷ digests) = rows_rise (suc first) digests

rows_within : (first most : ℕ) (digests : List (Option (List ℕ))) → first + length digests ≤ most → All (λ row. row.0 < most) (rows_of first digests)
rows_within first most [] le = All-nil (λ (row : ℕ × List ℕ). row.0 < most)
rows_within first most (Some digest ∷ digests) le = All-cons (λ (row : ℕ × List ℕ). row.0 < most) (first, digest) (rows_of (suc first) digests) (omega arith) (rows_within (suc first) most digests (omega arith))
rows_within first most (None ∷ digests) le = rows_within (suc first) most digests (omega arith)

-- ---- an index has one class

open_alone : (class : Class) → is_open_class class ≡ true → (is_damaged_class class ≡ false) × (is_compressed_class class ≡ false)
open_alone (OpenAt place size) e = (refl, refl)
open_alone Damaged e = absurd (cc)
open_alone Compressed e = absurd (cc)
open_alone Closed e = absurd (cc)

damaged_alone : (class : Class) → is_damaged_class class ≡ true → is_compressed_class class ≡ false
damaged_alone (OpenAt place size) e = absurd (cc)
damaged_alone Damaged e = refl
damaged_alone Compressed e = absurd (cc)
damaged_alone Closed e = absurd (cc)

-- the class at an index that has a digest is open
with_digest : (opened : Opened) (i : ℕ) → IsSoundOpened opened → is_some (get_or opened.digests i None) ≡ true → is_open_class (get_or opened.classes i Closed) ≡ true
with_digest opened i sound there =
    elim (cases_lt i (length opened.classes)) [
      | inl lt ↦ ap is_open_class (get_or_default opened.classes i Closed Damaged lt) ∙ sym (sound.digests.each i lt) ∙ there
      | inr le ↦
          let none : get_or opened.digests i None ≡ None = get_or_past opened.digests i None (omega (arith, sound.digests.count)) in
          absurd (true≢false (sym there ∙ ap (λ (o : Option (List ℕ)). is_some o) none))
    ]

module _ (opened : Opened) (sound : IsSoundOpened opened) where
  held_found : (i : ℕ) → is_in i (lists_of opened).held ≡ is_some (get_or opened.digests i None)
  held_found i = ap (λ (o : Option (List ℕ)). is_some o) (sym (same_row (rows_of 0 opened.digests) i) ∙ (has_parts opened).acknowledged_is i)

  damaged_found : (i : ℕ) → has i (lists_of opened).damaged ≡ is_damaged_class (get_or opened.classes i Closed)
  damaged_found i = sym (same_index (indices_passing is_damaged_class 0 opened.classes) i) ∙ (has_parts opened).damaged_is i

  compressed_found : (i : ℕ) → has i (lists_of opened).compressed ≡ is_compressed_class (get_or opened.classes i Closed)
  compressed_found i = sym (same_index (indices_passing is_compressed_class 0 opened.classes) i) ∙ (has_parts opened).compressed_is i

  pub are_lists : AreOpeningLists (data_blocks opened.areas.geometry + hash_blocks opened.areas.geometry) (lists_of opened)
  are_lists =
      let most : ℕ = data_blocks opened.areas.geometry + hash_blocks opened.areas.geometry in
      let count : length opened.classes ≡ most = sound.layout.class_count in
      record {
        held_rises = rows_rise 0 opened.digests;
        held_within = rows_within 0 most opened.digests (omega (arith, sound.digests.count, count));
        damaged_rises = passing_rise is_damaged_class 0 opened.classes;
        damaged_within = passing_within is_damaged_class 0 most opened.classes (omega (arith, count));
        compressed_rises = passing_rise is_compressed_class 0 opened.classes;
        compressed_within = passing_within is_compressed_class 0 most opened.classes (omega (arith, count));
        sound = λ i there.
            let alone = open_alone (get_or opened.classes i Closed) (with_digest opened i sound (sym (held_found i) ∙ there)) in
            (damaged_found i ∙ alone.0, compressed_found i ∙ alone.1);
        apart = λ i there. compressed_found i ∙ damaged_alone (get_or opened.classes i Closed) (sym (damaged_found i) ∙ there);
      }

  pub begins_as : (faults readers : ℕ) → BeginsAs opened (opening_of opened faults readers)
  begins_as faults readers =
      let s : FileState = opening_of opened faults readers in
      let opening = lists_open s.id s.n s.m s.root (lists_of opened) faults readers are_lists in
      let held : acknowledged_rows s ≡ rows_of 0 opened.digests = opened_acknowledged s opening in
      let same : parts_of s ≡ opened_parts opened = ap (λ (rows : Digests). record (opened_parts opened) { acknowledged = rows }) held in
      record { opening = opening; parts = same; told = subst (λ (parts : StateParts). AreOpened opened parts) (sym same) (has_parts opened) }
