-- What the facts of a state give for the steps of a fill, and what each change of a state does to its parts.
use Rattle.std.proofs.Common.{◌≡◌, inl, inr, ℕ, ◌+◌, ◌<◌, Bool, true, false, ◌||◌, cond, List, Option, Some, None, refl, sym, ap, ◌∙◌, arith}
use Rattle.std.specs.Prelude.{is_some}
use Rattle.std.proofs.lemmas.Bool.{eq-eqb, ne_eqb, or_right, true≢false, false_from_ne_true}
use Rattle.inc_pending.specs.Keyed.{lookup, insert}
use Rattle.inc_pending.proofs.KeyedLemmas.{lookup_insert}
use Rattle.inc_entry.specs.Keeps.{Acknowledged, Begun, Shut}
use Rattle.inc_fill.specs.Facts.{SameBut}
use Rattle.inc_layout.specs.state.State.{kind_in, kind_with, unfilled_kind}
use Rattle.inc_model.specs.relation.Changes.{begins, opens, synced}
use Rattle.inc_model.specs.relation.Facts.{FileFacts, FillFacts, MoreFacts, RowFacts}
use Rattle.inc_model.specs.relation.Stages.{acknowledge, is_gated}
use Rattle.inc_model.specs.relation.State.{flight_row, has, is_in}
use Rattle.inc_model.specs.declared.words.file_state.FileState.{FileState}
use Rattle.inc_model.specs.declared.words.file_state.FlightRow.{FlightRow}
use Rattle.inc_model.proofs.lists.Flight.{row_found}
use Rattle.inc_model.proofs.lists.Sets.{none_found}
use Rattle.inc_cell.specs.seen.Parts.{parts_of}
use Rattle.inc_cell.proofs.standing.FlightLemmas.{acknowledged_at, is_gated_in, row_index}
use Rattle.inc_cell.proofs.standing.KindLemmas.{kind_is, same_kind, shut_kind}

module _ (first s : FileState) (f : FileFacts first s) (m : MoreFacts first s) where
  -- ---- rows in flight

  row_facts : (i : ℕ) (found : FlightRow) → flight_row i s.flight ≡ Some found → RowFacts s.map s.damaged s.compressed found
  row_facts i found is = (row_found (RowFacts s.map s.damaged s.compressed) i s.flight found is f.flying.rows).1

  fill_facts : (i : ℕ) (found : FlightRow) → flight_row i s.flight ≡ Some found → FillFacts s.map s.begun s.acknowledged found
  fill_facts i found is = (row_found (FillFacts s.map s.begun s.acknowledged) i s.flight found is m.fills).1

  pub gated_own : (i : ℕ) (found : FlightRow) → flight_row i s.flight ≡ Some found → is_gated found.stage ≡ true → lookup i s.map ≡ Some found.digest
  gated_own i found is stage = ap (λ k. lookup k s.map) (sym (row_index i s.flight found is)) ∙ (fill_facts i found is).own stage

  pub ungated_absent : (i : ℕ) (found : FlightRow) → flight_row i s.flight ≡ Some found → is_gated found.stage ≡ false → lookup i s.map ≡ None
  ungated_absent i found is stage =
      let out : is_in i s.map ≡ false = ap (λ k. is_in k s.map) (sym (row_index i s.flight found is)) ∙ sym (row_facts i found is).gated ∙ stage in
      none_found i s.map out

  pub flight_inside : (i : ℕ) (found : FlightRow) → flight_row i s.flight ≡ Some found → i < s.n + s.m
  flight_inside i found is =
      let w = row_found (λ (r : FlightRow). r.index < s.n + s.m) i s.flight found is m.indices.flight_within in
      let same = w.0 in
      let lt = w.1 in
      omega arith

  pub flight_unheld : (i : ℕ) (found : FlightRow) → flight_row i s.flight ≡ Some found → has i s.acknowledged ≡ false
  flight_unheld i found is = ap (λ k. has k s.acknowledged) (sym (row_index i s.flight found is)) ∙ (fill_facts i found is).unacknowledged

  -- ---- a block that may be put

  absent_unheld : (i : ℕ) → is_in i s.map ≡ false → has i s.acknowledged ≡ false
  absent_unheld i out = false_from_ne_true (has i s.acknowledged) (λ held. absurd (true≢false (sym (f.opened.acknowledged_open i held) ∙ out)))

  absent_unbegun : (i : ℕ) → is_in i s.map ≡ false → s.failed ≡ None → lookup i s.begun ≡ None
  absent_unbegun i out well = none_found i s.begun (false_from_ne_true (is_in i s.begun) (λ begun. absurd (elim (f.opened.begun_open i begun) [
    | inl there ↦ true≢false (sym there ∙ out)
    | inr failed ↦ true≢false (sym failed ∙ ap (λ (o : Option ℕ). is_some o) well)
  ])))

  pub absent_shut : (i : ℕ) → is_in i s.map ≡ false → s.failed ≡ None → has i s.damaged ≡ false → has i s.compressed ≡ false → kind_in (parts_of s) i ≡ Shut
  absent_shut i out well undamaged uncompressed = shut_kind s i (absent_unheld i out) (absent_unbegun i out well) undamaged uncompressed

-- ---- a gate's write began

module _ (s : FileState) (j : ℕ) (digest : List ℕ) where
  begun_other : (i : ℕ) → (i ≡ j → ⊥) → lookup i (insert j digest s.begun) ≡ lookup i s.begun
  begun_other i ne = lookup_insert i j digest s.begun ∙ ap (λ b. cond b (Some digest) (lookup i s.begun)) (ne_eqb i j ne)

  begun_here : lookup j (insert j digest s.begun) ≡ Some digest
  begun_here = lookup_insert j j digest s.begun ∙ ap (λ b. cond b (Some digest) (lookup j s.begun)) (eq-eqb j j refl)

  map_other : (i : ℕ) → (i ≡ j → ⊥) → lookup i (insert j digest s.map) ≡ lookup i s.map
  map_other i ne = lookup_insert i j digest s.map ∙ ap (λ b. cond b (Some digest) (lookup i s.map)) (ne_eqb i j ne)

  kind_begun : (t : FileState) → has j t.acknowledged ≡ false → lookup j t.begun ≡ Some digest → kind_in (parts_of t) j ≡ Begun digest
  kind_begun t unheld begun = kind_is t j ∙ (λ k. kind_with (cond (unheld k) (lookup j t.map) None) (begun k) (unfilled_kind (has j t.damaged) (has j t.compressed)))

  -- the write failed
  pub begins_here : has j s.acknowledged ≡ false → kind_in (parts_of (begins j digest s)) j ≡ Begun digest
  begins_here unheld = kind_begun (begins j digest s) unheld begun_here

  pub begins_else : SameBut j (kind_in (parts_of s)) (kind_in (parts_of (begins j digest s)))
  begins_else i ne = same_kind s (begins j digest s) i refl (begun_other i ne) refl refl

  -- the entry is open
  pub opens_here : has j s.acknowledged ≡ false → kind_in (parts_of (opens j digest s)) j ≡ Begun digest
  opens_here unheld = kind_begun (opens j digest s) unheld begun_here

  pub opens_else : SameBut j (kind_in (parts_of s)) (kind_in (parts_of (opens j digest s)))
  opens_else i ne = same_kind s (opens j digest s) i (ap (λ (o : Option (List ℕ)). cond (has i s.acknowledged) o None) (map_other i ne)) (begun_other i ne) refl refl

-- ---- a sync

module _ (first s : FileState) (f : FileFacts first s) (m : MoreFacts first s) where
  pub synced_gated : (i : ℕ) (found : FlightRow) → flight_row i s.flight ≡ Some found → is_gated found.stage ≡ true → kind_in (parts_of (synced s)) i ≡ Acknowledged found.digest
  synced_gated i found is stage =
      let held : has i (acknowledge s.flight s.acknowledged) ≡ true =
      acknowledged_at i s.flight s.acknowledged f.flying.once ∙ or_right (has i s.acknowledged) (is_gated_in (flight_row i s.flight)) (ap is_gated_in is ∙ stage) in
      let there = gated_own first s f m i found is stage in
      kind_is (synced s) i ∙ (λ k. kind_with (cond (held k) (there k) None) (lookup i s.begun) (unfilled_kind (has i s.damaged) (has i s.compressed)))

  pub synced_same : (i : ℕ) → is_gated_in (flight_row i s.flight) ≡ false → kind_in (parts_of (synced s)) i ≡ kind_in (parts_of s) i
  synced_same i ungated =
      let held : has i (acknowledge s.flight s.acknowledged) ≡ has i s.acknowledged =
      acknowledged_at i s.flight s.acknowledged f.flying.once ∙ ap (λ b. has i s.acknowledged || b) ungated ∙ none (has i s.acknowledged) in
      same_kind s (synced s) i (ap (λ b. cond b (lookup i s.map) None) held) refl refl refl
    where
      none : (b : Bool) → (b || false) ≡ b
      none true = refl
      none false = refl
