-- What the bytes know of each index follows the state over a sync.
use Rattle.std.proofs.Common.{◌≡◌, ◌⊎◌, inl, inr, ℕ, Bool, true, false, not, cond, List, Option, Some, None, refl, sym, ap, subst, ◌∙◌}
use Rattle.std.specs.Prelude.{option_map}
use Rattle.inc_pending.specs.Keyed.{lookup}
use Rattle.inc_entry.specs.Keeps.{Kind, Acknowledged, Begun, KeptDamaged, KeptCompressed, Shut}
use Rattle.inc_fill.specs.Facts.{Row, kind_at, row_at, row_after, settled_kind, settled_row, Written, Placed, Settled, Gated}
use Rattle.inc_fill.specs.Facts.{Stage as FillStage}
use Rattle.inc_fill.specs.Laws.{SaysAsMuch}
use Rattle.inc_layout.specs.state.State.{StateParts, kind_in}
use Rattle.inc_model.specs.relation.State.{Digests, FlightRises, flight_row}
use Rattle.inc_model.specs.relation.Stages.{is_gated, settled_stage as settles_to, synced_flight, synced_row}
use Rattle.inc_model.specs.declared.words.file_state.FlightRow.{FlightRow}
use Rattle.inc_model.specs.declared.words.file_state.Stage.{Stage}
use Rattle.inc_model.specs.declared.words.file_state.Stage.TheVariants.{Written as written_stage, Placed as placed_stage, Settled as settled_stage, Gated as gated_stage}
use Rattle.inc_cell.specs.seen.Standing.{Follows, IsResting, fill_row, fill_stage}
use Rattle.inc_cell.proofs.standing.FlightLemmas.{is_gated_in, is_ungated, kept_row, row_synced}
use Rattle.inc_cell.proofs.standing.FollowLemmas.{gated_is, no_row, one_row}

-- a block behind a written gate is there for good, whatever less is asked
raised : (digest : List ℕ) (weaker : Kind) → SaysAsMuch (Begun digest) weaker → SaysAsMuch (Acknowledged digest) weaker
raised digest (Begun other) (inl same) = inr (inl (cc))
raised digest (Begun other) (inr (inl known)) = absurd (cc)
raised digest (Begun other) (inr (inr shut)) = absurd (cc)
raised digest (Acknowledged other) e = absurd (cc)
raised digest KeptDamaged e = absurd (cc)
raised digest KeptCompressed e = absurd (cc)
raised digest Shut e = absurd (cc)

-- a row that isn't behind a written gate leaves the kind
settled_same : (kind : Kind) (row : Row) (stage : FillStage) → row.stage ≡ stage → (stage ≡ Gated → ⊥) → kind_at kind row stage ≡ kind
settled_same kind row Written e other = refl
settled_same kind row Placed e other = refl
settled_same kind row Settled e other = refl
settled_same kind row Gated e other = absurd (other refl)

ungated_stage : (stage : Stage) → is_gated stage ≡ false → fill_stage stage ≡ Gated → ⊥
ungated_stage written_stage e is = absurd (cc)
ungated_stage placed_stage e is = absurd (cc)
ungated_stage settled_stage e is = absurd (cc)
ungated_stage gated_stage e is = absurd (cc)

settled_known : (kind : Kind) (row : Option Row) (digest : List ℕ) → kind ≡ Acknowledged digest → ((d : List ℕ) → row ≡ Some (row_at d Gated) → kind ≡ Begun d) → settled_kind kind row ≡ Acknowledged digest
settled_known kind None digest known behind = known
settled_known kind (Some row) digest known behind = step row.stage refl
  where
    step : (stage : FillStage) → row.stage ≡ stage → kind_at kind row stage ≡ Acknowledged digest
    step Written e = known
    step Placed e = known
    step Settled e = known
    step Gated e = absurd (let begun = behind row.digest (ap (λ st. Some (row_at row.digest st)) e) in cc)

-- what a sync makes of the row of a row in flight
synced_as : (digest : List ℕ) (stage : Stage) → is_gated stage ≡ false → row_after (row_at digest (fill_stage stage)) (fill_stage stage) ≡ Some (row_at digest (fill_stage (settles_to stage)))
synced_as digest written_stage e = refl
synced_as digest placed_stage e = refl
synced_as digest settled_stage e = refl
synced_as digest gated_stage e = absurd (cc)

module _ (parts parts' : StateParts) (digests : Digests) (flight : List FlightRow) (kind : ℕ → Kind) (row : ℕ → Option Row) (once : FlightRises flight) (f : Follows parts digests flight kind row)
    (behind : (i : ℕ) (d : List ℕ) → row i ≡ Some (row_at d Gated) → kind i ≡ Begun d)
    (acked : (i : ℕ) (found : FlightRow) → flight_row i flight ≡ Some found → is_gated found.stage ≡ true → kind_in parts' i ≡ Acknowledged found.digest)
    (stays : (i : ℕ) → is_gated_in (flight_row i flight) ≡ false → kind_in parts' i ≡ kind_in parts i) where
  -- the bytes know it as gated
  gated_known : (i : ℕ) (found : FlightRow) → flight_row i flight ≡ Some found → is_gated found.stage ≡ true → row i ≡ Some (row_at found.digest Gated)
  gated_known i found at stage = f.flying i found at ∙ ap (λ (st : Stage). Some (row_at found.digest (fill_stage st))) (gated_is found.stage stage)

  covers_by : (i : ℕ) (was : Option FlightRow) → flight_row i flight ≡ was → SaysAsMuch (settled_kind (kind i) (row i)) (kind_in parts' i)
  covers_by i None at =
      let same : kind_in parts' i ≡ kind_in parts i = stays i (ap is_gated_in at) in
      subst (λ (k : Kind). SaysAsMuch (settled_kind (kind i) (row i)) k) (sym same) (step (f.resting i at))
    where
      step : IsResting (lookup i digests) (row i) → SaysAsMuch (settled_kind (kind i) (row i)) (kind_in parts i)
      step (inl none) = subst (λ (r : Option Row). SaysAsMuch (settled_kind (kind i) r) (kind_in parts i)) (sym none) (f.covers i)
      step (inr gated) =
          let said : SaysAsMuch (Begun gated.0) (kind_in parts i) = subst (λ (k : Kind). SaysAsMuch k (kind_in parts i)) (behind i gated.0 gated.2) (f.covers i) in
          subst (λ (r : Option Row). SaysAsMuch (settled_kind (kind i) r) (kind_in parts i)) (sym gated.2) (raised gated.0 (kind_in parts i) said)
  covers_by i (Some found) at = step (is_gated found.stage) refl
    where
      step : (g : Bool) → is_gated found.stage ≡ g → SaysAsMuch (settled_kind (kind i) (row i)) (kind_in parts' i)
      step true stage =
          let known = gated_known i found at stage in
          subst (λ (k : Kind). SaysAsMuch (settled_kind (kind i) (row i)) k) (sym (acked i found at stage)) (ap (settled_kind (kind i)) known)
      step false stage =
          let same : kind_in parts' i ≡ kind_in parts i = stays i (ap is_gated_in at ∙ stage) in
          let kept : settled_kind (kind i) (row i) ≡ kind i = ap (settled_kind (kind i)) (f.flying i found at) ∙ settled_same (kind i) (fill_row found) (fill_stage found.stage) refl (ungated_stage found.stage stage) in
          subst (λ (k : Kind). SaysAsMuch (settled_kind (kind i) (row i)) k) (sym same) (subst (λ (k : Kind). SaysAsMuch k (kind_in parts i)) (sym kept) (f.covers i))

  flying_by : (i : ℕ) (found : FlightRow) (was : Option FlightRow) → flight_row i flight ≡ was → option_map synced_row (kept_row is_ungated was) ≡ Some found → settled_row (row i) ≡ Some (fill_row found)
  flying_by i found None at e = no_row found e
  flying_by i found (Some before) at e = step (is_gated before.stage) refl e
    where
      step : (g : Bool) → is_gated before.stage ≡ g → option_map synced_row (cond (not g) (Some before) None) ≡ Some found → settled_row (row i) ≡ Some (fill_row found)
      step true stage e = no_row found e
      step false stage e = ap settled_row (f.flying i before at) ∙ synced_as before.digest before.stage stage ∙ ap (λ (r : FlightRow). Some (fill_row r)) (one_row (synced_row before) found e)

  resting_by : (i : ℕ) (was : Option FlightRow) → flight_row i flight ≡ was → option_map synced_row (kept_row is_ungated was) ≡ None → IsResting (lookup i digests) (settled_row (row i))
  resting_by i None at e = elim (f.resting i at) [ inl none ↦ inl (ap settled_row none) | inr gated ↦ inl (ap settled_row gated.2) ]
  resting_by i (Some before) at e = step (is_gated before.stage) refl e
    where
      step : (g : Bool) → is_gated before.stage ≡ g → option_map synced_row (cond (not g) (Some before) None) ≡ None → IsResting (lookup i digests) (settled_row (row i))
      step true stage e = inl (ap settled_row (gated_known i before at stage))
      step false stage e = no_row (synced_row before) (sym e)

  opens_then : (i : ℕ) (digest : List ℕ) → lookup i digests ≡ Some digest → (settled_kind (kind i) (row i) ≡ Acknowledged digest) ⊎ (settled_row (row i) ≡ Some (row_at digest Gated))
  opens_then i digest e = elim (f.opens i digest e) [
    | inl known ↦ inl (settled_known (kind i) (row i) digest known (behind i))
    | inr written ↦ inl (ap (settled_kind (kind i)) written)
  ]

  pub sync_follows : Follows parts' digests (synced_flight flight) (λ i. settled_kind (kind i) (row i)) (λ i. settled_row (row i))
  sync_follows = record {
    covers = λ i. covers_by i (flight_row i flight) refl;
    flying = λ i found e. flying_by i found (flight_row i flight) refl (sym (row_synced i flight once) ∙ e);
    resting = λ i e. resting_by i (flight_row i flight) refl (sym (row_synced i flight once) ∙ e);
    opens = opens_then;
  }
