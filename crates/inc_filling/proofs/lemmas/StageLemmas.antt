-- What one event of a window makes of the rows in flight, by the stages of the indices.
use Rattle.std.proofs.Common.{◌≡◌, ◌⊎◌, inl, inr, ℕ, Bool, true, false, not, ◌||◌, cond, eqb, List, Option, Some, None, refl, sym, ap, subst, ◌∙◌}
use Rattle.std.specs.Prelude.{◌&&◌, ◌==◌, option_map}
use Rattle.std.proofs.lemmas.Bool.{eqb-true, eq-eqb, ne_eqb}
use Rattle.inc_model.specs.relation.State.{FlightRises, flight_row, fly, has, is_same, land}
use Rattle.inc_model.specs.relation.Stages.{acknowledge, gated, gated_row, is_gated, placed, placed_row, settled_stage, synced_flight, synced_row, written}
use Rattle.inc_model.specs.declared.words.event.Window.{Window}
use Rattle.inc_model.specs.declared.words.file_state.FlightRow.{FlightRow}
use Rattle.inc_model.specs.declared.words.file_state.Stage.{Stage}
use Rattle.inc_model.specs.declared.words.file_state.Stage.TheVariants.{Gated, Placed, Settled, Written}
use Rattle.inc_model.proofs.lists.Flight.{row_fly}
use Rattle.inc_cell.proofs.standing.FlightLemmas.{acknowledged_at, is_gated_in, is_others, is_ungated, kept_row, row_gated, row_index, row_land, row_new, row_placed, row_synced}
use Rattle.inc_filling.specs.Stands.{FliesAs, staged_then, synced_stage}

pub same_window : (window : Window) → is_same window window ≡ true
same_window window = ap (λ b. b && (window.count == window.count)) (eq-eqb window.who window.who refl) ∙ eq-eqb window.count window.count refl

-- ---- a put

pub put_flies : (window : Window) (index : ℕ) (digest : List ℕ) (flight : List FlightRow) (stages : ℕ → Option Stage) → ((i : ℕ) → FliesAs window (stages i) (flight_row i flight)) → flight_row index flight ≡ None
    → (i : ℕ) → FliesAs window (staged_then index Written stages i) (flight_row i (fly (written window index digest) flight))
put_flies window index digest flight stages h none i = step (eqb i index) refl
  where
    new : FlightRow
    new = written window index digest

    step : (b : Bool) → eqb i index ≡ b → FliesAs window (cond b (Some Written) (stages i)) (flight_row i (fly new flight))
    step true t = (new, subst (λ j. flight_row j (fly new flight) ≡ Some new) (sym (eqb-true i index t)) (row_new new flight none), refl, refl)
    step false t = subst (λ found. FliesAs window (stages i) found) (sym (row_fly i new flight (ne_eqb index i (λ e. absurd (let other = eq-eqb i index (sym e) in cc))))) (h i)

-- ---- a place, a gate

-- the row of an index at a stage
pub flying_row : (window : Window) (wanted : Option Stage) (stage : Stage) (found : Option FlightRow) → FliesAs window wanted found → wanted ≡ Some stage
    → (row : FlightRow) × (found ≡ Some row) × (row.window ≡ window) × (row.stage ≡ stage)
flying_row window wanted stage found h e = subst (λ (o : Option Stage). FliesAs window o found) e h

module _ (f : FlightRow → FlightRow) (index : ℕ) (to : Stage) (turns : (row : FlightRow) → row.index ≡ index → f row ≡ record row { stage = to }) (leaves : (row : FlightRow) → eqb row.index index ≡ false → f row ≡ row) where
  left_as : (window : Window) (wanted : Option Stage) (i : ℕ) (found : Option FlightRow) → ((row : FlightRow) → found ≡ Some row → row.index ≡ i) → eqb i index ≡ false → FliesAs window wanted found → FliesAs window wanted (option_map f found)
  left_as window wanted i None own ne h = h
  left_as window wanted i (Some row) own ne h =
      let other : eqb row.index index ≡ false = ap (λ (n : ℕ). eqb n index) (own row refl) ∙ ne in
      subst (λ (r : FlightRow). FliesAs window wanted (Some r)) (sym (leaves row other)) h

  pub changed_flies : (window : Window) (flight : List FlightRow) (stages : ℕ → Option Stage) (from : Stage) → ((i : ℕ) → FliesAs window (stages i) (flight_row i flight)) → stages index ≡ Some from
      → (i : ℕ) → FliesAs window (staged_then index to stages i) (option_map f (flight_row i flight))
  changed_flies window flight stages from h is i = step (eqb i index) refl
    where
      turned : (j : ℕ) → j ≡ index → FliesAs window (Some to) (option_map f (flight_row j flight))
      turned j e =
          let at = flying_row window (stages j) from (flight_row j flight) (h j) (ap stages e ∙ is) in
          let own : at.0.index ≡ index = row_index j flight at.0 at.1 ∙ e in
          (record at.0 { stage = to }, ap (option_map f) at.1 ∙ ap (λ (r : FlightRow). Some r) (turns at.0 own), at.2, refl)

      step : (b : Bool) → eqb i index ≡ b → FliesAs window (cond b (Some to) (stages i)) (option_map f (flight_row i flight))
      step true t = turned i (eqb-true i index t)
      step false t = left_as window (stages i) i (flight_row i flight) (λ row e. row_index i flight row e) t (h i)

pub place_flies : (window : Window) (index : ℕ) (flight : List FlightRow) (stages : ℕ → Option Stage) → ((i : ℕ) → FliesAs window (stages i) (flight_row i flight)) → stages index ≡ Some Written
    → (i : ℕ) → FliesAs window (staged_then index Placed stages i) (flight_row i (placed index flight))
place_flies window index flight stages h is i =
    subst (λ found. FliesAs window (staged_then index Placed stages i) found) (sym (row_placed index i flight))
    (changed_flies (placed_row index) index Placed (λ row e. ap (λ b. cond b (record row { stage = Placed }) row) (eq-eqb row.index index e)) (λ row ne. ap (λ b. cond b (record row { stage = Placed }) row) ne)
    window flight stages Written h is i)

pub gate_flies : (window : Window) (index : ℕ) (flight : List FlightRow) (stages : ℕ → Option Stage) → ((i : ℕ) → FliesAs window (stages i) (flight_row i flight)) → stages index ≡ Some Settled
    → (i : ℕ) → FliesAs window (staged_then index Gated stages i) (flight_row i (gated index flight))
gate_flies window index flight stages h is i =
    subst (λ found. FliesAs window (staged_then index Gated stages i) found) (sym (row_gated index i flight))
    (changed_flies (gated_row index) index Gated (λ row e. ap (λ b. cond b (record row { stage = Gated }) row) (eq-eqb row.index index e)) (λ row ne. ap (λ b. cond b (record row { stage = Gated }) row) ne)
    window flight stages Settled h is i)

-- ---- a sync, a release

synced_as : (window : Window) (wanted : Option Stage) (found : Option FlightRow) → FliesAs window wanted found → FliesAs window (synced_stage wanted) (option_map synced_row (kept_row is_ungated found))
synced_as window None found h = ap (λ o. option_map synced_row (kept_row is_ungated o)) h
synced_as window (Some stage) found h =
    subst (λ (o : Option FlightRow). FliesAs window (synced_stage (Some stage)) (option_map synced_row (kept_row is_ungated o))) (sym h.1)
    (row_synced_as h.0 stage h.2 h.3)
  where
    row_synced_as : (row : FlightRow) (at : Stage) → row.window ≡ window → row.stage ≡ at → FliesAs window (synced_stage (Some at)) (option_map synced_row (kept_row is_ungated (Some row)))
    row_synced_as row Written w e = subst (λ (s : Stage). FliesAs window (Some Written) (option_map synced_row (cond (not (is_gated s)) (Some row) None))) (sym e) (synced_row row, refl, w, ap settled_stage e)
    row_synced_as row Placed w e = subst (λ (s : Stage). FliesAs window (Some Settled) (option_map synced_row (cond (not (is_gated s)) (Some row) None))) (sym e) (synced_row row, refl, w, ap settled_stage e)
    row_synced_as row Settled w e = subst (λ (s : Stage). FliesAs window (Some Settled) (option_map synced_row (cond (not (is_gated s)) (Some row) None))) (sym e) (synced_row row, refl, w, ap settled_stage e)
    row_synced_as row Gated w e = ap (λ (s : Stage). option_map synced_row (cond (not (is_gated s)) (Some row) None)) e

pub sync_flies : (window : Window) (flight : List FlightRow) (stages : ℕ → Option Stage) → FlightRises flight → ((i : ℕ) → FliesAs window (stages i) (flight_row i flight))
    → (i : ℕ) → FliesAs window (synced_stage (stages i)) (flight_row i (synced_flight flight))
sync_flies window flight stages once h i = subst (λ found. FliesAs window (synced_stage (stages i)) found) (sym (row_synced i flight once)) (synced_as window (stages i) (flight_row i flight) (h i))

-- what was gated is acknowledged
pub sync_acknowledges : (window : Window) (i : ℕ) (flight : List FlightRow) (indices : List ℕ) (wanted : Option Stage) → FlightRises flight → FliesAs window wanted (flight_row i flight)
    → (has i indices ≡ true) ⊎ (wanted ≡ Some Gated) → has i (acknowledge flight indices) ≡ true
sync_acknowledges window i flight indices wanted once h (inl before) = acknowledged_at i flight indices once ∙ ap (λ b. b || is_gated_in (flight_row i flight)) before
sync_acknowledges window i flight indices wanted once h (inr now) =
    let at = flying_row window wanted Gated (flight_row i flight) h now in
    acknowledged_at i flight indices once ∙ ap (λ (o : Option FlightRow). has i indices || is_gated_in o) at.1 ∙ ap (λ (s : Stage). has i indices || is_gated s) at.3 ∙ or_right (has i indices)
  where
    or_right : (b : Bool) → (b || true) ≡ true
    or_right true = refl
    or_right false = refl

landed_as : (window : Window) (wanted : Option Stage) (found : Option FlightRow) → FliesAs window wanted found → kept_row (is_others window) found ≡ None
landed_as window None found h = ap (kept_row (is_others window)) h
landed_as window (Some stage) found h =
    let own : is_same window h.0.window ≡ true = ap (λ (w : Window). is_same window w) h.2 ∙ same_window window in
    ap (kept_row (is_others window)) h.1 ∙ ap (λ b. cond (not b) (Some h.0) None) own

pub land_flies : (window : Window) (flight : List FlightRow) (stages : ℕ → Option Stage) → FlightRises flight → ((i : ℕ) → FliesAs window (stages i) (flight_row i flight)) → (i : ℕ) → flight_row i (land window flight) ≡ None
land_flies window flight stages once h i = row_land window i flight once ∙ landed_as window (stages i) (flight_row i flight) (h i)
