-- What keeps a window's place in the history: entries of others, and its own events.
use Rattle.std.proofs.Common.{◌≡◌, ◌⊎◌, inl, inr, ℕ, ◌+◌, ◌≤◌, Bool, true, false, not, cond, eqb, List, ◌++◌, length, Option, Some, None, refl, sym, ap, subst, ◌∙◌, arith}
use Rattle.std.specs.Prelude.{option_map}
use Rattle.std.proofs.lemmas.Bool.{eqb-true, eq-eqb, ne_eqb}
use Rattle.inc_model.specs.laws.HistoryLaws.{are_others}
use Rattle.inc_model.specs.laws.OthersLaws.{IsLeftAs}
use Rattle.inc_model.specs.laws.StageLaws.{as_stage}
use Rattle.inc_model.specs.relation.State.{FlightRises, flight_row, fly, places_left}
use Rattle.inc_model.specs.relation.Stages.{gated, gated_row, is_gated, placed, placed_row, settled_stage, synced_flight, synced_row, written}
use Rattle.inc_model.specs.relation.Step.{IsLegal, state_after}
use Rattle.inc_model.specs.declared.words.event.Window.{Window}
use Rattle.inc_model.specs.declared.words.file_state.FileState.{FileState}
use Rattle.inc_model.specs.declared.words.file_state.FlightRow.{FlightRow}
use Rattle.inc_model.specs.declared.words.file_state.Stage.{Stage}
use Rattle.inc_model.specs.declared.words.file_state.Stage.TheVariants.{Gated, Placed, Settled, Written}
use Rattle.inc_model.specs.declared.words.reply.Entry.{Entry}
use Rattle.inc_model.proofs.lists.Flight.{row_fly}
use Rattle.inc_model.proofs.runs.Histories.{after_both, rest_legal}
use Rattle.inc_model.proofs.runs.OtherRows.{others_keep_rows}
use Rattle.inc_model.proofs.runs.Others.{others_keep_places}
use Rattle.inc_cell.proofs.standing.FlightLemmas.{is_ungated, kept_row, row_gated, row_index, row_new, row_placed, row_synced}
use Rattle.inc_filling.specs.Stands.{staged_then, synced_stage}
use Rattle.inc_handle.specs.Standing.{FliesOwn, HasRow, WindowStands}

-- ---- entries of other seats

module _ (s : FileState) (told : Bool) (at : ℕ) (entries : List Entry) (window : Window) (legal : IsLegal at told s entries) (others : are_others window.who entries ≡ true) (i : ℕ) where
  abbrev t : FileState
  t = state_after at s entries

  kept_at : (row : FlightRow) (stage : Stage) → flight_row i s.flight ≡ Some row → row.window ≡ window → row.stage ≡ stage → IsLeftAs t row stage
  kept_at row stage is own e =
      subst (λ (g : Stage). IsLeftAs t row g) e
      (others_keep_rows s told at entries i row legal (subst (λ (w : Window). are_others w.who entries ≡ true) (sym own) others) is)

  here : (row : FlightRow) → flight_row i s.flight ≡ Some row → (found : FlightRow) → flight_row row.index t.flight ≡ Some found → flight_row i t.flight ≡ Some found
  here row is found e = subst (λ (j : ℕ). flight_row j t.flight ≡ Some found) (row_index i s.flight row is) e

  placed_on : (row : FlightRow) → flight_row i s.flight ≡ Some row → row.window ≡ window → (row.stage ≡ Placed) ⊎ (row.stage ≡ Settled) → HasRow window (flight_row i t.flight) (λ stage. (stage ≡ Placed) ⊎ (stage ≡ Settled))
  placed_on row is own (inl e) = elim (kept_at row Placed is own e) [
    | inl same ↦ record { row = row; is = here row is row same; own = own; stage_is = inl e }
    | inr settled ↦ record { row = as_stage Settled row; is = here row is (as_stage Settled row) settled; own = own; stage_is = inr refl }
  ]
  placed_on row is own (inr e) = record { row = row; is = here row is row (kept_at row Settled is own e); own = own; stage_is = inr e }

  pub others_fly : (wanted : Option Stage) → FliesOwn window wanted (flight_row i s.flight) → FliesOwn window wanted (flight_row i t.flight)
  others_fly None h = tt
  others_fly (Some Written) h = record { row = h.row; is = here h.row h.is h.row (kept_at h.row Written h.is h.own h.stage_is); own = h.own; stage_is = h.stage_is }
  others_fly (Some Placed) h = placed_on h.row h.is h.own h.stage_is
  others_fly (Some Settled) h = record { row = h.row; is = here h.row h.is h.row (kept_at h.row Settled h.is h.own h.stage_is); own = h.own; stage_is = h.stage_is }
  others_fly (Some Gated) h = tt

pub others_stand : (window : Window) (left : ℕ) (stages : ℕ → Option Stage) (opening : FileState) (told : Bool) (history entries : List Entry) → WindowStands window left stages opening told history
    → IsLegal 0 told opening (history ++ entries) → are_others window.who entries ≡ true → WindowStands window left stages opening told (history ++ entries)
others_stand window left stages opening told history entries h legal others =
    let s = state_after 0 opening history in
    let rest : IsLegal (0 + length history) told s entries = rest_legal opening told 0 history entries legal in
    let after : state_after 0 opening (history ++ entries) ≡ state_after (0 + length history) s entries = after_both opening 0 history entries in
    record {
      begins = h.begins;
      legal = legal;
      enough = subst (λ (t : FileState). left ≤ places_left window t.claimed) (sym after)
          (subst (λ (n : ℕ). left ≤ n) (sym (others_keep_places s told (0 + length history) entries window rest others)) h.enough);
      flies = λ i. subst (λ (t : FileState). FliesOwn window (stages i) (flight_row i t.flight)) (sym after) (others_fly s told (0 + length history) entries window rest others i (stages i) (h.flies i));
    }

-- ---- stages that are said otherwise

pub stands_less : (window : Window) (left less : ℕ) (stages others : ℕ → Option Stage) (opening : FileState) (told : Bool) (history : List Entry) → less ≤ left → ((i : ℕ) → stages i ≡ others i)
    → WindowStands window left stages opening told history → WindowStands window less others opening told history
stands_less window left less stages others opening told history le same h =
    let enough = h.enough in
    record {
      begins = h.begins;
      legal = h.legal;
      enough = omega arith;
      flies = λ i. subst (λ (o : Option Stage). FliesOwn window o (flight_row i (state_after 0 opening history).flight)) (same i) (h.flies i);
    }

-- ---- a put

pub put_flies_own : (window : Window) (index : ℕ) (digest : List ℕ) (flight : List FlightRow) (stages : ℕ → Option Stage) → ((i : ℕ) → FliesOwn window (stages i) (flight_row i flight)) → flight_row index flight ≡ None
    → (i : ℕ) → FliesOwn window (staged_then index Written stages i) (flight_row i (fly (written window index digest) flight))
put_flies_own window index digest flight stages h none i = step (eqb i index) refl
  where
    new : FlightRow
    new = written window index digest

    step : (b : Bool) → eqb i index ≡ b → FliesOwn window (cond b (Some Written) (stages i)) (flight_row i (fly new flight))
    step true t = record { row = new; is = subst (λ j. flight_row j (fly new flight) ≡ Some new) (sym (eqb-true i index t)) (row_new new flight none); own = refl; stage_is = refl }
    step false t = subst (λ found. FliesOwn window (stages i) found) (sym (row_fly i new flight (ne_eqb index i (λ e. absurd (let other = eq-eqb i index (sym e) in cc))))) (h i)

-- ---- a place, a gate

module _ (f : FlightRow → FlightRow) (index : ℕ) (leaves : (row : FlightRow) → eqb row.index index ≡ false → f row ≡ row) where
  pub left_alone : (i : ℕ) (flight : List FlightRow) → eqb i index ≡ false → option_map f (flight_row i flight) ≡ flight_row i flight
  left_alone i flight ne = by (flight_row i flight) (λ row is. row_index i flight row is)
    where
      by : (found : Option FlightRow) → ((row : FlightRow) → found ≡ Some row → row.index ≡ i) → option_map f found ≡ found
      by None own = refl
      by (Some row) own = ap (λ (r : FlightRow). Some r) (leaves row (ap (λ (n : ℕ). eqb n index) (own row refl) ∙ ne))

pub place_flies_own : (window : Window) (index : ℕ) (flight : List FlightRow) (stages : ℕ → Option Stage) → ((i : ℕ) → FliesOwn window (stages i) (flight_row i flight)) → stages index ≡ Some Written
    → (i : ℕ) → FliesOwn window (staged_then index Placed stages i) (flight_row i (placed index flight))
place_flies_own window index flight stages h is i =
    subst (λ found. FliesOwn window (staged_then index Placed stages i) found) (sym (row_placed index i flight)) (step (eqb i index) refl)
  where
    own_row : HasRow window (flight_row index flight) (λ stage. stage ≡ Written)
    own_row = subst (λ (o : Option Stage). FliesOwn window o (flight_row index flight)) is (h index)

    turned : (j : ℕ) → j ≡ index → FliesOwn window (Some Placed) (option_map (placed_row index) (flight_row j flight))
    turned j e =
        let at : flight_row j flight ≡ Some own_row.row = ap (λ (k : ℕ). flight_row k flight) e ∙ own_row.is in
        let same : own_row.row.index ≡ index = row_index index flight own_row.row own_row.is in
        record {
          row = record own_row.row { stage = Placed };
          is = ap (option_map (placed_row index)) at ∙ ap (λ b. Some (cond b (record own_row.row { stage = Placed }) own_row.row)) (eq-eqb own_row.row.index index same);
          own = own_row.own;
          stage_is = inl refl;
        }

    step : (b : Bool) → eqb i index ≡ b → FliesOwn window (cond b (Some Placed) (stages i)) (option_map (placed_row index) (flight_row i flight))
    step true t = turned i (eqb-true i index t)
    step false t = subst (λ found. FliesOwn window (stages i) found) (sym (left_alone (placed_row index) index (λ row ne. ap (λ b. cond b (record row { stage = Placed }) row) ne) i flight t)) (h i)

pub gate_flies_own : (window : Window) (index : ℕ) (flight : List FlightRow) (stages : ℕ → Option Stage) → ((i : ℕ) → FliesOwn window (stages i) (flight_row i flight))
    → (i : ℕ) → FliesOwn window (staged_then index Gated stages i) (flight_row i (gated index flight))
gate_flies_own window index flight stages h i =
    subst (λ found. FliesOwn window (staged_then index Gated stages i) found) (sym (row_gated index i flight)) (step (eqb i index) refl)
  where
    step : (b : Bool) → eqb i index ≡ b → FliesOwn window (cond b (Some Gated) (stages i)) (option_map (gated_row index) (flight_row i flight))
    step true t = tt
    step false t = subst (λ found. FliesOwn window (stages i) found) (sym (left_alone (gated_row index) index (λ row ne. ap (λ b. cond b (record row { stage = Gated }) row) ne) i flight t)) (h i)

-- ---- a sync

synced_own : (window : Window) (wanted : Option Stage) (found : Option FlightRow) → FliesOwn window wanted found → FliesOwn window (synced_stage wanted) (option_map synced_row (kept_row is_ungated found))
synced_own window None found h = tt
synced_own window (Some Gated) found h = tt
synced_own window (Some Written) found h =
    subst (λ (o : Option FlightRow). FliesOwn window (Some Written) (option_map synced_row (kept_row is_ungated o))) (sym h.is)
    (record {
      row = synced_row h.row;
      is = ap (λ (g : Stage). option_map synced_row (cond (not (is_gated g)) (Some h.row) None)) h.stage_is;
      own = h.own;
      stage_is = ap settled_stage h.stage_is;
    })
synced_own window (Some Placed) found h =
    subst (λ (o : Option FlightRow). FliesOwn window (Some Settled) (option_map synced_row (kept_row is_ungated o))) (sym h.is)
    (elim h.stage_is [
      | inl e ↦ record { row = synced_row h.row; is = ap (λ (g : Stage). option_map synced_row (cond (not (is_gated g)) (Some h.row) None)) e; own = h.own; stage_is = ap settled_stage e }
      | inr e ↦ record { row = synced_row h.row; is = ap (λ (g : Stage). option_map synced_row (cond (not (is_gated g)) (Some h.row) None)) e; own = h.own; stage_is = ap settled_stage e }
    ])
synced_own window (Some Settled) found h =
    subst (λ (o : Option FlightRow). FliesOwn window (Some Settled) (option_map synced_row (kept_row is_ungated o))) (sym h.is)
    (record {
      row = synced_row h.row;
      is = ap (λ (g : Stage). option_map synced_row (cond (not (is_gated g)) (Some h.row) None)) h.stage_is;
      own = h.own;
      stage_is = ap settled_stage h.stage_is;
    })

pub sync_flies_own : (window : Window) (flight : List FlightRow) (stages : ℕ → Option Stage) → FlightRises flight → ((i : ℕ) → FliesOwn window (stages i) (flight_row i flight))
    → (i : ℕ) → FliesOwn window (synced_stage (stages i)) (flight_row i (synced_flight flight))
sync_flies_own window flight stages once h i = subst (λ found. FliesOwn window (synced_stage (stages i)) found) (sym (row_synced i flight once)) (synced_own window (stages i) (flight_row i flight) (h i))
