-- A sync that succeeded moves every row, and what is in the map stays there.
use Rattle.std.proofs.Common.{◌≡◌, ℕ, ◌⊎◌, Bool, true, false, not, eqb, List, get_or, Option, Some, None, refl, sym, ap, subst, ◌∙◌, inl, inr}
use Rattle.std.specs.Prelude.{All, Contains, filter, map, count_by}
use Rattle.std.proofs.lemmas.Bool.{eqb-true, true≢false, false_from_ne_true}
use Rattle.std.proofs.lemmas.List.Elements.{All-map, All-filter, All-contains, filter_passes}
use Rattle.inc_pending.specs.Keyed.{lookup}
use Rattle.inc_pending.specs.Polling.{waits_on}
use Rattle.inc_model.specs.declared.words.event.Event.{Event}
use Rattle.inc_model.specs.declared.words.event.Event.TheVariants.{Ask, Poll, Cancel, Claim, PutData, PutPlace, Settle, Gate, Release, TakePending, SetTimes, Ranges, Count, Leave}
use Rattle.inc_model.specs.declared.words.event.Window.{Window}
use Rattle.inc_model.specs.declared.words.file_state.FileState.{FileState}
use Rattle.inc_model.specs.declared.words.file_state.FlightRow.{FlightRow}
use Rattle.inc_model.specs.declared.words.file_state.Stage.{Stage}
use Rattle.inc_model.specs.declared.words.file_state.Stage.TheVariants.{Written as written_stage, Placed as placed_stage, Settled as settled_stage, Gated as gated_stage}
use Rattle.inc_model.specs.declared.words.reply.Reply.{Reply}
use Rattle.inc_model.specs.declared.words.reply.Reply.TheVariants.{Settled, Gated}
use Rattle.inc_model.specs.relation.State.{Digests, flight_row, has, is_in, FlightRises}
use Rattle.inc_model.specs.relation.Stages.{settled_stage as settles_to, is_gated, is_at, is_settled, synced_row, synced_flight, acknowledge}
use Rattle.inc_model.specs.relation.Table.{reply_of}
use Rattle.inc_model.specs.relation.Changes.{change, rest_change, gate_change}
use Rattle.inc_model.specs.relation.Step.{Fits, Step}
use Rattle.inc_model.specs.relation.Facts.{FileFacts}
use Rattle.inc_model.specs.laws.StageLaws.{as_stage, IsSynced, WasGated}
use Rattle.inc_model.proofs.lists.Flight.{row_at, row_absent, row_alone}
use Rattle.inc_model.proofs.lists.Members.{filter_has, map_has}
use Rattle.inc_model.proofs.lists.Sets.{both, lookup_other, found_in}
use Rattle.inc_model.proofs.facts_kept.Fill.{gated_by}
use Rattle.inc_model.proofs.facts_kept.Gate.{gate_absent, settled_found}
use Rattle.inc_model.proofs.unchanged.Flight.{acknowledge_gated}
use Rattle.inc_model.proofs.unchanged.Map.{opens_by_gate}

-- ---- a sync

abbrev flies : FlightRow → Bool
flies row = not (is_gated row.stage)

own_stage : (row : FlightRow) (stage : Stage) → row.stage ≡ stage → row ≡ as_stage stage row
own_stage row stage e = ap (λ (s : Stage). as_stage s row) e

settles : (row : FlightRow) (stage : Stage) → row.stage ≡ stage → synced_row row ≡ as_stage (settles_to stage) row
settles row stage e = ap (λ (s : Stage). as_stage (settles_to s) row) e

-- the gated row's index is found no more: no other row has it
gone : (flight : List FlightRow) (row : FlightRow) → FlightRises flight → flight_row row.index flight ≡ Some row → is_gated row.stage ≡ true → flight_row row.index (synced_flight flight) ≡ None
gone flight row rises is g =
    let P : FlightRow → Type 0 = λ r. r.index ≡ row.index → r ≡ row in
    let alone = row_alone row.index flight row rises is in
    row_absent row.index (synced_flight flight)
    (All-map (λ (r : FlightRow). eqb r.index row.index ≡ false) synced_row (filter flies flight)
    (both P (λ r. flies r ≡ true) (λ r. eqb r.index row.index ≡ false)
    (λ r only passes. false_from_ne_true (eqb r.index row.index) (λ t. absurd (true≢false (sym passes ∙ ap (λ (x : FlightRow). flies x) (only (eqb-true r.index row.index t)) ∙ ap not g))))
    (filter flies flight) (All-filter flies P flight alone) (filter_passes flies flight)))

module _ (s : FileState) (rises : FlightRises s.flight) where
  abbrev after : FileState
  after = record s { flight = synced_flight s.flight; acknowledged = acknowledge s.flight s.acknowledged }

  kept : (row : FlightRow) → Contains (filter flies s.flight) row → Contains (synced_flight s.flight) (synced_row row)
  kept row there = All-contains (λ r. Contains (map synced_row (filter flies s.flight)) (synced_row r)) (filter flies s.flight) row (map_has synced_row (filter flies s.flight)) there

  synced_by : (row : FlightRow) (stage : Stage) → row.stage ≡ stage → Contains (filter flies s.flight) row ⊎ (flies row ≡ false) → flight_row row.index s.flight ≡ Some row → (is_gated row.stage ≡ true → has row.index (acknowledge s.flight s.acknowledged) ≡ true) → IsSynced after row stage
  synced_by row written_stage e (inl there) is acked = subst (Contains (synced_flight s.flight)) (settles row written_stage e ∙ sym (own_stage row written_stage e)) (kept row there)
  synced_by row placed_stage e (inl there) is acked = subst (Contains (synced_flight s.flight)) (settles row placed_stage e) (kept row there)
  synced_by row settled_stage e (inl there) is acked = subst (Contains (synced_flight s.flight)) (settles row settled_stage e ∙ sym (own_stage row settled_stage e)) (kept row there)
  synced_by row written_stage e (inr out) is acked = absurd (true≢false (sym (ap (λ (x : Stage). not (is_gated x)) e) ∙ out))
  synced_by row placed_stage e (inr out) is acked = absurd (true≢false (sym (ap (λ (x : Stage). not (is_gated x)) e) ∙ out))
  synced_by row settled_stage e (inr out) is acked = absurd (true≢false (sym (ap (λ (x : Stage). not (is_gated x)) e) ∙ out))
  synced_by row gated_stage e there is acked = let g : is_gated row.stage ≡ true = ap is_gated e in (acked g, gone s.flight row rises is g)

pub settles_all : (first old new : FileState) (told : Bool) (at who : ℕ) (window : Window) → FileFacts first old → Step at told old who (Settle window) Settled new → All (λ row. IsSynced new row row.stage) old.flight
settles_all first old new told at who window f step =
    subst (λ (s : FileState). All (λ row. IsSynced s row row.stage) old.flight) (sym step.after)
    (λ k d lt. claimed_too (get_or old.flight k d) (get_or old.flight k d).stage
    (synced_by old f.flying.once (get_or old.flight k d) (get_or old.flight k d).stage refl (filter_has flies old.flight k d lt) (row_at old.flight f.flying.once k d lt) (acknowledge_gated old.flight old.acknowledged k d lt)))
  where
    claimed_too : (row : FlightRow) (stage : Stage) → IsSynced (after old f.flying.once) row stage → IsSynced (change at old who (Settle window) Settled) row stage
    claimed_too row written_stage h = h
    claimed_too row placed_stage h = h
    claimed_too row settled_stage h = h
    claimed_too row gated_stage h = h

-- ---- the map

gated_or : (reply : Reply) → ((count : ℕ) × (reply ≡ Gated count)) ⊎ (WasGated reply → ⊥)
gated_or (Gated count) = inl (count, refl)
gated_or reply = inr (λ h. h)

module _ (first s : FileState) (told : Bool) (at who count q : ℕ) (digest : List ℕ) (f : FileFacts first s) (there : lookup q s.map ≡ Some digest) where
  gate_map : (window : Window) (index : ℕ) (found : Option FlightRow) → flight_row index s.flight ≡ found → is_at is_settled window (flight_row index s.flight) ≡ true → lookup q (gate_change at s index found (Gated count)).map ≡ Some digest
  gate_map window index None is mine = there
  gate_map window index (Some row) is mine =
      let absent = gate_absent first s index row is (settled_found window index s.flight row is mine) f in
      let other : eqb q index ≡ false = false_from_ne_true (eqb q index) (λ t. true≢false (sym (found_in q digest s.map there) ∙ ap (λ i. is_in i s.map) (eqb-true q index t) ∙ absent)) in
      lookup_other q index row.digest s.map other ∙ there

  gated_map : (event : Event) → Fits told s.faults (reply_of s who event) (Gated count) → lookup q (rest_change at s who event (Gated count)).map ≡ Some digest
  gated_map (Ask block uid moment) h = there
  gated_map (Poll serial moment) h = there
  gated_map (Cancel serial) h = there
  gated_map (Claim window places) h = there
  gated_map (PutData window index put) h = there
  gated_map (PutPlace window index) h = there
  gated_map (Settle window) h = there
  gated_map (Gate window index) h =
      gate_map window index (flight_row index s.flight) refl (gated_by s.failed (is_at is_settled window (flight_row index s.flight)) (count_by (waits_on index) s.reads) count h).0
  gated_map (Release window) h = there
  gated_map (TakePending from most) h = there
  gated_map (SetTimes uid times) h = there
  gated_map (Ranges start end room) h = there
  gated_map Count h = there
  gated_map Leave h = there

pub map_stays : (first old new : FileState) (told : Bool) (at who : ℕ) (event : Event) (reply : Reply) (index : ℕ) (digest : List ℕ) → FileFacts first old → Step at told old who event reply new → lookup index old.map ≡ Some digest → lookup index new.map ≡ Some digest
map_stays first old new told at who event reply index digest f step there = elim (gated_or reply) [
  | inl is ↦
      let fits : Fits told old.faults (reply_of old who event) (Gated is.0) = subst (λ (r : Reply). Fits told old.faults (reply_of old who event) r) is.1 step.allowed.fits in
      ap (λ (s : FileState). lookup index s.map) step.after ∙ ap (λ (r : Reply). lookup index (rest_change at old who event r).map) is.1 ∙ gated_map first old told at who is.0 index digest f there event fits
  | inr never ↦ ap (λ (m : Digests). lookup index m) (opens_by_gate old new told at who event reply step never) ∙ there
]
