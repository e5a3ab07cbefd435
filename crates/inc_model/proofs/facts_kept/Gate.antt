-- The facts of a file are kept by a gate and by a release.
use Rattle.std.proofs.Common.{◌≡◌, ℕ, ◌+◌, ◌<◌, ◌⊎◌, Bool, true, false, not, ◌&&◌, ◌||◌, cond, eqb, List, get_or, Option, Some, None, refl, sym, ap, subst, ◌∙◌, arith, inl, inr}
use Rattle.std.specs.Prelude.{All, is_some, map}
use Rattle.std.proofs.lemmas.Bool.{eqb-true, or_left, or_right, true≢false, false_from_ne_true}
use Rattle.std.proofs.lemmas.List.Elements.{All-filter, All-map}
use Rattle.std.proofs.lemmas.List.Kept.{AllPairs-filter}
use Rattle.inc_pending.specs.Keyed.{lookup, insert}
use Rattle.inc_pending.specs.Polling.{waits_on, marked}
use Rattle.inc_pending.specs.declared.reads.ReadRow.{ReadRow}
use Rattle.inc_pending.proofs.KeyedLemmas.{lookup_insert, rise_insert}
use Rattle.inc_pending.proofs.TableLemmas.{rising-map}
use Rattle.inc_model.specs.declared.words.event.Window.{Window}
use Rattle.inc_model.specs.declared.words.file_state.FileState.{FileState}
use Rattle.inc_model.specs.declared.words.file_state.FlightRow.{FlightRow}
use Rattle.inc_model.specs.declared.words.file_state.Stage.{Stage}
use Rattle.inc_model.specs.declared.words.file_state.Stage.TheVariants.{Written as written_stage, Placed as placed_stage, Settled as settled_at, Gated as gated_stage}
use Rattle.inc_model.specs.declared.words.reply.Reply.{Reply}
use Rattle.inc_model.specs.declared.words.reply.Reply.TheVariants.{Fault, Gated}
use Rattle.inc_model.specs.relation.State.{Digests, is_in, has, flight_row, land, is_same, AreSound}
use Rattle.inc_model.specs.relation.Stages.{is_settled, is_gated, is_at, gated_row, gated}
use Rattle.inc_model.specs.relation.Table.{unless_failed, gate_reply}
use Rattle.inc_model.specs.relation.Changes.{broken_off, begins, opens, gate_row_change, gate_change, release_change}
use Rattle.inc_model.specs.relation.Step.{Fits}
use Rattle.inc_model.specs.relation.Facts.{RowFacts, FillFacts, BegunAs, FileFacts, MoreFacts}
use Rattle.inc_model.proofs.facts_kept.Fill.{AtStage, at_stage, failed_now, gated_by, may_gate}
use Rattle.inc_model.proofs.lists.Sets.{insert_all, in_insert, lookup_other}
use Rattle.inc_model.proofs.facts_kept.Store.{begun_kept, opened_kept, sound_insert}
use Rattle.inc_model.proofs.lists.Flight.{row_found, row_alone, gated_rises, index-gated}
use Rattle.inc_model.proofs.facts_kept.Groups.{within_flight, within_begun, within_digests, within_reads, rising_begun, rising_digests}

-- ---- a gate: the marked reads

mark_by : (digests : Digests) (index : ℕ) (digest : List ℕ) (row : ReadRow) → row.done ≡ is_in row.block digests → (b : Bool) → eqb row.block index ≡ b → (d : Bool) → row.done ≡ d
    → (cond (b && not d) (record row { done = true }) row).done ≡ is_in (cond (b && not d) (record row { done = true }) row).block (insert index digest digests)
mark_by digests index digest row h true t true d = d ∙ sym (in_insert row.block index digest digests ∙ or_left (eqb row.block index) (is_in row.block digests) t)
mark_by digests index digest row h true t false d = sym (in_insert row.block index digest digests ∙ or_left (eqb row.block index) (is_in row.block digests) t)
mark_by digests index digest row h false t true d = h ∙ sym (in_insert row.block index digest digests ∙ ap (λ b. b || is_in row.block digests) t)
mark_by digests index digest row h false t false d = h ∙ sym (in_insert row.block index digest digests ∙ ap (λ b. b || is_in row.block digests) t)

serial-marked_by : (b : Bool) (row : ReadRow) → (cond b (record row { done = true }) row).serial ≡ row.serial
serial-marked_by true row = refl
serial-marked_by false row = refl

serial-marked : (index : ℕ) (row : ReadRow) → (marked index row).serial ≡ row.serial
serial-marked index row = serial-marked_by (waits_on index row) row

block-marked_by : (b : Bool) (row : ReadRow) → (cond b (record row { done = true }) row).block ≡ row.block
block-marked_by true row = refl
block-marked_by false row = refl

block-marked : (index : ℕ) (row : ReadRow) → (marked index row).block ≡ row.block
block-marked index row = block-marked_by (waits_on index row) row

-- ---- a gate: the rows in flight

-- the row of this index is the one that was found
record IsRow (index : ℕ) (digest : List ℕ) (found row : FlightRow) : Type 0 where
  alone : row.index ≡ index → row ≡ found
  its : found.digest ≡ digest

digest_of : (index : ℕ) (digest : List ℕ) (found row : FlightRow) → IsRow index digest found row → eqb row.index index ≡ true → row.digest ≡ digest
digest_of index digest found row is t = ap (λ (r : FlightRow). r.digest) (is.alone (eqb-true row.index index t)) ∙ is.its

found_at : (digests : Digests) (index : ℕ) (digest wanted : List ℕ) (q : ℕ) → eqb q index ≡ true → wanted ≡ digest → lookup q (insert index digest digests) ≡ Some wanted
found_at digests index digest wanted q t e = lookup_insert q index digest digests ∙ ap (λ b. cond b (Some digest) (lookup q digests)) t ∙ ap (λ (d : List ℕ). Some d) (sym e)

opened_row_facts : (digests : Digests) (damaged compressed : List ℕ) (index : ℕ) (digest : List ℕ) (row : FlightRow) → RowFacts digests damaged compressed row → (b : Bool) → eqb row.index index ≡ b
    → RowFacts (insert index digest digests) damaged compressed (cond b (record row { stage = gated_stage }) row)
opened_row_facts digests damaged compressed index digest row r true t = record {
  undamaged = r.undamaged;
  uncompressed = r.uncompressed;
  gated = sym (in_insert row.index index digest digests ∙ or_left (eqb row.index index) (is_in row.index digests) t);
}
opened_row_facts digests damaged compressed index digest row r false t = record {
  undamaged = r.undamaged;
  uncompressed = r.uncompressed;
  gated = r.gated ∙ sym (in_insert row.index index digest digests ∙ ap (λ b. b || is_in row.index digests) t);
}

opened_fill_facts : (digests begun : Digests) (acknowledged : List ℕ) (index : ℕ) (digest : List ℕ) (found row : FlightRow) → IsRow index digest found row → FillFacts digests begun acknowledged row → (b : Bool) → eqb row.index index ≡ b
    → FillFacts (insert index digest digests) (insert index digest begun) acknowledged (cond b (record row { stage = gated_stage }) row)
opened_fill_facts digests begun acknowledged index digest found row is r true t =
    let its = digest_of index digest found row is t in
    record {
      unacknowledged = r.unacknowledged;
      own = λ _. found_at digests index digest row.digest row.index t its;
      begun_as = found_at begun index digest row.digest row.index t its;
    }
opened_fill_facts digests begun acknowledged index digest found row is r false t = record {
  unacknowledged = r.unacknowledged;
  own = λ g. lookup_other row.index index digest digests t ∙ r.own g;
  begun_as = subst (BegunAs row.stage row.digest) (sym (lookup_other row.index index digest begun t)) r.begun_as;
}

-- a gate write that failed leaves the map
begun_fill_facts : (digests begun : Digests) (acknowledged : List ℕ) (index : ℕ) (digest : List ℕ) (found row : FlightRow) → is_settled found.stage ≡ true → IsRow index digest found row → FillFacts digests begun acknowledged row
    → FillFacts digests (insert index digest begun) acknowledged row
begun_fill_facts digests begun acknowledged index digest found row stage is r = record {
  unacknowledged = r.unacknowledged;
  own = r.own;
  begun_as = go (eqb row.index index) refl;
}
  where
    at_settled : (s : Stage) → is_settled s ≡ true → (found : Option (List ℕ)) → found ≡ Some row.digest → BegunAs s row.digest found
    at_settled written_stage e found h = absurd (cc)
    at_settled placed_stage e found h = absurd (cc)
    at_settled settled_at e found h = inr h
    at_settled gated_stage e found h = absurd (cc)

    go : (b : Bool) → eqb row.index index ≡ b → BegunAs row.stage row.digest (lookup row.index (insert index digest begun))
    go true t =
        let same = is.alone (eqb-true row.index index t) in
        let at : is_settled row.stage ≡ true = ap (λ (r : FlightRow). is_settled r.stage) same ∙ stage in
        at_settled row.stage at (lookup row.index (insert index digest begun)) (found_at begun index digest row.digest row.index t (digest_of index digest found row is t))
    go false t = subst (BegunAs row.stage row.digest) (sym (lookup_other row.index index digest begun t)) r.begun_as

-- ---- a gate: the whole

module _ (first s : FileState) (index : ℕ) (found : FlightRow) (is : flight_row index s.flight ≡ Some found) (stage : is_settled found.stage ≡ true) (f : FileFacts first s) where
  its : (found.index ≡ index) × RowFacts s.map s.damaged s.compressed found
  its = row_found (RowFacts s.map s.damaged s.compressed) index s.flight found is f.flying.rows

  settled_gate : (st : Stage) → is_settled st ≡ true → is_gated st ≡ false
  settled_gate written_stage e = absurd (cc)
  settled_gate placed_stage e = absurd (cc)
  settled_gate settled_at e = refl
  settled_gate gated_stage e = absurd (cc)

  pub gate_absent : is_in index s.map ≡ false
  gate_absent = sym (ap (λ i. is_in i s.map) its.0) ∙ sym its.1.gated ∙ settled_gate found.stage stage

  each_row : All (IsRow index found.digest found) s.flight
  each_row = λ k d lt. record { alone = row_alone index s.flight found f.flying.once is k d lt; its = refl }

  origin_now : (q : ℕ) (digest : List ℕ) → lookup q (insert index found.digest s.map) ≡ Some digest → (lookup q first.map ≡ Some digest) ⊎ (lookup q (insert index found.digest s.begun) ≡ Some digest)
  origin_now q digest e =
      let step = go (eqb q index) refl (sym (lookup_insert q index found.digest s.map) ∙ e) in
      elim step [ inl old ↦ inl old | inr now ↦ inr (lookup_insert q index found.digest s.begun ∙ now) ]
    where
      go : (b : Bool) → eqb q index ≡ b → cond b (Some found.digest) (lookup q s.map) ≡ Some digest → (lookup q first.map ≡ Some digest) ⊎ (cond b (Some found.digest) (lookup q s.begun) ≡ Some digest)
      go true t e = inr e
      go false t e = f.opened.origin q digest e

  begun_now : (q : ℕ) → is_in q (insert index found.digest s.begun) ≡ true → (is_in q (insert index found.digest s.map) ≡ true) ⊎ (is_some s.failed ≡ true)
  begun_now q e =
      let step = go (eqb q index) refl (sym (in_insert q index found.digest s.begun) ∙ e) in
      elim step [ inl now ↦ inl (in_insert q index found.digest s.map ∙ now) | inr failed ↦ inr failed ]
    where
      go : (b : Bool) → eqb q index ≡ b → (b || is_in q s.begun) ≡ true → ((b || is_in q s.map) ≡ true) ⊎ (is_some s.failed ≡ true)
      go true t e = inl refl
      go false t e = f.opened.begun_open q e

  opens_facts : FileFacts first (opens index found.digest s)
  opens_facts =
      let serial : ReadRow → ℕ = λ row. row.serial in
      record {
        read = record {
          done = All-map (λ (r : ReadRow). r.done ≡ is_in r.block (insert index found.digest s.map)) (marked index) s.reads
              (λ k d lt. mark_by s.map index found.digest (get_or s.reads k d) (f.read.done k d lt) (eqb (get_or s.reads k d).block index) refl (get_or s.reads k d).done refl);
          rising = rising-map serial serial (marked index) (serial-marked index) s.reads f.read.rising;
          below = All-map (λ (r : ReadRow). r.serial < s.next) (marked index) s.reads (λ k d lt. let below = f.read.below k d lt in let same = serial-marked index (get_or s.reads k d) in omega arith);
        };
        opened = record {
          origin = origin_now;
          acknowledged_open = λ q h. in_insert q index found.digest s.map ∙ or_right (eqb q index) (is_in q s.map) (f.opened.acknowledged_open q h);
          begun_open = begun_now;
        };
        flying = record {
          once = gated_rises index s.flight f.flying.once;
          rows = All-map (RowFacts (insert index found.digest s.map) s.damaged s.compressed) (gated_row index) s.flight
              (λ k d lt. opened_row_facts s.map s.damaged s.compressed index found.digest (get_or s.flight k d) (f.flying.rows k d lt) (eqb (get_or s.flight k d).index index) refl);
        };
      }

  -- the map lacks the index, so what the map has is in `begun` as before
  broken_origin : (q : ℕ) (digest : List ℕ) → lookup q s.map ≡ Some digest → (lookup q first.map ≡ Some digest) ⊎ (lookup q (insert index found.digest s.begun) ≡ Some digest)
  broken_origin q digest e = go (eqb q index) refl
    where
      go : (b : Bool) → eqb q index ≡ b → (lookup q first.map ≡ Some digest) ⊎ (lookup q (insert index found.digest s.begun) ≡ Some digest)
      go true t =
          let there : is_in q s.map ≡ true = ap (λ (o : Option (List ℕ)). is_some o) e in
          let not_there : is_in q s.map ≡ false = ap (λ i. is_in i s.map) (eqb-true q index t) ∙ gate_absent in
          absurd (true≢false (sym there ∙ not_there))
      go false t = elim (f.opened.origin q digest e) [ inl old ↦ inl old | inr was ↦ inr (lookup_other q index found.digest s.begun t ∙ was) ]

  gate_broken_facts : (at count : ℕ) → FileFacts first (broken_off at count (begins index found.digest s))
  gate_broken_facts at count = record {
    read = f.read;
    opened = record { origin = broken_origin; acknowledged_open = f.opened.acknowledged_open; begun_open = λ q h. inr (failed_now s.failed at) };
    flying = f.flying;
  }

  module _ (m : MoreFacts first s) where
    inside : index < s.n + s.m
    inside = let w = row_found (λ (r : FlightRow). r.index < s.n + s.m) index s.flight found is m.indices.flight_within in let same = w.0 in let lt = w.1 in omega arith

    first_absent : is_in index first.map ≡ false
    first_absent = false_from_ne_true (is_in index first.map) (λ t. absurd (true≢false (sym (f.opened.acknowledged_open index (m.kept.opened index t)) ∙ gate_absent)))

    undamaged : has index s.damaged ≡ false
    undamaged = ap (λ i. has i s.damaged) (sym its.0) ∙ its.1.undamaged

    uncompressed : has index s.compressed ≡ false
    uncompressed = ap (λ i. has i s.compressed) (sym its.0) ∙ its.1.uncompressed

    sound_begun : AreSound (insert index found.digest s.begun) s.damaged s.compressed
    sound_begun = sound_insert s.begun s.damaged s.compressed index found.digest undamaged uncompressed m.apart.begun_sound

    opens_more : MoreFacts first (opens index found.digest s)
    opens_more =
        let After : FlightRow → Type 0 = FillFacts (insert index found.digest s.map) (insert index found.digest s.begun) s.acknowledged in
        let keys : ℕ × List ℕ → Type 0 = λ row. row.0 < s.n + s.m in
        record {
          same = m.same;
          fills = All-map After (gated_row index) s.flight
              (λ k d lt. opened_fill_facts s.map s.begun s.acknowledged index found.digest found (get_or s.flight k d) (each_row k d lt) (m.fills k d lt) (eqb (get_or s.flight k d).index index) refl);
          lists = rising_digests (rising_begun m.lists (insert index found.digest s.begun) (rise_insert index found.digest s.begun m.lists.begun_rises)) (insert index found.digest s.map) (rise_insert index found.digest s.map m.lists.digests_rise);
          indices =
              let reads = within_reads m.indices (map (marked index) s.reads) (All-map (λ (r : ReadRow). r.block < s.n) (marked index) s.reads (λ k d lt. let within = m.indices.reads_within k d lt in let same = block-marked index (get_or s.reads k d) in omega arith)) in
              let flight = within_flight reads (gated index s.flight) (All-map (λ (r : FlightRow). r.index < s.n + s.m) (gated_row index) s.flight (λ k d lt. let within = m.indices.flight_within k d lt in let same = index-gated index (get_or s.flight k d) in omega arith)) in
              let begun = within_begun flight (insert index found.digest s.begun) (insert_all keys index found.digest s.begun inside m.indices.begun_within) in
              within_digests begun (insert index found.digest s.map) (insert_all keys index found.digest s.map inside m.indices.digests_within);
          claims = m.claims;
          kept = opened_kept first.map s.map s.begun s.acknowledged index found.digest m.kept first_absent;
          apart = record { open_sound = sound_insert s.map s.damaged s.compressed index found.digest undamaged uncompressed m.apart.open_sound; begun_sound = sound_begun; apart = m.apart.apart };
        }

    gate_broken_more : (at count : ℕ) → MoreFacts first (broken_off at count (begins index found.digest s))
    gate_broken_more at count = record {
      same = m.same;
      fills = λ k d lt. begun_fill_facts s.map s.begun s.acknowledged index found.digest found (get_or s.flight k d) stage (each_row k d lt) (m.fills k d lt);
      lists = rising_begun m.lists (insert index found.digest s.begun) (rise_insert index found.digest s.begun m.lists.begun_rises);
      indices = within_begun m.indices (insert index found.digest s.begun) (insert_all (λ row. row.0 < s.n + s.m) index found.digest s.begun inside m.indices.begun_within);
      claims = m.claims;
      kept = begun_kept first.map s.map s.begun s.acknowledged index found.digest m.kept first_absent gate_absent;
      apart = record { open_sound = m.apart.open_sound; begun_sound = sound_begun; apart = m.apart.apart };
    }

pub settled_found : (window : Window) (index : ℕ) (flight : List FlightRow) (found : FlightRow) → flight_row index flight ≡ Some found → is_at is_settled window (flight_row index flight) ≡ true → is_settled found.stage ≡ true
settled_found window index flight found is e =
    let there : is_at is_settled window (Some found) ≡ true = subst (λ (o : Option FlightRow). is_at is_settled window o ≡ true) is e in
    let same = (at_stage is_settled window (Some found) there).is in
    go (at_stage is_settled window (Some found) there)
  where
    go : AtStage is_settled window (Some found) → is_settled found.stage ≡ true
    go h = ap (λ (o : Option FlightRow). elim o as (λ _. Bool) [ Some r ↦ is_settled r.stage | None ↦ true ]) h.is ∙ h.stage_is

abbrev GateFits : FileState → Bool → Window → ℕ → ℕ → Reply → Type 0
GateFits s told window index waiting reply = Fits told s.faults (unless_failed s.failed (gate_reply (is_at is_settled window (flight_row index s.flight)) waiting)) reply

gate_row_stays : (first s : FileState) (told : Bool) (at : ℕ) (window : Window) (index waiting : ℕ) (found : FlightRow) (reply : Reply) → flight_row index s.flight ≡ Some found → GateFits s told window index waiting reply
    → FileFacts first s → FileFacts first (gate_row_change at s index found.digest reply)
gate_row_stays first s told at window index waiting found (Gated count) is h f =
    let mine = (gated_by s.failed (is_at is_settled window (flight_row index s.flight)) waiting count h).0 in
    opens_facts first s index found is (settled_found window index s.flight found is mine) f
gate_row_stays first s told at window index waiting found (Fault count) is h f =
    let mine = may_gate s.failed (is_at is_settled window (flight_row index s.flight)) waiting h.0 in
    gate_broken_facts first s index found is (settled_found window index s.flight found is mine) f at count
gate_row_stays first s told at window index waiting found reply is h f = f

gate_row_more : (first s : FileState) (told : Bool) (at : ℕ) (window : Window) (index waiting : ℕ) (found : FlightRow) (reply : Reply) → flight_row index s.flight ≡ Some found → GateFits s told window index waiting reply
    → FileFacts first s → MoreFacts first s → MoreFacts first (gate_row_change at s index found.digest reply)
gate_row_more first s told at window index waiting found (Gated count) is h f m =
    let mine = (gated_by s.failed (is_at is_settled window (flight_row index s.flight)) waiting count h).0 in
    opens_more first s index found is (settled_found window index s.flight found is mine) f m
gate_row_more first s told at window index waiting found (Fault count) is h f m =
    let mine = may_gate s.failed (is_at is_settled window (flight_row index s.flight)) waiting h.0 in
    gate_broken_more first s index found is (settled_found window index s.flight found is mine) f m at count
gate_row_more first s told at window index waiting found reply is h f m = m

gate_by : (first s : FileState) (told : Bool) (at : ℕ) (window : Window) (index waiting : ℕ) (found : Option FlightRow) (reply : Reply) → flight_row index s.flight ≡ found → GateFits s told window index waiting reply
    → FileFacts first s → FileFacts first (gate_change at s index found reply)
gate_by first s told at window index waiting (Some row) reply is h f = gate_row_stays first s told at window index waiting row reply is h f
gate_by first s told at window index waiting None reply is h f = f

gate_more_by : (first s : FileState) (told : Bool) (at : ℕ) (window : Window) (index waiting : ℕ) (found : Option FlightRow) (reply : Reply) → flight_row index s.flight ≡ found → GateFits s told window index waiting reply
    → FileFacts first s → MoreFacts first s → MoreFacts first (gate_change at s index found reply)
gate_more_by first s told at window index waiting (Some row) reply is h f m = gate_row_more first s told at window index waiting row reply is h f m
gate_more_by first s told at window index waiting None reply is h f m = m

pub gate_stays : (first s : FileState) (told : Bool) (at : ℕ) (window : Window) (index waiting : ℕ) (reply : Reply) → Fits told s.faults (unless_failed s.failed (gate_reply (is_at is_settled window (flight_row index s.flight)) waiting)) reply
    → FileFacts first s → FileFacts first (gate_change at s index (flight_row index s.flight) reply)
gate_stays first s told at window index waiting reply h f = gate_by first s told at window index waiting (flight_row index s.flight) reply refl h f

pub gate_more : (first s : FileState) (told : Bool) (at : ℕ) (window : Window) (index waiting : ℕ) (reply : Reply) → Fits told s.faults (unless_failed s.failed (gate_reply (is_at is_settled window (flight_row index s.flight)) waiting)) reply
    → FileFacts first s → MoreFacts first s → MoreFacts first (gate_change at s index (flight_row index s.flight) reply)
gate_more first s told at window index waiting reply h f m = gate_more_by first s told at window index waiting (flight_row index s.flight) reply refl h f m

-- ---- a release

pub release_stays : (first s : FileState) (window : Window) → FileFacts first s → FileFacts first (release_change s window)
release_stays first s window f =
    let others : FlightRow → Bool = λ row. not (is_same window row.window) in
    record {
      read = f.read;
      opened = f.opened;
      flying = record { once = AllPairs-filter (λ (a : FlightRow) (b : FlightRow). a.index < b.index) others s.flight f.flying.once; rows = All-filter others (RowFacts s.map s.damaged s.compressed) s.flight f.flying.rows };
    }

pub release_more : (first s : FileState) (window : Window) → MoreFacts first s → MoreFacts first (release_change s window)
release_more first s window m =
    let others : FlightRow → Bool = λ row. not (is_same window row.window) in
    record {
      same = m.same;
      fills = All-filter others (FillFacts s.map s.begun s.acknowledged) s.flight m.fills;
      lists = m.lists;
      indices = within_flight m.indices (land window s.flight) (All-filter others (λ (r : FlightRow). r.index < s.n + s.m) s.flight m.indices.flight_within);
      claims = m.claims;
      kept = m.kept;
      apart = m.apart;
    }
