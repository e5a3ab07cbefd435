-- The facts of a file are kept by a sync.
use Rattle.std.proofs.Common.{◌≡◌, ℕ, ◌+◌, ◌<◌, ◌⊎◌, Bool, true, false, not, ◌||◌, cond, eqb, List, [], ◌∷◌, Option, refl, sym, ap, ◌∙◌, inl, inr}
use Rattle.std.specs.Prelude.{All, AllPairs, filter}
use Rattle.std.proofs.lemmas.Bool.{eqb-true, or_right, false_from_ne_true, false≢true}
use Rattle.std.proofs.lemmas.List.Elements.{All-head, All-tail, All-filter, All-map, filter_passes}
use Rattle.inc_pending.specs.Keyed.{lookup}
use Rattle.inc_model.specs.declared.words.file_state.FileState.{FileState}
use Rattle.inc_model.specs.declared.words.file_state.FlightRow.{FlightRow}
use Rattle.inc_model.specs.declared.words.file_state.Stage.{Stage}
use Rattle.inc_model.specs.declared.words.file_state.Stage.TheVariants.{Written as written_stage, Placed as placed_stage, Settled as settled_at, Gated as gated_stage}
use Rattle.inc_model.specs.declared.words.reply.Reply.{Reply}
use Rattle.inc_model.specs.declared.words.reply.Reply.TheVariants.{Fault, Settled}
use Rattle.inc_model.specs.relation.State.{Digests, is_in, has, with_index}
use Rattle.inc_model.specs.relation.Stages.{is_gated, synced_row, settled_stage, synced_flight, acknowledge}
use Rattle.inc_model.specs.relation.Changes.{synced, settle_change}
use Rattle.inc_model.specs.relation.Facts.{RowFacts, FillFacts, BegunAs, FileFacts, MoreFacts}
use Rattle.inc_model.proofs.facts_kept.Fill.{broken_facts, broken_more}
use Rattle.inc_model.proofs.lists.Sets.{add_all, add_rises, has_add, both}
use Rattle.inc_model.proofs.lists.Flight.{settled_rises}
use Rattle.inc_model.proofs.facts_kept.Groups.{within_flight, within_acknowledged, rising_acknowledged}

-- ---- a sync

-- what is acknowledged stays so
pub acknowledge_more : (q : ℕ) (flight : List FlightRow) (indices : List ℕ) → has q indices ≡ true → has q (acknowledge flight indices) ≡ true
acknowledge_more q [] indices h = h
acknowledge_more q (row ∷ rows) indices h = acknowledge_more q rows (cond (is_gated row.stage) (with_index row.index indices) indices) (step (is_gated row.stage))
  where
    step : (b : Bool) → has q (cond b (with_index row.index indices) indices) ≡ true
    step true = has_add q row.index indices ∙ or_right (eqb q row.index) (has q indices) h
    step false = h

-- and nothing but what was gated, which is in the map
pub acknowledge_from : (digests : Digests) (damaged compressed : List ℕ) (q : ℕ) (flight : List FlightRow) (indices : List ℕ) → All (RowFacts digests damaged compressed) flight → has q (acknowledge flight indices) ≡ true
    → (has q indices ≡ true) ⊎ (is_in q digests ≡ true)
acknowledge_from digests damaged compressed q [] indices rows h = inl h
acknowledge_from digests damaged compressed q (row ∷ rest) indices rows h =
    let P : FlightRow → Type 0 = RowFacts digests damaged compressed in
    let first = All-head P row rest rows in
    elim (acknowledge_from digests damaged compressed q rest (cond (is_gated row.stage) (with_index row.index indices) indices) (All-tail P row rest rows) h) [
      | inl now ↦ step first (is_gated row.stage) refl now
      | inr there ↦ inr there
    ]
  where
    added : RowFacts digests damaged compressed row → is_gated row.stage ≡ true → (b : Bool) → eqb q row.index ≡ b → (b || has q indices) ≡ true → (has q indices ≡ true) ⊎ (is_in q digests ≡ true)
    added first g true t h = inr (ap (λ i. is_in i digests) (eqb-true q row.index t) ∙ sym first.gated ∙ g)
    added first g false t h = inl h

    step : RowFacts digests damaged compressed row → (b : Bool) → is_gated row.stage ≡ b → has q (cond b (with_index row.index indices) indices) ≡ true → (has q indices ≡ true) ⊎ (is_in q digests ≡ true)
    step first true g now = added first g (eqb q row.index) refl (sym (has_add q row.index indices) ∙ now)
    step first false g now = inl now

acknowledge_rises : (flight : List FlightRow) (indices : List ℕ) → AllPairs (λ (a b : ℕ). a < b) indices → AllPairs (λ (a b : ℕ). a < b) (acknowledge flight indices)
acknowledge_rises [] indices h = h
acknowledge_rises (row ∷ rows) indices h = acknowledge_rises rows (cond (is_gated row.stage) (with_index row.index indices) indices) (step (is_gated row.stage))
  where
    step : (b : Bool) → AllPairs (λ (a b : ℕ). a < b) (cond b (with_index row.index indices) indices)
    step true = add_rises row.index indices h
    step false = h

acknowledge_within : (most : ℕ) (flight : List FlightRow) (indices : List ℕ) → All (λ row. row.index < most) flight → All (λ index. index < most) indices → All (λ index. index < most) (acknowledge flight indices)
acknowledge_within most [] indices rows h = h
acknowledge_within most (row ∷ rest) indices rows h =
    acknowledge_within most rest (cond (is_gated row.stage) (with_index row.index indices) indices) (All-tail (λ (r : FlightRow). r.index < most) row rest rows) (step (All-head (λ (r : FlightRow). r.index < most) row rest rows) (is_gated row.stage))
  where
    step : row.index < most → (b : Bool) → All (λ index. index < most) (cond b (with_index row.index indices) indices)
    step inside true = add_all (λ index. index < most) row.index indices inside h
    step inside false = h

-- a row that stays in flight isn't gated; what it was settled to isn't either
settled_gated : (stage : Stage) → is_gated stage ≡ false → is_gated (settled_stage stage) ≡ false
settled_gated written_stage e = refl
settled_gated placed_stage e = refl
settled_gated settled_at e = refl
settled_gated gated_stage e = e

settled_begun : (stage : Stage) (digest : List ℕ) (found : Option (List ℕ)) → BegunAs stage digest found → BegunAs (settled_stage stage) digest found
settled_begun written_stage digest found b = b
settled_begun placed_stage digest found b = inl b
settled_begun settled_at digest found b = b
settled_begun gated_stage digest found b = b

still_flying : (row : FlightRow) → not (is_gated row.stage) ≡ true → is_gated row.stage ≡ false
still_flying row passes = false_from_ne_true (is_gated row.stage) (λ t. absurd (false≢true (sym (ap not t) ∙ passes)))

settled_row_facts : (digests : Digests) (damaged compressed : List ℕ) (row : FlightRow) → RowFacts digests damaged compressed row → not (is_gated row.stage) ≡ true → RowFacts digests damaged compressed (synced_row row)
settled_row_facts digests damaged compressed row r passes =
    let still = still_flying row passes in
    record { undamaged = r.undamaged; uncompressed = r.uncompressed; gated = settled_gated row.stage still ∙ sym (sym r.gated ∙ still) }

settled_fill_facts : (digests begun : Digests) (before after : List ℕ) → ((q : ℕ) → has q after ≡ true → (has q before ≡ true) ⊎ (is_in q digests ≡ true)) → (row : FlightRow) → FillFacts digests begun before row → (is_in row.index digests ≡ false) × (not (is_gated row.stage) ≡ true)
    → FillFacts digests begun after (synced_row row)
settled_fill_facts digests begun before after from row r passes =
    let later = settled_gated row.stage (still_flying row passes.1) in
    let absent = passes.0 in
    let old = r.unacknowledged in
    record {
      unacknowledged = false_from_ne_true (has row.index after) (λ t. elim (from row.index t) [ inl was ↦ absurd (cc) | inr there ↦ absurd (cc) ]);
      own = λ e. absurd (false≢true (sym later ∙ e));
      begun_as = settled_begun row.stage row.digest (lookup row.index begun) r.begun_as;
    }

abbrev flies : FlightRow → Bool
flies row = not (is_gated row.stage)

synced_from : (first s : FileState) → FileFacts first s → (q : ℕ) → has q (acknowledge s.flight s.acknowledged) ≡ true → (has q s.acknowledged ≡ true) ⊎ (is_in q s.map ≡ true)
synced_from first s f q = acknowledge_from s.map s.damaged s.compressed q s.flight s.acknowledged f.flying.rows

synced_facts : (first s : FileState) → FileFacts first s → FileFacts first (synced s)
synced_facts first s f =
    let P : FlightRow → Type 0 = RowFacts s.map s.damaged s.compressed in
    record {
      read = f.read;
      opened = record {
        origin = f.opened.origin;
        acknowledged_open = λ q h. elim (synced_from first s f q h) [ inl was ↦ f.opened.acknowledged_open q was | inr there ↦ there ];
        begun_open = f.opened.begun_open;
      };
      flying = record {
        once = settled_rises s.flight f.flying.once;
        rows = All-map P synced_row (filter flies s.flight) (both P (λ r. flies r ≡ true) (λ r. P (synced_row r)) (settled_row_facts s.map s.damaged s.compressed) (filter flies s.flight) (All-filter flies P s.flight f.flying.rows) (filter_passes flies s.flight));
      };
    }

synced_more : (first s : FileState) → FileFacts first s → MoreFacts first s → MoreFacts first (synced s)
synced_more first s f m =
    let P : FlightRow → Type 0 = RowFacts s.map s.damaged s.compressed in
    let Q : FlightRow → Type 0 = FillFacts s.map s.begun s.acknowledged in
    let A : FlightRow → Type 0 = λ r. (is_in r.index s.map ≡ false) × (flies r ≡ true) in
    let after = acknowledge s.flight s.acknowledged in
    let R : FlightRow → Type 0 = FillFacts s.map s.begun after in
    let absent : All A (filter flies s.flight) = both P (λ r. flies r ≡ true) A (λ r row passes. (sym row.gated ∙ still_flying r passes, passes)) (filter flies s.flight) (All-filter flies P s.flight f.flying.rows) (filter_passes flies s.flight) in
    let inside = All-filter flies (λ (r : FlightRow). r.index < s.n + s.m) s.flight m.indices.flight_within in
    record {
      same = m.same;
      fills = All-map R synced_row (filter flies s.flight) (both Q A (λ r. R (synced_row r)) (settled_fill_facts s.map s.begun s.acknowledged after (synced_from first s f)) (filter flies s.flight) (All-filter flies Q s.flight m.fills) absent);
      lists = rising_acknowledged m.lists after (acknowledge_rises s.flight s.acknowledged m.lists.acknowledged_rises);
      indices = within_acknowledged (within_flight m.indices (synced_flight s.flight) (All-map (λ (r : FlightRow). r.index < s.n + s.m) synced_row (filter flies s.flight) inside)) after (acknowledge_within (s.n + s.m) s.flight s.acknowledged m.indices.flight_within m.indices.acknowledged_within);
      claims = m.claims;
      kept = record { opened = λ q t. acknowledge_more q s.flight s.acknowledged (m.kept.opened q t); fresh = m.kept.fresh; same = m.kept.same };
      apart = m.apart;
    }

pub settle_stays : (first s : FileState) (at : ℕ) (reply : Reply) → FileFacts first s → FileFacts first (settle_change at s reply)
settle_stays first s at Settled f = synced_facts first s f
settle_stays first s at (Fault count) f = broken_facts first s at count f
settle_stays first s at reply f = f

pub settle_more : (first s : FileState) (at : ℕ) (reply : Reply) → FileFacts first s → MoreFacts first s → MoreFacts first (settle_change at s reply)
settle_more first s at Settled f m = synced_more first s f m
settle_more first s at (Fault count) f m = broken_more first s at count m
settle_more first s at reply f m = m
