-- The facts of a file are kept by the events of a fill.
use Rattle.std.proofs.Common.{◌≡◌, ℕ, ◌+◌, ◌<◌, Bool, true, false, cond, eqb, leb, List, get_or, Option, Some, None, refl, sym, ap, ◌∙◌, arith, inl, inr}
use Rattle.std.specs.Prelude.{is_some}
use Rattle.std.proofs.lemmas.Bool.{leb-false, eqb-true, and_parts, false_from_ne_true, false≢true}
use Rattle.std.proofs.lemmas.List.Elements.{All-map}
use Rattle.inc_pending.specs.Keyed.{lookup}
use Rattle.inc_model.specs.declared.words.event.Window.{Window}
use Rattle.inc_model.specs.declared.words.file_state.FileState.{FileState}
use Rattle.inc_model.specs.declared.words.file_state.FlightRow.{FlightRow}
use Rattle.inc_model.specs.declared.words.file_state.Stage.{Stage}
use Rattle.inc_model.specs.declared.words.file_state.Stage.TheVariants.{Written as written_stage, Placed as placed_stage, Settled as settled_at, Gated as gated_stage}
use Rattle.inc_model.specs.declared.words.reply.Reply.{Reply}
use Rattle.inc_model.specs.declared.words.reply.Reply.TheVariants.{Fault, Put, Placed, Gated}
use Rattle.inc_model.specs.relation.State.{Digests, is_in, has, flight_row, fly, is_same}
use Rattle.inc_model.specs.relation.Stages.{is_written, is_gated, is_at, written, placed_row, placed}
use Rattle.inc_model.specs.relation.Table.{unless_failed, put_reply, flight_reply, place_reply, gate_reply}
use Rattle.inc_model.specs.relation.Changes.{first_failure, broken_off, put_data_change, put_place_change}
use Rattle.inc_model.specs.relation.Step.{Fits, IsPut, may_fail}
use Rattle.inc_model.specs.relation.Facts.{RowFacts, FillFacts, BegunAs, FileFacts, MoreFacts}
use Rattle.inc_model.proofs.lists.Sets.{none_found}
use Rattle.inc_model.proofs.lists.Flight.{fly_all, fly_rises, row_none, row_found, placed_rises, index-placed}
use Rattle.inc_model.proofs.facts_kept.Groups.{within_flight}

-- ---- what a reply says of the tests before it

pub put_by : (failed : Option ℕ) (past damaged compressed : Bool) (row : Option FlightRow) (present : Bool) (digest given : List ℕ) → IsPut given (unless_failed failed (put_reply past damaged compressed (flight_reply row present digest)))
    → (failed ≡ None) × (past ≡ false) × (damaged ≡ false) × (compressed ≡ false) × (row ≡ None) × (present ≡ false) × (given ≡ digest)
put_by (Some at) past damaged compressed row present digest given h = absurd h
put_by None true damaged compressed row present digest given h = absurd h
put_by None false true compressed row present digest given h = absurd h
put_by None false false true row present digest given h = absurd h
put_by None false false false (Some row) present digest given h = absurd h
put_by None false false false None true digest given h = absurd h
put_by None false false false None false digest given h = (refl, refl, refl, refl, refl, refl, h)

pub placed_by : (failed : Option ℕ) (mine : Bool) → unless_failed failed (place_reply mine) ≡ Placed → mine ≡ true
placed_by (Some at) mine e = absurd (cc)
placed_by None true e = refl
placed_by None false e = absurd (cc)

pub gated_by : (failed : Option ℕ) (mine : Bool) (waiting count : ℕ) → unless_failed failed (gate_reply mine waiting) ≡ Gated count → (mine ≡ true) × (count ≡ waiting)
gated_by (Some at) mine waiting count e = absurd (cc)
gated_by None true waiting count e = (refl, (cc))
gated_by None false waiting count e = absurd (cc)

pub may_gate : (failed : Option ℕ) (mine : Bool) (waiting : ℕ) → may_fail (unless_failed failed (gate_reply mine waiting)) ≡ true → mine ≡ true
may_gate (Some at) mine waiting e = absurd (cc)
may_gate None true waiting e = refl
may_gate None false waiting e = absurd (cc)

-- the row is there, at the stage and of the window
pub record AtStage (stage : Stage → Bool) (window : Window) (found : Option FlightRow) : Type 0 where
  pub row : FlightRow
  pub is : found ≡ Some row
  pub own : is_same window row.window ≡ true
  pub stage_is : stage row.stage ≡ true

pub at_stage : (stage : Stage → Bool) (window : Window) (found : Option FlightRow) → is_at stage window found ≡ true → AtStage stage window found
at_stage stage window None e = absurd (cc)
at_stage stage window (Some row) e = let parts = and_parts (is_same window row.window) (stage row.stage) e in record { row = row; is = refl; own = parts.0; stage_is = parts.1 }

-- ---- a device call that failed

pub failed_now : (earlier : Option ℕ) (at : ℕ) → is_some (first_failure earlier at) ≡ true
failed_now (Some old) at = refl
failed_now None at = refl

pub broken_facts : (first s : FileState) (at count : ℕ) → FileFacts first s → FileFacts first (broken_off at count s)
broken_facts first s at count f = record {
  read = f.read;
  opened = record { origin = f.opened.origin; acknowledged_open = f.opened.acknowledged_open; begun_open = λ index h. inr (failed_now s.failed at) };
  flying = f.flying;
}

pub broken_more : (first s : FileState) (at count : ℕ) → MoreFacts first s → MoreFacts first (broken_off at count s)
broken_more first s at count m = record { same = m.same; fills = m.fills; lists = m.lists; indices = m.indices; claims = m.claims; kept = m.kept; apart = m.apart }

-- ---- a block's bytes

put_facts : (first s : FileState) (window : Window) (index : ℕ) (digest : List ℕ) → has index s.damaged ≡ false → has index s.compressed ≡ false → flight_row index s.flight ≡ None → is_in index s.map ≡ false
    → FileFacts first s → FileFacts first (record s { flight = fly (written window index digest) s.flight })
put_facts first s window index digest damaged compressed none absent f =
    let new = written window index digest in
    let P : FlightRow → Type 0 = RowFacts s.map s.damaged s.compressed in
    let row : P new = record { undamaged = damaged; uncompressed = compressed; gated = sym absent } in
    record {
      read = f.read;
      opened = f.opened;
      flying = record { once = fly_rises new s.flight (row_none index s.flight none) f.flying.once; rows = fly_all P new s.flight row f.flying.rows };
    }

put_more : (first s : FileState) (window : Window) (index : ℕ) (digest : List ℕ) → s.failed ≡ None → index < s.n + s.m → is_in index s.map ≡ false → FileFacts first s
    → MoreFacts first s → MoreFacts first (record s { flight = fly (written window index digest) s.flight })
put_more first s window index digest well inside absent f m =
    let new = written window index digest in
    let P : FlightRow → Type 0 = FillFacts s.map s.begun s.acknowledged in
    let not_failed : is_some s.failed ≡ false = ap (λ (o : Option ℕ). is_some o) well in
    let unbegun : is_in index s.begun ≡ false = false_from_ne_true (is_in index s.begun) (λ t. elim (f.opened.begun_open index t) [ inl there ↦ absurd (cc) | inr failed ↦ absurd (cc) ]) in
    let row : P new = record {
      unacknowledged = false_from_ne_true (has index s.acknowledged) (λ t. let there = f.opened.acknowledged_open index t in absurd (cc));
      own = λ e. absurd (false≢true e);
      begun_as = none_found index s.begun unbegun;
    } in
    record {
      same = m.same;
      fills = fly_all P new s.flight row m.fills;
      lists = m.lists;
      indices = within_flight m.indices (fly new s.flight) (fly_all (λ (r : FlightRow). r.index < s.n + s.m) new s.flight inside m.indices.flight_within);
      claims = m.claims;
      kept = m.kept;
      apart = m.apart;
    }

abbrev PutFits : FileState → Bool → ℕ → List ℕ → Reply → Type 0
PutFits s told index digest reply = Fits told s.faults (unless_failed s.failed (put_reply (leb (s.n + s.m) index) (has index s.damaged) (has index s.compressed) (flight_reply (flight_row index s.flight) (is_in index s.map) digest))) reply

pub put_data_stays : (first s : FileState) (told : Bool) (at : ℕ) (window : Window) (index : ℕ) (digest : List ℕ) (reply : Reply) → PutFits s told index digest reply → FileFacts first s → FileFacts first (put_data_change at s window index digest reply)
put_data_stays first s told at window index digest (Put place given) h f =
    let by = put_by s.failed (leb (s.n + s.m) index) (has index s.damaged) (has index s.compressed) (flight_row index s.flight) (is_in index s.map) digest given h in
    put_facts first s window index digest by.2 by.3 by.4 by.5 f
put_data_stays first s told at window index digest (Fault count) h f = broken_facts first s at count f
put_data_stays first s told at window index digest reply h f = f

pub put_data_more : (first s : FileState) (told : Bool) (at : ℕ) (window : Window) (index : ℕ) (digest : List ℕ) (reply : Reply) → PutFits s told index digest reply → FileFacts first s → MoreFacts first s → MoreFacts first (put_data_change at s window index digest reply)
put_data_more first s told at window index digest (Put place given) h f m =
    let by = put_by s.failed (leb (s.n + s.m) index) (has index s.damaged) (has index s.compressed) (flight_row index s.flight) (is_in index s.map) digest given h in
    put_more first s window index digest by.0 (leb-false (s.n + s.m) index by.1) by.5 f m
put_data_more first s told at window index digest (Fault count) h f m = broken_more first s at count m
put_data_more first s told at window index digest reply h f m = m

-- ---- its place

written_gated : (stage : Stage) → is_written stage ≡ true → is_gated stage ≡ false
written_gated written_stage e = refl
written_gated placed_stage e = absurd (cc)
written_gated settled_at e = absurd (cc)
written_gated gated_stage e = absurd (cc)

written_begun : (stage : Stage) (digest : List ℕ) (found : Option (List ℕ)) → is_written stage ≡ true → BegunAs stage digest found → found ≡ None
written_begun written_stage digest found e b = b
written_begun placed_stage digest found e b = absurd (cc)
written_begun settled_at digest found e b = absurd (cc)
written_begun gated_stage digest found e b = absurd (cc)

placed_row_facts : (digests : Digests) (damaged compressed : List ℕ) (index : ℕ) → is_in index digests ≡ false → (row : FlightRow) → RowFacts digests damaged compressed row → (b : Bool) → eqb row.index index ≡ b
    → RowFacts digests damaged compressed (cond b (record row { stage = placed_stage }) row)
placed_row_facts digests damaged compressed index absent row r true t = record { undamaged = r.undamaged; uncompressed = r.uncompressed; gated = sym (ap (λ i. is_in i digests) (eqb-true row.index index t) ∙ absent) }
placed_row_facts digests damaged compressed index absent row r false t = r

placed_fill_facts : (digests begun : Digests) (acknowledged : List ℕ) (index : ℕ) → lookup index begun ≡ None → (row : FlightRow) → FillFacts digests begun acknowledged row → (b : Bool) → eqb row.index index ≡ b
    → FillFacts digests begun acknowledged (cond b (record row { stage = placed_stage }) row)
placed_fill_facts digests begun acknowledged index unbegun row r true t = record {
  unacknowledged = r.unacknowledged;
  own = λ e. absurd (false≢true e);
  begun_as = ap (λ i. lookup i begun) (eqb-true row.index index t) ∙ unbegun;
}
placed_fill_facts digests begun acknowledged index unbegun row r false t = r

placed_facts : (first s : FileState) (index : ℕ) → is_in index s.map ≡ false → FileFacts first s → FileFacts first (record s { flight = placed index s.flight })
placed_facts first s index absent f = record {
  read = f.read;
  opened = f.opened;
  flying = record {
    once = placed_rises index s.flight f.flying.once;
    rows = All-map (RowFacts s.map s.damaged s.compressed) (placed_row index) s.flight (λ k d lt. placed_row_facts s.map s.damaged s.compressed index absent (get_or s.flight k d) (f.flying.rows k d lt) (eqb (get_or s.flight k d).index index) refl);
  };
}

placed_more : (first s : FileState) (index : ℕ) → lookup index s.begun ≡ None → MoreFacts first s → MoreFacts first (record s { flight = placed index s.flight })
placed_more first s index unbegun m = record {
  same = m.same;
  fills = All-map (FillFacts s.map s.begun s.acknowledged) (placed_row index) s.flight (λ k d lt. placed_fill_facts s.map s.begun s.acknowledged index unbegun (get_or s.flight k d) (m.fills k d lt) (eqb (get_or s.flight k d).index index) refl);
  lists = m.lists;
  indices = within_flight m.indices (placed index s.flight) (All-map (λ (r : FlightRow). r.index < s.n + s.m) (placed_row index) s.flight (λ k d lt. let same = index-placed index (get_or s.flight k d) in let inside = m.indices.flight_within k d lt in omega arith));
  claims = m.claims;
  kept = m.kept;
  apart = m.apart;
}

abbrev PlaceFits : FileState → Bool → Window → ℕ → Reply → Type 0
PlaceFits s told window index reply = Fits told s.faults (unless_failed s.failed (place_reply (is_at is_written window (flight_row index s.flight)))) reply

pub put_place_stays : (first s : FileState) (told : Bool) (at : ℕ) (window : Window) (index : ℕ) (reply : Reply) → PlaceFits s told window index reply → FileFacts first s → FileFacts first (put_place_change at s index reply)
put_place_stays first s told at window index Placed h f =
    let there = at_stage is_written window (flight_row index s.flight) (placed_by s.failed (is_at is_written window (flight_row index s.flight)) h) in
    let found = row_found (RowFacts s.map s.damaged s.compressed) index s.flight there.row there.is f.flying.rows in
    let absent : is_in index s.map ≡ false = sym (ap (λ i. is_in i s.map) found.0) ∙ sym found.1.gated ∙ written_gated there.row.stage there.stage_is in
    placed_facts first s index absent f
put_place_stays first s told at window index (Fault count) h f = broken_facts first s at count f
put_place_stays first s told at window index reply h f = f

pub put_place_more : (first s : FileState) (told : Bool) (at : ℕ) (window : Window) (index : ℕ) (reply : Reply) → PlaceFits s told window index reply → MoreFacts first s → MoreFacts first (put_place_change at s index reply)
put_place_more first s told at window index Placed h m =
    let there = at_stage is_written window (flight_row index s.flight) (placed_by s.failed (is_at is_written window (flight_row index s.flight)) h) in
    let row = there.row in
    let found = row_found (FillFacts s.map s.begun s.acknowledged) index s.flight row there.is m.fills in
    let unbegun : lookup index s.begun ≡ None = sym (ap (λ i. lookup i s.begun) found.0) ∙ written_begun row.stage row.digest (lookup row.index s.begun) there.stage_is found.1.begun_as in
    placed_more first s index unbegun m
put_place_more first s told at window index (Fault count) h m = broken_more first s at count m
put_place_more first s told at window index reply h m = m
