-- The rows in flight after one more, and after a change of stages.
use Rattle.std.proofs.Common.{◌≡◌, ℕ, ◌<◌, Bool, true, false, not, cond, eqb, ltb, List, [], ◌∷◌, length, ◌+◌, get_or, Option, Some, None, refl, ap, subst, ◌∙◌, arith}
use Rattle.std.specs.Prelude.{All, filter, count_by}
use Rattle.std.proofs.lemmas.Bool.{eqb-true, eq-eqb, ne_eqb, cond_both, ltb-true, ltb-false, eqb-false}
use Rattle.std.proofs.lemmas.List.Elements.{All-nil, All-cons, All-head, All-tail}
use Rattle.std.proofs.lemmas.List.Sums.{length-filter}
use Rattle.std.proofs.lemmas.List.Filters.{length-filter_both}
use Rattle.std.proofs.lemmas.List.Kept.{AllPairs-cons, AllPairs-filter}
use Rattle.inc_pending.proofs.TableLemmas.{rising-map}
use Rattle.inc_model.specs.declared.words.file_state.FlightRow.{FlightRow}
use Rattle.inc_model.specs.declared.words.file_state.Stage.TheVariants.{Placed, Gated}
use Rattle.inc_model.specs.relation.State.{flight_row, fly, FlightRises}
use Rattle.inc_model.specs.relation.Stages.{is_gated, placed, placed_row, gated, gated_row, synced_flight, synced_row}
use Rattle.inc_model.proofs.lists.Sets.{pairs_head, pairs_tail}

-- ---- one more row

pub fly_all : (P : FlightRow → Type 0) (new : FlightRow) (rows : List FlightRow) → P new → All P rows → All P (fly new rows)
fly_all P new [] p h = All-cons P new [] p h
fly_all P new (row ∷ rows) p h =
    let first = All-head P row rows h in
    let rest = All-tail P row rows h in
    cond_both (ltb new.index row.index) (new ∷ row ∷ rows) (row ∷ fly new rows) (All P) (λ _. All-cons P new (row ∷ rows) p h) (λ _. All-cons P row (fly new rows) first (fly_all P new rows p rest))

-- an index that no row has
pub row_none : (index : ℕ) (rows : List FlightRow) → flight_row index rows ≡ None → All (λ row. eqb row.index index ≡ false) rows
row_none index [] e = All-nil (λ (row : FlightRow). eqb row.index index ≡ false)
row_none index (row ∷ rows) e = step (row_none index rows) (eqb row.index index) refl e
  where
    step : (flight_row index rows ≡ None → All (λ (r : FlightRow). eqb r.index index ≡ false) rows) → (b : Bool) → eqb row.index index ≡ b → cond b (Some row) (flight_row index rows) ≡ None → All (λ (r : FlightRow). eqb r.index index ≡ false) (row ∷ rows)
    step rest true t e = absurd (cc)
    step rest false t e = All-cons (λ (r : FlightRow). eqb r.index index ≡ false) row rows t (rest e)

pub fly_rises : (new : FlightRow) (rows : List FlightRow) → All (λ row. eqb row.index new.index ≡ false) rows → FlightRises rows → FlightRises (fly new rows)
fly_rises new [] none h = AllPairs-cons (λ (a b : FlightRow). a.index < b.index) new [] (All-nil (λ (b : FlightRow). new.index < b.index)) h
fly_rises new (row ∷ rows) none h =
    let R : FlightRow → FlightRow → Type 0 = λ a b. a.index < b.index in
    let P : FlightRow → Type 0 = λ r. eqb r.index new.index ≡ false in
    let above = pairs_head R row rows h in
    let rest = pairs_tail R row rows h in
    let apart = eqb-false row.index new.index (All-head P row rows none) in
    cond_both (ltb new.index row.index) (new ∷ row ∷ rows) (row ∷ fly new rows) FlightRises
    (λ t. let lt = ltb-true new.index row.index t in AllPairs-cons R new (row ∷ rows) (All-cons (R new) row rows lt (λ k d inside. let past : row.index < (get_or rows k d).index = above k d inside in omega arith)) h)
    (λ f. let le = ltb-false new.index row.index f in AllPairs-cons R row (fly new rows) (fly_all (R row) new rows (omega arith) above) (fly_rises new rows (All-tail P row rows none) rest))

-- ---- the row of an index

pub row_found : (P : FlightRow → Type 0) (index : ℕ) (rows : List FlightRow) (found : FlightRow) → flight_row index rows ≡ Some found → All P rows → (found.index ≡ index) × P found
row_found P index [] found e h = absurd (cc)
row_found P index (row ∷ rows) found e h = step (λ e'. row_found P index rows found e' (All-tail P row rows h)) (eqb row.index index) refl e
  where
    step : (flight_row index rows ≡ Some found → (found.index ≡ index) × P found) → (b : Bool) → eqb row.index index ≡ b → cond b (Some row) (flight_row index rows) ≡ Some found → (found.index ≡ index) × P found
    step rest true t e =
        let same : row ≡ found = ap (λ (o : Option FlightRow). elim o as (λ _. FlightRow) [ Some r ↦ r | None ↦ row ]) e in
        let is : row.index ≡ index = eqb-true row.index index t in
        let Q : FlightRow → Type 0 = λ r. (r.index ≡ index) × P r in
        subst Q same (is, All-head P row rows h)
    step rest false t e = rest e

-- no other row has its index
pub row_alone : (index : ℕ) (rows : List FlightRow) (found : FlightRow) → FlightRises rows → flight_row index rows ≡ Some found → All (λ row. row.index ≡ index → row ≡ found) rows
row_alone index [] found h e = All-nil (λ (row : FlightRow). row.index ≡ index → row ≡ found)
row_alone index (row ∷ rows) found h e = step (row_alone index rows found (pairs_tail (λ (a b : FlightRow). a.index < b.index) row rows h)) (eqb row.index index) refl e
  where
    step : (flight_row index rows ≡ Some found → All (λ (r : FlightRow). r.index ≡ index → r ≡ found) rows) → (b : Bool) → eqb row.index index ≡ b → cond b (Some row) (flight_row index rows) ≡ Some found → All (λ (r : FlightRow). r.index ≡ index → r ≡ found) (row ∷ rows)
    step rest true t e =
        let R : FlightRow → FlightRow → Type 0 = λ a b. a.index < b.index in
        let same : row ≡ found = ap (λ (o : Option FlightRow). elim o as (λ _. FlightRow) [ Some r ↦ r | None ↦ row ]) e in
        let is : row.index ≡ index = eqb-true row.index index t in
        let above = pairs_head R row rows h in
        All-cons (λ (r : FlightRow). r.index ≡ index → r ≡ found) row rows (λ _. same) (λ k d inside other. let past : row.index < (get_or rows k d).index = above k d inside in absurd (omega arith))
    step rest false t e = All-cons (λ (r : FlightRow). r.index ≡ index → r ≡ found) row rows (λ is. absurd (eqb-false row.index index t is)) (rest e)

-- ---- changes of stages keep the indices

index-placed_by : (b : Bool) (row : FlightRow) → (cond b (record row { stage = Placed }) row).index ≡ row.index
index-placed_by true row = refl
index-placed_by false row = refl

pub index-placed : (index : ℕ) (row : FlightRow) → (placed_row index row).index ≡ row.index
index-placed index row = index-placed_by (eqb row.index index) row

index-gated_by : (b : Bool) (row : FlightRow) → (cond b (record row { stage = Gated }) row).index ≡ row.index
index-gated_by true row = refl
index-gated_by false row = refl

pub index-gated : (index : ℕ) (row : FlightRow) → (gated_row index row).index ≡ row.index
index-gated index row = index-gated_by (eqb row.index index) row

abbrev index_of : FlightRow → ℕ
index_of row = row.index

pub placed_rises : (index : ℕ) (rows : List FlightRow) → FlightRises rows → FlightRises (placed index rows)
placed_rises index rows h = rising-map index_of index_of (placed_row index) (index-placed index) rows h

pub gated_rises : (index : ℕ) (rows : List FlightRow) → FlightRises rows → FlightRises (gated index rows)
gated_rises index rows h = rising-map index_of index_of (gated_row index) (index-gated index) rows h

pub settled_rises : (rows : List FlightRow) → FlightRises rows → FlightRises (synced_flight rows)
settled_rises rows h =
    let p : FlightRow → Bool = λ row. not (is_gated row.stage) in
    rising-map index_of index_of synced_row (λ row. refl) (filter p rows) (AllPairs-filter (λ (a b : FlightRow). a.index < b.index) p rows h)

-- ---- look-ups after a change

-- each row is the one of its index
pub row_at : (rows : List FlightRow) → FlightRises rows → All (λ row. flight_row row.index rows ≡ Some row) rows
row_at [] h = All-nil (λ (row : FlightRow). flight_row row.index [] ≡ Some row)
row_at (row ∷ rows) h =
    let R : FlightRow → FlightRow → Type 0 = λ a b. a.index < b.index in
    let above = pairs_head R row rows h in
    let rest = row_at rows (pairs_tail R row rows h) in
    All-cons (λ (r : FlightRow). flight_row r.index (row ∷ rows) ≡ Some r) row rows (ap (λ b. cond b (Some row) (flight_row row.index rows)) (eq-eqb row.index row.index refl))
    (λ k d inside. let past : row.index < (get_or rows k d).index = above k d inside in ap (λ b. cond b (Some row) (flight_row (get_or rows k d).index rows)) (ne_eqb row.index (get_or rows k d).index (λ e. absurd (omega arith))) ∙ rest k d inside)

pub row_absent : (index : ℕ) (rows : List FlightRow) → All (λ row. eqb row.index index ≡ false) rows → flight_row index rows ≡ None
row_absent index [] h = refl
row_absent index (row ∷ rows) h =
    let P : FlightRow → Type 0 = λ r. eqb r.index index ≡ false in
    ap (λ b. cond b (Some row) (flight_row index rows)) (All-head P row rows h) ∙ row_absent index rows (All-tail P row rows h)

-- another index is found as before
pub row_fly : (q : ℕ) (new : FlightRow) (rows : List FlightRow) → eqb new.index q ≡ false → flight_row q (fly new rows) ≡ flight_row q rows
row_fly q new [] ne = ap (λ b. cond b (Some new) None) ne
row_fly q new (row ∷ rows) ne =
    cond_both (ltb new.index row.index) (new ∷ row ∷ rows) (row ∷ fly new rows) (λ (l : List FlightRow). flight_row q l ≡ flight_row q (row ∷ rows))
    (λ _. ap (λ b. cond b (Some new) (flight_row q (row ∷ rows))) ne)
    (λ _. ap (λ (o : Option FlightRow). cond (eqb row.index q) (Some row) o) (row_fly q new rows ne))

-- ---- how many leave at a sync

pub gated_leave : (rows : List FlightRow) → length (filter (λ (row : FlightRow). not (is_gated row.stage)) rows) + count_by (λ (row : FlightRow). is_gated row.stage) rows ≡ length rows
gated_leave rows = omega (arith, length-filter (λ (row : FlightRow). is_gated row.stage) rows, length-filter_both (λ (row : FlightRow). is_gated row.stage) (λ (row : FlightRow). not (is_gated row.stage)) (λ row. refl) rows)
