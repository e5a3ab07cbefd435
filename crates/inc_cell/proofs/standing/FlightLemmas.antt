-- The row of an index after each change of the flight, and who is acknowledged after a sync.
use Rattle.std.proofs.Common.{◌≡◌, ℕ, ◌<◌, Bool, true, false, not, ◌||◌, cond, eqb, ltb, List, [], ◌∷◌, get_or, Option, Some, None, refl, sym, ap, ◌∙◌, arith}
use Rattle.std.specs.Prelude.{filter, map, option_map}
use Rattle.std.proofs.lemmas.Bool.{eqb-true, eq-eqb, ne_eqb, cond_both, or_right}
use Rattle.std.proofs.lemmas.List.Elements.{All-head, All-tail}
use Rattle.inc_model.specs.relation.State.{FlightRises, flight_row, fly, has, land, with_index, is_same}
use Rattle.inc_model.specs.relation.Stages.{acknowledge, gated, gated_row, is_gated, placed, placed_row, synced_flight, synced_row}
use Rattle.inc_model.specs.declared.words.event.Window.{Window}
use Rattle.inc_model.specs.declared.words.file_state.FlightRow.{FlightRow}
use Rattle.inc_model.proofs.lists.Finds.{find_passes}
use Rattle.inc_model.proofs.lists.Flight.{index-gated, index-placed, row_absent, row_none}
use Rattle.inc_model.proofs.lists.Sets.{has_add, pairs_head, pairs_tail}

-- ---- one more row

pub row_new : (new : FlightRow) (rows : List FlightRow) → flight_row new.index rows ≡ None → flight_row new.index (fly new rows) ≡ Some new
row_new new [] e = ap (λ b. cond b (Some new) None) (eq-eqb new.index new.index refl)
row_new new (row ∷ rows) e =
    let P : FlightRow → Type 0 = λ r. eqb r.index new.index ≡ false in
    let none = row_none new.index (row ∷ rows) e in
    let rest = row_new new rows (row_absent new.index rows (All-tail P row rows none)) in
    cond_both (ltb new.index row.index) (new ∷ row ∷ rows) (row ∷ fly new rows) (λ (l : List FlightRow). flight_row new.index l ≡ Some new)
    (λ _. ap (λ b. cond b (Some new) (flight_row new.index (row ∷ rows))) (eq-eqb new.index new.index refl))
    (λ _. ap (λ b. cond b (Some row) (flight_row new.index (fly new rows))) (All-head P row rows none) ∙ rest)

-- a row that is found has the index
pub row_index : (i : ℕ) (rows : List FlightRow) (found : FlightRow) → flight_row i rows ≡ Some found → found.index ≡ i
row_index i rows found e = eqb-true found.index i (find_passes (λ (row : FlightRow). eqb row.index i) rows found e)

-- ---- a change of rows that keeps their indices

pub row_map : (f : FlightRow → FlightRow) → ((row : FlightRow) → (f row).index ≡ row.index) → (i : ℕ) (rows : List FlightRow) → flight_row i (map f rows) ≡ option_map f (flight_row i rows)
row_map f keeps i [] = refl
row_map f keeps i (row ∷ rows) = ap (λ n. cond (eqb n i) (Some (f row)) (flight_row i (map f rows))) (keeps row) ∙ step (eqb row.index i) (row_map f keeps i rows)
  where
    step : (b : Bool) → flight_row i (map f rows) ≡ option_map f (flight_row i rows) → cond b (Some (f row)) (flight_row i (map f rows)) ≡ option_map f (cond b (Some row) (flight_row i rows))
    step true rest = refl
    step false rest = rest

pub row_placed : (j i : ℕ) (rows : List FlightRow) → flight_row i (placed j rows) ≡ option_map (placed_row j) (flight_row i rows)
row_placed j i rows = row_map (placed_row j) (index-placed j) i rows

pub row_gated : (j i : ℕ) (rows : List FlightRow) → flight_row i (gated j rows) ≡ option_map (gated_row j) (flight_row i rows)
row_gated j i rows = row_map (gated_row j) (index-gated j) i rows

-- ---- rows that leave

abbrev pub kept_row : (FlightRow → Bool) → Option FlightRow → Option FlightRow
kept_row p None = None
kept_row p (Some row) = cond (p row) (Some row) None

pub row_filter : (p : FlightRow → Bool) (i : ℕ) (rows : List FlightRow) → FlightRises rows → flight_row i (filter p rows) ≡ kept_row p (flight_row i rows)
row_filter p i [] h = refl
row_filter p i (row ∷ rows) h = step (row_filter p i rows (pairs_tail (λ (a b : FlightRow). a.index < b.index) row rows h)) (p row) refl (eqb row.index i) refl
  where
    alone : eqb row.index i ≡ true → flight_row i rows ≡ None
    alone t =
        let e = eqb-true row.index i t in
        let above = pairs_head (λ (a b : FlightRow). a.index < b.index) row rows h in
        row_absent i rows (λ k d lt. let past : row.index < (get_or rows k d).index = above k d lt in ne_eqb (get_or rows k d).index i (λ same. absurd (omega arith)))

    step : flight_row i (filter p rows) ≡ kept_row p (flight_row i rows) → (b : Bool) → p row ≡ b → (c : Bool) → eqb row.index i ≡ c
        → flight_row i (cond b (row ∷ filter p rows) (filter p rows)) ≡ kept_row p (cond c (Some row) (flight_row i rows))
    step rest true passes true t = ap (λ c. cond c (Some row) (flight_row i (filter p rows))) t ∙ sym (ap (λ b. cond b (Some row) None) passes)
    step rest true passes false t = ap (λ c. cond c (Some row) (flight_row i (filter p rows))) t ∙ rest
    step rest false fails true t = rest ∙ ap (kept_row p) (alone t) ∙ sym (ap (λ b. cond b (Some row) None) fails)
    step rest false fails false t = rest

-- the rows of the other windows
abbrev pub is_others : Window → FlightRow → Bool
is_others window row = not (is_same window row.window)

pub row_land : (window : Window) (i : ℕ) (rows : List FlightRow) → FlightRises rows → flight_row i (land window rows) ≡ kept_row (is_others window) (flight_row i rows)
row_land window i rows h = row_filter (is_others window) i rows h

abbrev pub is_ungated : FlightRow → Bool
is_ungated row = not (is_gated row.stage)

pub row_synced : (i : ℕ) (rows : List FlightRow) → FlightRises rows → flight_row i (synced_flight rows) ≡ option_map synced_row (kept_row is_ungated (flight_row i rows))
row_synced i rows h = row_map synced_row (λ row. refl) i (filter is_ungated rows) ∙ ap (option_map synced_row) (row_filter is_ungated i rows h)

-- ---- who is acknowledged

abbrev pub is_gated_in : Option FlightRow → Bool
is_gated_in None = false
is_gated_in (Some row) = is_gated row.stage

pub acknowledged_at : (q : ℕ) (rows : List FlightRow) (indices : List ℕ) → FlightRises rows → has q (acknowledge rows indices) ≡ (has q indices || is_gated_in (flight_row q rows))
acknowledged_at q [] indices h = none (has q indices)
  where
    none : (b : Bool) → b ≡ (b || false)
    none true = refl
    none false = refl
acknowledged_at q (row ∷ rows) indices h =
    step (λ others. acknowledged_at q rows others (pairs_tail (λ (a b : FlightRow). a.index < b.index) row rows h)) (is_gated row.stage) refl (eqb q row.index) refl
  where
    turned : (a b : ℕ) (c : Bool) → eqb a b ≡ c → eqb b a ≡ c
    turned a b true t = eq-eqb b a (sym (eqb-true a b t))
    turned a b false t = ne_eqb b a (λ e. absurd (let other = eq-eqb a b (sym e) in cc))

    alone : eqb q row.index ≡ true → flight_row q rows ≡ None
    alone t =
        let e = eqb-true q row.index t in
        let above = pairs_head (λ (a b : FlightRow). a.index < b.index) row rows h in
        row_absent q rows (λ k d lt. let past : row.index < (get_or rows k d).index = above k d lt in ne_eqb (get_or rows k d).index q (λ same. absurd (omega arith)))

    -- the row is found first where it has the index
    first : (c : Bool) → eqb q row.index ≡ c → flight_row q (row ∷ rows) ≡ cond c (Some row) (flight_row q rows)
    first c t = ap (λ b. cond b (Some row) (flight_row q rows)) (turned q row.index c t)

    step : ((others : List ℕ) → has q (acknowledge rows others) ≡ (has q others || is_gated_in (flight_row q rows))) → (g : Bool) → is_gated row.stage ≡ g → (c : Bool) → eqb q row.index ≡ c
        → has q (acknowledge rows (cond g (with_index row.index indices) indices)) ≡ (has q indices || is_gated_in (flight_row q (row ∷ rows)))
    step rest true g true t =
        rest (with_index row.index indices) ∙ ap (λ b. b || is_gated_in (flight_row q rows)) (has_add q row.index indices ∙ ap (λ b. b || has q indices) t)
        ∙ sym (ap (λ o. has q indices || is_gated_in o) (first true t) ∙ or_right (has q indices) (is_gated row.stage) g)
    step rest true g false t =
        rest (with_index row.index indices) ∙ ap (λ b. b || is_gated_in (flight_row q rows)) (has_add q row.index indices ∙ ap (λ b. b || has q indices) t)
        ∙ sym (ap (λ o. has q indices || is_gated_in o) (first false t))
    step rest false g true t =
        rest indices ∙ ap (λ o. has q indices || is_gated_in o) (alone t)
        ∙ sym (ap (λ o. has q indices || is_gated_in o) (first true t) ∙ ap (λ b. has q indices || b) g)
    step rest false g false t = rest indices ∙ sym (ap (λ o. has q indices || is_gated_in o) (first false t))
