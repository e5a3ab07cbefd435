-- The place of a window's row, and of a row in flight.
use Rattle.std.proofs.Common.{◌≡◌, ℕ, zero, suc, ◌+◌, ◌-◌, ◌<◌, ◌≤◌, true, false, List, [], ◌∷◌, ◌++◌, length, get_or, set, take, drop, map, refl, ap, subst, arith, inl, inr}
use Rattle.std.proofs.lemmas.Bool.{cases_lt, lt-ltb, le-ltb}
use Rattle.std.proofs.lemmas.List.{get_or_default}
use Rattle.std.proofs.lemmas.List.Edits.{map_over_more}
use Rattle.std.proofs.lemmas.List.Sums.{sum_by-cons}
use Rattle.inc_model.specs.declared.words.event.Window.{Window}
use Rattle.inc_model.specs.declared.words.file_state.FlightRow.{FlightRow}
use Rattle.inc_model.specs.relation.State.{Claims, is_same, is_before, all_places, claim, spend, fly}
use Rattle.inc_model.specs.executed.Places.{with_at, IsClaimAt, IsClaimSlot, IsWindowAt, IsFlightSlot}

-- ---- a window's row, as a claim finds it

pub record ComesBefore (window : Window) (row : Window × ℕ) : Type 0 where
  pub not_after : is_before window row.0 ≡ false
  pub other : is_same window row.0 ≡ false

abbrev pub AllBefore : Claims → ℕ → Window → Type 0
AllBefore rows i window = (k : ℕ) (d : Window × ℕ) → k < i → ComesBefore window (get_or rows k d)

before_tail : (row : Window × ℕ) (rows : Claims) (i : ℕ) (window : Window) → AllBefore (row ∷ rows) (suc i) window → AllBefore rows i window
before_tail row rows i window h = λ k d lt. h (suc k) d (omega arith)

pub before_more : (rows : Claims) (i : ℕ) (window : Window) (d : Window × ℕ) → i < length rows → AllBefore rows i window → is_before window (get_or rows i d).0 ≡ false → is_same window (get_or rows i d).0 ≡ false → AllBefore rows (i + 1) window
before_more rows i window d lt h b s = λ k e below. elim (cases_lt k i) [
  | inl earlier ↦ h k e earlier
  | inr late ↦
      let is : i ≡ k = omega arith in
      let here : ComesBefore window (get_or rows i d) = record { not_after = b; other = s } in
      subst (λ (at : ℕ). ComesBefore window (get_or rows at e)) is (subst (ComesBefore window) (get_or_default rows i d e lt) here)
]

pub claim_at : (window : Window) (rows : Claims) (i : ℕ) (d : Window × ℕ) → i < length rows → AllBefore rows i window → is_before window (get_or rows i d).0 ≡ false → is_same window (get_or rows i d).0 ≡ true → IsClaimAt rows window i
claim_at window rows i d lt h b s = record { within = lt; grown = λ places e. step rows i lt h b s places e }
  where
    step : (rows : Claims) (i : ℕ) → i < length rows → AllBefore rows i window → is_before window (get_or rows i d).0 ≡ false → is_same window (get_or rows i d).0 ≡ true → (places : ℕ) (e : Window × ℕ) → claim window places rows ≡ set rows i ((get_or rows i e).0, (get_or rows i e).1 + places)
    step [] i lt h b s places e = absurd (omega arith)
    step (row ∷ rows) zero lt h b s places e = let b' : is_before window row.0 ≡ false = b in let s' : is_same window row.0 ≡ true = s in rw (b', s') refl
    step (row ∷ rows) (suc i) lt h b s places e = let first = h 0 row (omega arith) in rw (first.not_after, first.other) (ap (λ rest. row ∷ rest) (step rows i (omega arith) (before_tail row rows i window h) b s places e))

pub claim_slot : (window : Window) (rows : Claims) (i : ℕ) (d : Window × ℕ) → i < length rows → AllBefore rows i window → is_before window (get_or rows i d).0 ≡ true → IsClaimSlot rows window i
claim_slot window rows i d lt h b = record { within = (omega arith); put = λ places. step rows i lt h b places }
  where
    step : (rows : Claims) (i : ℕ) → i < length rows → AllBefore rows i window → is_before window (get_or rows i d).0 ≡ true → (places : ℕ) → claim window places rows ≡ with_at i (window, places) rows
    step [] i lt h b places = absurd (omega arith)
    step (row ∷ rows) zero lt h b places = let b' : is_before window row.0 ≡ true = b in rw b' refl
    step (row ∷ rows) (suc i) lt h b places = let first = h 0 row (omega arith) in rw (first.not_after, first.other) (ap (λ rest. row ∷ rest) (step rows i (omega arith) (before_tail row rows i window h) b places))

pub claim_last : (window : Window) (rows : Claims) (i : ℕ) → length rows ≤ i → AllBefore rows i window → IsClaimSlot rows window (length rows)
claim_last window rows i le h = record { within = (omega arith); put = λ places. step rows (length rows) refl (λ k d lt. h k d (omega arith)) places }
  where
    step : (rows : Claims) (i : ℕ) → i ≡ length rows → AllBefore rows i window → (places : ℕ) → claim window places rows ≡ with_at i (window, places) rows
    step [] zero e h places = refl
    step [] (suc i) e h places = absurd (omega arith)
    step (row ∷ rows) zero e h places = absurd (omega arith)
    step (row ∷ rows) (suc i) e h places = let first = h 0 row (omega arith) in rw (first.not_after, first.other) (ap (λ rest. row ∷ rest) (step rows i (omega arith) (before_tail row rows i window h) places))

-- ---- a window's first row

abbrev pub NoneSame : Claims → ℕ → Window → Type 0
NoneSame rows i window = (k : ℕ) (d : Window × ℕ) → k < i → is_same window (get_or rows k d).0 ≡ false

pub window_at : (window : Window) (rows : Claims) (i : ℕ) (d : Window × ℕ) → i < length rows → NoneSame rows i window → is_same window (get_or rows i d).0 ≡ true → IsWindowAt rows window i
window_at window rows i d lt h s = record { within = lt; spent = λ e. step rows i lt h s e }
  where
    step : (rows : Claims) (i : ℕ) → i < length rows → NoneSame rows i window → is_same window (get_or rows i d).0 ≡ true → (e : Window × ℕ) → spend window rows ≡ set rows i ((get_or rows i e).0, (get_or rows i e).1 - 1)
    step [] i lt h s e = absurd (omega arith)
    step (row ∷ rows) zero lt h s e = let s' : is_same window row.0 ≡ true = s in rw s' refl
    step (row ∷ rows) (suc i) lt h s e = rw (h 0 row (omega arith)) (ap (λ rest. row ∷ rest) (step rows i (omega arith) (λ k d below. h (suc k) d (omega arith)) s e))

pub no_window : (window : Window) (rows : Claims) (i : ℕ) → length rows ≤ i → NoneSame rows i window → spend window rows ≡ rows
no_window window [] i le h = refl
no_window window (row ∷ rows) zero le h = absurd (omega arith)
no_window window (row ∷ rows) (suc i) le h = rw (h 0 row (omega arith)) (ap (λ rest. row ∷ rest) (no_window window rows i (omega arith) (λ k d below. h (suc k) d (omega arith))))

-- ---- sums of places

pub places_at : (rows : Claims) (i : ℕ) (d : Window × ℕ) → i < length rows → (get_or rows i d).1 ≤ all_places rows
places_at [] i d lt = absurd (omega arith)
places_at (row ∷ rows) zero d lt = let e = sum_by-cons (λ (r : Window × ℕ). r.1) row rows in omega arith
places_at (row ∷ rows) (suc i) d lt = let e = sum_by-cons (λ (r : Window × ℕ). r.1) row rows in let le = places_at rows i d (omega arith) in omega arith

pub places_next : (rows : Claims) (i : ℕ) (d : Window × ℕ) → i < length rows → all_places (drop i rows) ≡ (get_or rows i d).1 + all_places (drop (suc i) rows)
places_next [] i d lt = absurd (omega arith)
places_next (row ∷ rows) zero d lt = sum_by-cons (λ (r : Window × ℕ). r.1) row rows
places_next (row ∷ rows) (suc i) d lt = places_next rows i d (omega arith)

-- ---- a row in flight

abbrev pub NoneAbove : List FlightRow → ℕ → FlightRow → Type 0
NoneAbove rows i row = (k : ℕ) (d : FlightRow) → k < i → (get_or rows k d).index ≤ row.index

pub flight_slot : (new : FlightRow) (rows : List FlightRow) (i : ℕ) (d : FlightRow) → i < length rows → NoneAbove rows i new → new.index < (get_or rows i d).index → IsFlightSlot rows new i
flight_slot new rows i d lt h above = record { within = (omega arith); put = step rows i lt h above }
  where
    step : (rows : List FlightRow) (i : ℕ) → i < length rows → NoneAbove rows i new → new.index < (get_or rows i d).index → fly new rows ≡ with_at i new rows
    step [] i lt h above = absurd (omega arith)
    step (row ∷ rows) zero lt h above = let a : new.index < row.index = above in rw (lt-ltb new.index row.index a) refl
    step (row ∷ rows) (suc i) lt h above = rw (le-ltb new.index row.index (h 0 row (omega arith))) (ap (λ rest. row ∷ rest) (step rows i (omega arith) (λ k d below. h (suc k) d (omega arith)) above))

pub flight_last : (new : FlightRow) (rows : List FlightRow) (i : ℕ) → length rows ≤ i → NoneAbove rows i new → IsFlightSlot rows new (length rows)
flight_last new rows i le h = record { within = (omega arith); put = step rows (length rows) refl (λ k d lt. h k d (omega arith)) }
  where
    step : (rows : List FlightRow) (i : ℕ) → i ≡ length rows → NoneAbove rows i new → fly new rows ≡ with_at i new rows
    step [] zero e h = refl
    step [] (suc i) e h = absurd (omega arith)
    step (row ∷ rows) zero e h = absurd (omega arith)
    step (row ∷ rows) (suc i) e h = rw (le-ltb new.index row.index (h 0 row (omega arith))) (ap (λ rest. row ∷ rest) (step rows i (omega arith) (λ k d below. h (suc k) d (omega arith))))

-- ---- a loop that changes each row, one row further

pub map_more : {X : Type 0} (f : X → X) (xs ys : List X) (i : ℕ) (d : X) → i < length xs → i < length ys → ys ≡ map f (take i xs) ++ drop i xs → set ys i (f (get_or ys i d)) ≡ map f (take (i + 1) xs) ++ drop (i + 1) xs
map_more f xs ys i d lt lt' e = map_over_more f xs ys i (get_or ys i d) lt e (get_or_default ys i d (get_or ys i d) lt')
