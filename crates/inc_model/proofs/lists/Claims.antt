-- The windows' claimed places after a claim, a use and a release.
use Rattle.std.proofs.Common.{◌≡◌, ℕ, ◌+◌, ◌-◌, ◌≤◌, Bool, true, false, not, cond, eqb, [], ◌∷◌, get_or, refl, sym, ap, ◌∙◌, arith}
use Rattle.std.specs.Prelude.{All}
use Rattle.std.proofs.lemmas.Bool.{cond_both, eqb-true, eqb-false, and_parts}
use Rattle.std.proofs.lemmas.Bool.Decides.{nat_tests}
use Rattle.std.proofs.lemmas.List.Elements.{All-nil, All-cons, All-head, All-tail}
use Rattle.std.proofs.lemmas.List.Kept.{AllPairs-cons, AllPairs-filter}
use Rattle.std.proofs.lemmas.List.Sums.{sum_by-cons}
use Rattle.inc_model.specs.declared.words.event.Window.{Window}
use Rattle.inc_model.specs.relation.State.{Claims, is_same, is_before, places_left, all_places, claim, spend, unclaim, WindowsRise}
use Rattle.inc_model.proofs.lists.Sets.{pairs_head, pairs_tail}

-- ---- the order of windows

pub before_chain : (a b c : Window) → is_before a b ≡ true → is_before b c ≡ true → is_before a c ≡ true
before_chain a b c p q = grind (arith, nat_tests)

pub before_or : (a b : Window) → is_before a b ≡ false → is_same a b ≡ false → is_before b a ≡ true
before_or a b p q = grind (arith, nat_tests)

abbrev named : ℕ → ℕ → Window
named who count = record { who = who; count = count }

pub same_is : (a b : Window) → is_same a b ≡ true → a ≡ b
same_is a b e = let parts = and_parts _ _ e in ap (λ who. named who a.count) (eqb-true a.who b.who parts.0) ∙ ap (named b.who) (eqb-true a.count b.count parts.1)

abbrev Before : Window × ℕ → Window × ℕ → Type 0
Before earlier later = is_before earlier.0 later.0 ≡ true

-- ---- a claim

claim_all : (P : Window → Type 0) (window : Window) (places : ℕ) (rows : Claims) → P window → All (λ row. P row.0) rows → All (λ row. P row.0) (claim window places rows)
claim_all P window places [] p h = All-cons (λ (row : Window × ℕ). P row.0) (window, places) [] p h
claim_all P window places (row ∷ rows) p h =
    let Q : Window × ℕ → Type 0 = λ r. P r.0 in
    let first = All-head Q row rows h in
    let rest = All-tail Q row rows h in
    cond_both (is_before window row.0) ((window, places) ∷ row ∷ rows) (cond (is_same window row.0) ((row.0, row.1 + places) ∷ rows) (row ∷ claim window places rows)) (All Q) (λ _. All-cons Q (window, places) (row ∷ rows) p h)
    (λ _. cond_both (is_same window row.0) ((row.0, row.1 + places) ∷ rows) (row ∷ claim window places rows) (All Q) (λ _. All-cons Q (row.0, row.1 + places) rows first rest) (λ _. All-cons Q row (claim window places rows) first (claim_all P window places rows p rest)))

pub claim_rises : (window : Window) (places : ℕ) (rows : Claims) → WindowsRise rows → WindowsRise (claim window places rows)
claim_rises window places [] h = AllPairs-cons Before (window, places) [] (All-nil (Before (window, places))) h
claim_rises window places (row ∷ rows) h =
    let above = pairs_head Before row rows h in
    let rest = pairs_tail Before row rows h in
    cond_both (is_before window row.0) ((window, places) ∷ row ∷ rows) (cond (is_same window row.0) ((row.0, row.1 + places) ∷ rows) (row ∷ claim window places rows)) WindowsRise
    (λ t. AllPairs-cons Before (window, places) (row ∷ rows) (All-cons (Before (window, places)) row rows t (λ k d inside. before_chain window row.0 (get_or rows k d).0 t (above k d inside))) h)
    (λ f. cond_both (is_same window row.0) ((row.0, row.1 + places) ∷ rows) (row ∷ claim window places rows) WindowsRise
    (λ _. AllPairs-cons Before (row.0, row.1 + places) rows above rest)
    (λ ne. AllPairs-cons Before row (claim window places rows) (claim_all (λ other. is_before row.0 other ≡ true) window places rows (before_or window row.0 f ne) above) (claim_rises window places rows rest)))

pub claim_places : (window : Window) (places : ℕ) (rows : Claims) → all_places (claim window places rows) ≡ all_places rows + places
claim_places window places [] = omega arith
claim_places window places (row ∷ rows) =
    let P : Claims → Type 0 = λ xs. all_places xs ≡ all_places (row ∷ rows) + places in
    let sum = sum_by-cons (λ (r : Window × ℕ). r.1) in
    let e = sum row rows in
    cond_both (is_before window row.0) ((window, places) ∷ row ∷ rows) (cond (is_same window row.0) ((row.0, row.1 + places) ∷ rows) (row ∷ claim window places rows)) P
    (λ _. let s = sum (window, places) (row ∷ rows) in omega arith)
    (λ _. cond_both (is_same window row.0) ((row.0, row.1 + places) ∷ rows) (row ∷ claim window places rows) P
    (λ _. let s = sum (row.0, row.1 + places) rows in omega arith)
    (λ _. let s = sum row (claim window places rows) in let more = claim_places window places rows in omega arith))

-- ---- a place that is used

spend_all : (P : Window → Type 0) (window : Window) (rows : Claims) → All (λ row. P row.0) rows → All (λ row. P row.0) (spend window rows)
spend_all P window [] h = h
spend_all P window (row ∷ rows) h =
    let Q : Window × ℕ → Type 0 = λ r. P r.0 in
    let first = All-head Q row rows h in
    let rest = All-tail Q row rows h in
    cond_both (is_same window row.0) ((row.0, row.1 - 1) ∷ rows) (row ∷ spend window rows) (All Q) (λ _. All-cons Q (row.0, row.1 - 1) rows first rest) (λ _. All-cons Q row (spend window rows) first (spend_all P window rows rest))

pub spend_rises : (window : Window) (rows : Claims) → WindowsRise rows → WindowsRise (spend window rows)
spend_rises window [] h = h
spend_rises window (row ∷ rows) h =
    let above = pairs_head Before row rows h in
    let rest = pairs_tail Before row rows h in
    cond_both (is_same window row.0) ((row.0, row.1 - 1) ∷ rows) (row ∷ spend window rows) WindowsRise
    (λ _. AllPairs-cons Before (row.0, row.1 - 1) rows above rest)
    (λ _. AllPairs-cons Before row (spend window rows) (spend_all (λ other. is_before row.0 other ≡ true) window rows above) (spend_rises window rows rest))

-- one place fewer where the window had some, and else none
pub spend_places : (window : Window) (rows : Claims) → all_places (spend window rows) + cond (eqb (places_left window rows) 0) 0 1 ≡ all_places rows
spend_places window [] = refl
spend_places window (row ∷ rows) = step (spend_places window rows) (is_same window row.0) (eqb row.1 0) refl
  where
    sum : (r : Window × ℕ) (rs : Claims) → all_places (r ∷ rs) ≡ r.1 + all_places rs
    sum r rs = sum_by-cons (λ (x : Window × ℕ). x.1) r rs

    step : all_places (spend window rows) + cond (eqb (places_left window rows) 0) 0 1 ≡ all_places rows → (b z : Bool) → eqb row.1 0 ≡ z → all_places (cond b ((row.0, row.1 - 1) ∷ rows) (row ∷ spend window rows)) + cond (eqb (cond b row.1 (places_left window rows)) 0) 0 1 ≡ all_places (row ∷ rows)
    step rest true true z = let none = eqb-true row.1 0 z in let a = sum (row.0, row.1 - 1) rows in let b = sum row rows in rw z (omega arith)
    step rest true false z = let some = eqb-false row.1 0 z in let a = sum (row.0, row.1 - 1) rows in let b = sum row rows in rw z (omega arith)
    step rest false z e = let a = sum row (spend window rows) in let b = sum row rows in omega arith

-- ---- a release

pub unclaim_rises : (window : Window) (rows : Claims) → WindowsRise rows → WindowsRise (unclaim window rows)
unclaim_rises window rows h = AllPairs-filter Before (λ (row : Window × ℕ). not (is_same window row.0)) rows h

-- the released window's places are free again
pub unclaim_places : (window : Window) (rows : Claims) → all_places (unclaim window rows) + places_left window rows ≤ all_places rows
unclaim_places window [] = omega arith
unclaim_places window (row ∷ rows) = step (unclaim_places window rows) (is_same window row.0)
  where
    sum : (r : Window × ℕ) (rs : Claims) → all_places (r ∷ rs) ≡ r.1 + all_places rs
    sum r rs = sum_by-cons (λ (x : Window × ℕ). x.1) r rs

    step : all_places (unclaim window rows) + places_left window rows ≤ all_places rows → (b : Bool) → all_places (cond (not b) (row ∷ unclaim window rows) (unclaim window rows)) + cond b row.1 (places_left window rows) ≤ all_places (row ∷ rows)
    step rest true = let e = sum row rows in omega arith
    step rest false = let e = sum row rows in let f = sum row (unclaim window rows) in omega arith

-- ---- the places of one window

pub claim_other : (other window : Window) (places : ℕ) (rows : Claims) → is_same other window ≡ false → places_left other (claim window places rows) ≡ places_left other rows
claim_other other window places [] ne = ap (λ (b : Bool). cond b places 0) ne
claim_other other window places (row ∷ rows) ne =
    let P : Claims → Type 0 = λ xs. places_left other xs ≡ places_left other (row ∷ rows) in
    cond_both (is_before window row.0) ((window, places) ∷ row ∷ rows) (cond (is_same window row.0) ((row.0, row.1 + places) ∷ rows) (row ∷ claim window places rows)) P
    (λ _. ap (λ (b : Bool). cond b places (places_left other (row ∷ rows))) ne)
    (λ _. cond_both (is_same window row.0) ((row.0, row.1 + places) ∷ rows) (row ∷ claim window places rows) P
    (λ t. let apart : is_same other row.0 ≡ false = ap (is_same other) (sym (same_is window row.0 t)) ∙ ne in ap (λ (b : Bool). cond b (row.1 + places) (places_left other rows)) apart ∙ sym (ap (λ (b : Bool). cond b row.1 (places_left other rows)) apart))
    (λ _. ap (λ (rest : ℕ). cond (is_same other row.0) row.1 rest) (claim_other other window places rows ne)))

pub spend_other : (other window : Window) (rows : Claims) → is_same other window ≡ false → places_left other (spend window rows) ≡ places_left other rows
spend_other other window [] ne = refl
spend_other other window (row ∷ rows) ne =
    let P : Claims → Type 0 = λ xs. places_left other xs ≡ places_left other (row ∷ rows) in
    cond_both (is_same window row.0) ((row.0, row.1 - 1) ∷ rows) (row ∷ spend window rows) P
    (λ t. let apart : is_same other row.0 ≡ false = ap (is_same other) (sym (same_is window row.0 t)) ∙ ne in ap (λ (b : Bool). cond b (row.1 - 1) (places_left other rows)) apart ∙ sym (ap (λ (b : Bool). cond b row.1 (places_left other rows)) apart))
    (λ _. ap (λ (rest : ℕ). cond (is_same other row.0) row.1 rest) (spend_other other window rows ne))

pub unclaim_other : (other window : Window) (rows : Claims) → is_same other window ≡ false → places_left other (unclaim window rows) ≡ places_left other rows
unclaim_other other window [] ne = refl
unclaim_other other window (row ∷ rows) ne = step (unclaim_other other window rows ne) (is_same window row.0) refl
  where
    step : places_left other (unclaim window rows) ≡ places_left other rows → (b : Bool) → is_same window row.0 ≡ b → places_left other (cond (not b) (row ∷ unclaim window rows) (unclaim window rows)) ≡ places_left other (row ∷ rows)
    step rest true t = let apart : is_same other row.0 ≡ false = ap (is_same other) (sym (same_is window row.0 t)) ∙ ne in rest ∙ sym (ap (λ (b : Bool). cond b row.1 (places_left other rows)) apart)
    step rest false t = ap (λ (n : ℕ). cond (is_same other row.0) row.1 n) rest

pub spend_own : (window : Window) (rows : Claims) → places_left window (spend window rows) ≡ places_left window rows - 1
spend_own window [] = refl
spend_own window (row ∷ rows) = step (spend_own window rows) (is_same window row.0) refl
  where
    step : places_left window (spend window rows) ≡ places_left window rows - 1 → (b : Bool) → is_same window row.0 ≡ b → places_left window (cond b ((row.0, row.1 - 1) ∷ rows) (row ∷ spend window rows)) ≡ cond b row.1 (places_left window rows) - 1
    step rest true t = ap (λ (b : Bool). cond b (row.1 - 1) (places_left window rows)) t
    step rest false t = ap (λ (b : Bool). cond b row.1 (places_left window (spend window rows))) t ∙ rest

pub unclaim_own : (window : Window) (rows : Claims) → places_left window (unclaim window rows) ≡ 0
unclaim_own window [] = refl
unclaim_own window (row ∷ rows) = step (unclaim_own window rows) (is_same window row.0) refl
  where
    step : places_left window (unclaim window rows) ≡ 0 → (b : Bool) → is_same window row.0 ≡ b → places_left window (cond (not b) (row ∷ unclaim window rows) (unclaim window rows)) ≡ 0
    step rest true t = rest
    step rest false t = ap (λ (b : Bool). cond b row.1 (places_left window (unclaim window rows))) t ∙ rest

before_apart : (a b : Window) → is_before a b ≡ true → is_same a b ≡ false
before_apart a b t = grind (arith, nat_tests)

-- a window before all rows has no places
none_of : (window : Window) (rows : Claims) → All (λ row. is_before window row.0 ≡ true) rows → places_left window rows ≡ 0
none_of window [] h = refl
none_of window (row ∷ rows) h =
    let P : Window × ℕ → Type 0 = λ r. is_before window r.0 ≡ true in
    ap (λ (b : Bool). cond b row.1 (places_left window rows)) (before_apart window row.0 (All-head P row rows h)) ∙ none_of window rows (All-tail P row rows h)

same_self : (window : Window) → is_same window window ≡ true
same_self window = grind (arith, nat_tests)

pub claim_own : (window : Window) (places : ℕ) (rows : Claims) → WindowsRise rows → places_left window (claim window places rows) ≡ places_left window rows + places
claim_own window places [] rise = ap (λ (b : Bool). cond b places 0) (same_self window) ∙ omega arith
claim_own window places (row ∷ rows) rise =
    let P : Claims → Type 0 = λ xs. places_left window xs ≡ places_left window (row ∷ rows) + places in
    let above = pairs_head Before row rows rise in
    let rest = pairs_tail Before row rows rise in
    cond_both (is_before window row.0) ((window, places) ∷ row ∷ rows) (cond (is_same window row.0) ((row.0, row.1 + places) ∷ rows) (row ∷ claim window places rows)) P
    (λ t.
    let none : places_left window (row ∷ rows) ≡ 0 = none_of window (row ∷ rows) (All-cons (λ (r : Window × ℕ). is_before window r.0 ≡ true) row rows t (λ k d lt. before_chain window row.0 (get_or rows k d).0 t (above k d lt))) in
    ap (λ (b : Bool). cond b places (places_left window (row ∷ rows))) (same_self window) ∙ omega arith)
    (λ _. cond_both (is_same window row.0) ((row.0, row.1 + places) ∷ rows) (row ∷ claim window places rows) P
    (λ t. ap (λ (b : Bool). cond b (row.1 + places) (places_left window rows)) t ∙ sym (ap (λ (b : Bool). cond b row.1 (places_left window rows) + places) t))
    (λ f. ap (λ (b : Bool). cond b row.1 (places_left window (claim window places rows))) f ∙ claim_own window places rows rest ∙ sym (ap (λ (b : Bool). cond b row.1 (places_left window rows) + places) f)))
