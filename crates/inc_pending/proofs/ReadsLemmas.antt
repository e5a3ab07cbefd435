-- One read among the rows: where it stands, and the list without it.
use Rattle.std.proofs.Common.{◌≡◌, ℕ, zero, suc, ◌+◌, ◌-◌, ◌<◌, ◌≤◌, Bool, true, false, not, cond, leb, List, [], ◌∷◌, ◌++◌, length, get_or, set, take, drop, map, Option, Some, None, refl, sym, ap, subst, ◌∙◌, add-zero, arith, inl, inr}
use Rattle.std.specs.Prelude.{All, filter, find, position, remove, count_by}
use mir.Val.{bool_byte}
use Rattle.std.specs.List.{position_or_len}
use Rattle.std.proofs.lemmas.Bool.{cases_lt, lt-ltb, eqb-true, eq-eqb, ne_eqb, and_parts, and_from, leb-true, leb-false, le-leb, lt-leb, false_from_ne_true}
use Rattle.std.proofs.lemmas.List.{get_or-drop, get_or-append_right, get_or_default, length-drop, length-map, length-take}
use Rattle.std.proofs.lemmas.List.Edits.{map_over_more}
use Rattle.std.proofs.lemmas.List.Sums.{fails_before_first, count_by_more_yes, count_by_more_no}
use Rattle.std.proofs.lemmas.List.Elements.{All-head, All-tail}
use Rattle.std.proofs.lemmas.List.Quantifiers.{position-Some}
use Rattle.inc_pending.specs.declared.reads.ReadRow.{ReadRow}
use Rattle.inc_pending.specs.declared.reads.Decision.{Decision}
use Rattle.inc_pending.specs.declared.reads.Decision.TheVariants.{Stranger, Hand, TimedOut, NotYet}
use Rattle.inc_pending.specs.Polling.{AreRising, IsAsked, is_asked, read_of, reads_but, decision, decision_of, IsAnswer, waits_on, marked}

-- ---- a test that passes at one place alone

module _ {X : Type 0} (p : X → Bool) where
  -- nothing passes
  abbrev pub NonePass : List X → Type 0
  NonePass xs = All (λ x. p x ≡ false) xs

  pub filter_none : (xs : List X) → NonePass xs → filter (λ x. not (p x)) xs ≡ xs
  filter_none [] h = refl
  filter_none (x ∷ xs) h = rw (All-head (λ y. p y ≡ false) x xs h) (ap (λ ys. x ∷ ys) (filter_none xs (All-tail (λ y. p y ≡ false) x xs h)))

  pub find_none : (xs : List X) → NonePass xs → find p xs ≡ None
  find_none [] h = refl
  find_none (x ∷ xs) h = rw (All-head (λ y. p y ≡ false) x xs h) (find_none xs (All-tail (λ y. p y ≡ false) x xs h))

  -- the first that passes stands at this place
  pub record IsFirst (xs : List X) (i : ℕ) (x : X) : Type 0 where
    pub within : i < length xs
    pub here : get_or xs i x ≡ x
    pub passes : p x ≡ true
    pub before : (k : ℕ) (d : X) → k < i → p (get_or xs k d) ≡ false

  first_tail : (y : X) (xs : List X) (i : ℕ) (x : X) → IsFirst (y ∷ xs) (suc i) x → IsFirst xs i x
  first_tail y xs i x h = record { within = omega (arith, h.within); here = h.here; passes = h.passes; before = λ k d lt. h.before (suc k) d (omega arith) }

  first_head : (y : X) (xs : List X) (i : ℕ) (x : X) → IsFirst (y ∷ xs) (suc i) x → p y ≡ false
  first_head y xs i x h = h.before 0 y (omega arith)

  pub find_first : (xs : List X) (i : ℕ) (x : X) → IsFirst xs i x → find p xs ≡ Some x
  find_first [] i x h = absurd (let lt = h.within in omega arith)
  find_first (y ∷ xs) zero x h = let e : y ≡ x = h.here in let t : p y ≡ true = ap p e ∙ h.passes in rw t (ap Some e)
  find_first (y ∷ xs) (suc i) x h = rw (first_head y xs i x h) (find_first xs i x (first_tail y xs i x h))

  -- without it, where none after it passes
  pub filter_first : (xs : List X) (i : ℕ) (x : X) → IsFirst xs i x → NonePass (drop (suc i) xs) → filter (λ y. not (p y)) xs ≡ remove xs i
  filter_first [] i x h after = absurd (let lt = h.within in omega arith)
  filter_first (y ∷ xs) zero x h after = let e : y ≡ x = h.here in let t : p y ≡ true = ap p e ∙ h.passes in rw t (filter_none xs after)
  filter_first (y ∷ xs) (suc i) x h after = rw (first_head y xs i x h) (ap (λ ys. y ∷ ys) (filter_first xs i x (first_tail y xs i x h) after))

-- ---- the read of an asker

is_asked-true : (who serial : ℕ) (row : ReadRow) → is_asked who serial row ≡ true → IsAsked who serial row
is_asked-true who serial row e = let parts = and_parts _ _ e in (eqb-true _ _ parts.0, eqb-true _ _ parts.1)

is_asked-false : (who serial : ℕ) (row : ReadRow) → is_asked who serial row ≡ false → IsAsked who serial row → ⊥
is_asked-false who serial row e h = let t = and_from _ _ (eq-eqb row.serial serial h.0) (eq-eqb row.who who h.1) in cc

other_serial : (who serial : ℕ) (row : ReadRow) → (row.serial ≡ serial → ⊥) → is_asked who serial row ≡ false
other_serial who serial row ne = rw (ne_eqb row.serial serial ne) refl

-- serials differ, so no later read is this one
none_after : (who serial : ℕ) (rows : List ReadRow) (i : ℕ) (row : ReadRow) → AreRising rows → IsFirst (is_asked who serial) rows i row → NonePass (is_asked who serial) (drop (suc i) rows)
none_after who serial rows i row rising h k d lt =
    let within = h.within in
    let inside : suc i + k < length rows = omega (arith, length-drop (suc i) rows) in
    let here : get_or rows i d ≡ row = get_or_default rows i d row within ∙ h.here in
    let is = is_asked-true who serial row h.passes in
    let above : (get_or rows i d).serial < (get_or rows (suc i + k) d).serial = rising i (suc i + k) d (omega arith) inside in
    let same : (get_or rows i d).serial ≡ serial = ap (λ (r : ReadRow). r.serial) here ∙ is.0 in
    rw get_or-drop (other_serial who serial (get_or rows (suc i + k) d) (λ e. absurd (omega arith)))

-- ---- what the place of the read tells

none_at : (who serial : ℕ) (rows : List ReadRow) → position (λ row. is_asked who serial row) rows ≡ None → NonePass (is_asked who serial) rows
none_at who serial rows e =
    let p = is_asked who serial in
    elim (cases_lt (position_or_len p rows) (length rows)) [
      | inl lt ↦ let some : position p rows ≡ Some (position_or_len p rows) = rw (lt-ltb _ _ lt) refl in absurd (cc)
      | inr le ↦ λ k d lt. fails_before_first p rows k d (omega arith)
    ]

first_at : (who serial : ℕ) (rows : List ReadRow) (at : ℕ) (row : ReadRow) → position (λ row. is_asked who serial row) rows ≡ Some at → row ≡ get_or rows at row → IsFirst (is_asked who serial) rows at row
first_at who serial rows at row e is =
    let told = position-Some (is_asked who serial) rows at row e in
    record {
      within = told.0;
      here = sym is;
      passes = ap (is_asked who serial) is ∙ told.1;
      before = λ k d lt. (position-Some (is_asked who serial) rows at d e).2 k lt;
    }

pub found_at : (who serial : ℕ) (rows : List ReadRow) (at : ℕ) (d : ReadRow) → position (λ row. is_asked who serial row) rows ≡ Some at → read_of who serial rows ≡ Some (get_or rows at d)
found_at who serial rows at d e =
    let within = (position-Some (is_asked who serial) rows at d e).0 in
    find_first (is_asked who serial) rows at (get_or rows at d) (first_at who serial rows at (get_or rows at d) e (get_or_default rows at d (get_or rows at d) within))

pub found_none : (who serial : ℕ) (rows : List ReadRow) → position (λ row. is_asked who serial row) rows ≡ None → read_of who serial rows ≡ None
found_none who serial rows e = find_none (is_asked who serial) rows (none_at who serial rows e)

pub but_at : (who serial : ℕ) (rows : List ReadRow) (at : ℕ) (row : ReadRow) → AreRising rows → position (λ row. is_asked who serial row) rows ≡ Some at → row ≡ get_or rows at row → reads_but who serial rows ≡ remove rows at
but_at who serial rows at row rising e is =
    let first = first_at who serial rows at row e is in
    filter_first (is_asked who serial) rows at row first (none_after who serial rows at row rising first)

pub but_none : (who serial : ℕ) (rows : List ReadRow) → position (λ row. is_asked who serial row) rows ≡ None → reads_but who serial rows ≡ rows
but_none who serial rows e = filter_none (is_asked who serial) rows (none_at who serial rows e)

-- ---- what an answer says

answer_by : (reads : List ReadRow) (who serial at i : ℕ) (row : ReadRow) → IsFirst (is_asked who serial) reads i row → (done floor deadline : Bool) → row.done ≡ done → leb row.floor at ≡ floor → leb row.deadline at ≡ deadline → IsAnswer reads who serial at (cond done (cond floor (Hand row.block) NotYet) (cond deadline (TimedOut row.deadline) NotYet))
answer_by reads who serial at i row h true true deadline d f l = (i, row, h.within, h.here, (is_asked-true who serial row h.passes, refl, d, leb-true _ _ f))
answer_by reads who serial at i row h true false deadline d f l = (i, row, h.within, h.here, (is_asked-true who serial row h.passes, inl (d, leb-false _ _ f)))
answer_by reads who serial at i row h false floor true d f l = (i, row, h.within, h.here, (is_asked-true who serial row h.passes, refl, d, leb-true _ _ l))
answer_by reads who serial at i row h false floor false d f l = (i, row, h.within, h.here, (is_asked-true who serial row h.passes, inr (d, leb-false _ _ l)))

answer_at : (who serial : ℕ) (rows : List ReadRow) (place : Option ℕ) (at : ℕ) → position (λ row. is_asked who serial row) rows ≡ place → (default : ReadRow) → IsAnswer rows who serial at (decision_of (read_of who serial rows) at)
answer_at who serial rows None at e default =
    let P : Option ReadRow → Type 0 = λ found. IsAnswer rows who serial at (decision_of found at) in
    let none = none_at who serial rows e in
    subst P (sym (found_none who serial rows e)) (λ k d lt. is_asked-false who serial (get_or rows k d) (none k d lt))
answer_at who serial rows (Some place) at e default =
    let P : Option ReadRow → Type 0 = λ found. IsAnswer rows who serial at (decision_of found at) in
    let told = position-Some (is_asked who serial) rows place default e in
    let row = get_or rows place default in
    let is : row ≡ get_or rows place row = get_or_default rows place default row told.0 in
    subst P (sym (found_at who serial rows place default e)) (answer_by rows who serial at place row (first_at who serial rows place row e is) _ _ _ refl refl refl)

pub answers : (rows : List ReadRow) (who serial at : ℕ) → IsAnswer rows who serial at (decision_of (read_of who serial rows) at)
answers rows who serial at = answer_at who serial rows (position (λ row. is_asked who serial row) rows) at refl (record { serial = 0; who = 0; block = 0; uid = 0; asked = 0; floor = 0; deadline = 0; done = false })

-- ---- no other answer would be right

-- serials differ, so the read that was found is the one with this serial
found_by : (who serial : ℕ) (rows : List ReadRow) (k : ℕ) (row : ReadRow) → AreRising rows → k < length rows → get_or rows k row ≡ row → IsAsked who serial row → read_of who serial rows ≡ Some row
found_by who serial rows k row rising lt here asked =
    find_first (is_asked who serial) rows k row (record {
      within = lt;
      here = here;
      passes = and_from _ _ (eq-eqb row.serial serial asked.0) (eq-eqb row.who who asked.1);
      before = λ j d lower.
          let same : (get_or rows k d).serial ≡ serial = ap (λ (r : ReadRow). r.serial) (get_or_default rows k d row lt ∙ here) ∙ asked.0 in
          let below : (get_or rows j d).serial < (get_or rows k d).serial = rising j k d lower lt in
          other_serial who serial (get_or rows j d) (λ e. absurd (omega arith));
    })

decision_here : (rows : List ReadRow) (who serial at k : ℕ) (row : ReadRow) (other : Decision) → AreRising rows → k < length rows → get_or rows k row ≡ row → IsAsked who serial row → other ≡ decision row at → other ≡ decision_of (read_of who serial rows) at
decision_here rows who serial at k row other rising lt here asked is = is ∙ sym (ap (λ found. decision_of found at) (found_by who serial rows k row rising lt here asked))

decision_handed : (row : ReadRow) (at : ℕ) → row.done ≡ true → row.floor ≤ at → decision row at ≡ Hand row.block
decision_handed row at done floor = rw (done, le-leb row.floor at floor) refl

decision_early : (row : ReadRow) (at : ℕ) → row.done ≡ true → at < row.floor → decision row at ≡ NotYet
decision_early row at done floor = rw (done, lt-leb row.floor at floor) refl

decision_late : (row : ReadRow) (at : ℕ) → row.done ≡ false → row.deadline ≤ at → decision row at ≡ TimedOut row.deadline
decision_late row at done deadline = rw (done, le-leb row.deadline at deadline) refl

decision_waits : (row : ReadRow) (at : ℕ) → row.done ≡ false → at < row.deadline → decision row at ≡ NotYet
decision_waits row at done deadline = rw (done, lt-leb row.deadline at deadline) refl

pub only_answer : (rows : List ReadRow) (who serial at : ℕ) → AreRising rows → (other : Decision) → IsAnswer rows who serial at other → other ≡ decision_of (read_of who serial rows) at
only_answer rows who serial at rising Stranger h =
    let none : NonePass (is_asked who serial) rows = λ k d lt. false_from_ne_true _ (λ yes. h k d lt (is_asked-true who serial (get_or rows k d) yes)) in
    sym (ap (λ found. decision_of found at) (find_none (is_asked who serial) rows none))
only_answer rows who serial at rising (Hand block) w =
    let row = w.1 in
    let f = w.4 in
    decision_here rows who serial at w.0 row (Hand block) rising w.2 w.3 f.0 (ap (λ (b : ℕ). Hand b) (sym f.1) ∙ sym (decision_handed row at f.2 f.3))
only_answer rows who serial at rising (TimedOut deadline) w =
    let row = w.1 in
    let f = w.4 in
    decision_here rows who serial at w.0 row (TimedOut deadline) rising w.2 w.3 f.0 (ap (λ (d : ℕ). TimedOut d) (sym f.1) ∙ sym (decision_late row at f.2 f.3))
only_answer rows who serial at rising NotYet w =
    let row = w.1 in
    let f = w.4 in
    decision_here rows who serial at w.0 row NotYet rising w.2 w.3 f.0 (elim f.1 [
      | inl early ↦ sym (decision_early row at early.0 early.1)
      | inr waits ↦ sym (decision_waits row at waits.0 waits.1)
    ])

-- ---- a loop that marks, one row further

same_rest : (f : ReadRow → ReadRow) (xs ys : List ReadRow) (i : ℕ) (d : ReadRow) → i < length xs → ys ≡ map f (take i xs) ++ drop i xs → get_or ys i d ≡ get_or xs i d
same_rest f xs ys i d lt e =
    let len : length (map f (take i xs)) ≡ i = omega (arith, length-map (take i xs) f, length-take i xs) in
    let gone : i - i ≡ 0 = omega arith in
    ap (λ zs. get_or zs i d) e ∙ get_or-append_right (map f (take i xs)) (drop i xs) i i d len (omega arith) ∙ get_or-drop i xs (i - i) d ∙ ap (λ n. get_or xs n d) (omega arith)

pub marked_more : (block : ℕ) (xs ys : List ReadRow) (i : ℕ) (d : ReadRow) → i < length xs → i < length ys → ys ≡ map (marked block) (take i xs) ++ drop i xs → set ys i (marked block (get_or ys i d)) ≡ map (marked block) (take (i + 1) xs) ++ drop (i + 1) xs
marked_more block xs ys i d lt lt' e = map_over_more (marked block) xs ys i (get_or ys i d) lt e (get_or_default ys i d (get_or ys i d) lt')

pub bool_byte-le : (b : Bool) → bool_byte b ≤ 1
bool_byte-le true = omega arith
bool_byte-le false = omega arith

count_step : (b : Bool) (p : ReadRow → Bool) (xs : List ReadRow) (i : ℕ) (d : ReadRow) → i < length xs → p (get_or xs i d) ≡ b → count_by p (take i xs) + bool_byte b ≡ count_by p (take (i + 1) xs)
count_step true p xs i d lt e = sym (count_by_more_yes p xs i d lt e)
count_step false p xs i d lt e = add-zero _ ∙ sym (count_by_more_no p xs i d lt e)

pub count_more : (block : ℕ) (xs ys : List ReadRow) (i : ℕ) (d : ReadRow) (b : Bool) → i < length xs → ys ≡ map (marked block) (take i xs) ++ drop i xs → b ≡ waits_on block (get_or ys i d) → count_by (waits_on block) (take i xs) + bool_byte b ≡ count_by (waits_on block) (take (i + 1) xs)
count_more block xs ys i d b lt e is = count_step b (waits_on block) xs i d lt (sym (is ∙ ap (waits_on block) (same_rest (marked block) xs ys i d lt e)))
