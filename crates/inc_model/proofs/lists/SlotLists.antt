-- Slots by index as rising lists: what is looked up in them, and what one slot set anew does.
use Rattle.std.proofs.Common.{◌≡◌, ℕ, zero, suc, ◌+◌, ◌<◌, ◌≤◌, Bool, true, false, not, cond, eqb, ltb, leb, ◌^◌, List, [], ◌∷◌, ◌++◌, length, get_or, set, take, map, Option, Some, None, refl, sym, ap, ◌∙◌, arith, append-nil, append_assoc}
use Rattle.std.specs.Prelude.{All, count_by, is_some}
use Rattle.std.proofs.lemmas.Bool.{lt-ltb, le-ltb, eq-eqb, ne_eqb, eqb-true}
use Rattle.std.proofs.lemmas.Bool.Decides.{nat_tests}
use Rattle.std.proofs.lemmas.List.Elements.{All-nil, All-cons, All-head, All-tail}
use Rattle.std.proofs.lemmas.List.Sums.{sum_by-append, sum_by-cons, count_by-le-length}
use Rattle.std.proofs.lemmas.List.{length-append, length-take, length-set, take_more}
use Rattle.inc_pending.specs.Keyed.{lookup, insert}
use Rattle.inc_model.specs.declared.indices.slots.Slot.{Slot}
use Rattle.inc_model.specs.relation.State.{has, with_index, keys_of}
use Rattle.inc_model.specs.executed.IndexLists.{HasNoOther, opened_in}
use Rattle.inc_model.specs.executed.SlotRows.{row_of, rows_from, open_digest, begun_digest_in, acknowledged_mark, acknowledged_in_slots, open_rows, slot_of_opened, begun_slot, opened_slot, acknowledged_slot, counted_open, more_open, slot_lists, HoldsSlots}
use Rattle.inc_model.proofs.lists.Sets.{has_keys}

module _ {Y : Type 0} (p : Y → Bool) where
  count_more : (y : Y) (ys : List Y) → count_by p (y ∷ ys) ≡ cond (p y) 1 0 + count_by p ys
  count_more y ys = sum_by-cons (λ (z : Y). cond (p z) 1 0) y ys

  count_both : (xs ys : List Y) → count_by p (xs ++ ys) ≡ count_by p xs + count_by p ys
  count_both xs ys = sum_by-append (λ (z : Y). cond (p z) 1 0) xs ys

module _ {V : Type 0} where
  absent_below : (q : ℕ) (rows : List (ℕ × V)) → All (λ row. q + 1 ≤ row.0) rows → lookup q rows ≡ None
  absent_below q [] h = refl
  absent_below q (row ∷ rows) h =
      let P : ℕ × V → Type 0 = λ r. q + 1 ≤ r.0 in
      let first : q + 1 ≤ row.0 = All-head P row rows h in
      ap (λ b. cond b (Some row.1) (lookup q rows)) (ne_eqb q row.0 (λ e. absurd (omega arith))) ∙ absent_below q rows (All-tail P row rows h)

  insert_front : (key : ℕ) (v : V) (rows : List (ℕ × V)) → All (λ row. key + 1 ≤ row.0) rows → insert key v rows ≡ (key, v) ∷ rows
  insert_front key v [] h = refl
  insert_front key v (row ∷ rows) h =
      let P : ℕ × V → Type 0 = λ r. key + 1 ≤ r.0 in
      let first : key + 1 ≤ row.0 = All-head P row rows h in
      rw (lt-ltb key row.0 (omega arith)) refl

  -- ---- the row of one index before the others

  row_above : (first low : ℕ) → low ≤ first → (o : Option V) (rest : List (ℕ × V)) → All (λ row. low ≤ row.0) rest → All (λ row. low ≤ row.0) (row_of first o ++ rest)
  row_above first low le None rest h = h
  row_above first low le (Some v) rest h = All-cons (λ (row : ℕ × V). low ≤ row.0) (first, v) rest le h

  past_row : (q first : ℕ) → first < q → (o : Option V) (rest : List (ℕ × V)) → lookup q (row_of first o ++ rest) ≡ lookup q rest
  past_row q first lt None rest = refl
  past_row q first lt (Some v) rest = ap (λ b. cond b (Some v) (lookup q rest)) (ne_eqb q first (λ e. absurd (omega arith)))

  at_row : (first : ℕ) (o : Option V) (rest : List (ℕ × V)) → All (λ row. first + 1 ≤ row.0) rest → lookup first (row_of first o ++ rest) ≡ o
  at_row first None rest h = absent_below first rest h
  at_row first (Some v) rest h = ap (λ b. cond b (Some v) (lookup first rest)) (eq-eqb first first refl)

  insert_at_row : (first : ℕ) (v : V) (o : Option V) (rest : List (ℕ × V)) → All (λ row. first + 1 ≤ row.0) rest → (first, v) ∷ rest ≡ insert first v (row_of first o ++ rest)
  insert_at_row first v None rest h = sym (insert_front first v rest h)
  insert_at_row first v (Some w) rest h = rw (le-ltb first first (omega arith), eq-eqb first first refl) refl

  insert_past_row : (key first : ℕ) (v : V) → first < key → (o : Option V) (rest : List (ℕ × V)) → row_of first o ++ insert key v rest ≡ insert key v (row_of first o ++ rest)
  insert_past_row key first v lt None rest = refl
  insert_past_row key first v lt (Some w) rest = rw (le-ltb key first (omega arith), ne_eqb key first (λ e. absurd (omega arith))) refl

  pub length_row : (first : ℕ) (o : Option V) → length (row_of first o) ≤ 1
  length_row first None = omega arith
  length_row first (Some v) = omega arith

  -- the keys of the list with one more
  pub keys_insert : (key : ℕ) (v : V) (rows : List (ℕ × V)) → map (λ row. row.0) (insert key v rows) ≡ with_index key (map (λ row. row.0) rows)
  keys_insert key v [] = refl
  keys_insert key v (row ∷ rows) = step (ltb key row.0) (eqb key row.0) refl (keys_insert key v rows)
    where
      step : (b c : Bool) → eqb key row.0 ≡ c → map (λ r. r.0) (insert key v rows) ≡ with_index key (map (λ r. r.0) rows) → map (λ r. r.0) (cond b ((key, v) ∷ row ∷ rows) (cond c ((key, v) ∷ rows) (row ∷ insert key v rows))) ≡ cond b (key ∷ row.0 ∷ map (λ r. r.0) rows) (cond c (row.0 ∷ map (λ r. r.0) rows) (row.0 ∷ with_index key (map (λ r. r.0) rows)))
      step true c e h = refl
      step false true e h = ap (λ k. k ∷ map (λ r. r.0) rows) (eqb-true key row.0 e)
      step false false e h = ap (λ (l : List ℕ). row.0 ∷ l) h

  -- how many keys of a kind the list has with one more
  module _ (q : ℕ → Bool) where
    abbrev keys_in : List (ℕ × V) → ℕ
    keys_in rows = count_by (λ row. q row.0) rows

    count_at_row : (first : ℕ) (v : V) (o : Option V) (rest : List (ℕ × V)) → keys_in ((first, v) ∷ rest) ≡ keys_in (row_of first o ++ rest) + cond (is_some o) 0 (cond (q first) 1 0)
    count_at_row first v None rest = let more = count_more (λ (row : ℕ × V). q row.0) (first, v) rest in omega arith
    count_at_row first v (Some w) rest = let more = count_more (λ (row : ℕ × V). q row.0) (first, v) rest in let other = count_more (λ (row : ℕ × V). q row.0) (first, w) rest in omega arith

-- ---- the rows of all

module _ {X V : Type 0} (value : X → Option V) where
  keys_above : (first low : ℕ) (xs : List X) → low ≤ first → All (λ row. low ≤ row.0) (rows_from value first xs)
  unfolding rows_from
  keys_above first low [] le = All-nil (λ (row : ℕ × V). low ≤ row.0)
  keys_above first low (x ∷ xs) le = row_above first low le (value x) (rows_from value (first + 1) xs) (keys_above (first + 1) low xs (omega arith))

  pub lookup_rows : (first i : ℕ) (xs : List X) (d : X) → i < length xs → lookup (first + i) (rows_from value first xs) ≡ value (get_or xs i d)
  unfolding rows_from
  lookup_rows first i [] d lt = absurd (omega arith)
  lookup_rows first zero (x ∷ xs) d lt =
      let e : first + 0 ≡ first = omega arith in
      let rest = rows_from value (first + 1) xs in
      ap (λ q. lookup q (row_of first (value x) ++ rest)) e ∙ at_row first (value x) rest (keys_above (first + 1) (first + 1) xs (omega arith))
  lookup_rows first (suc i) (x ∷ xs) d lt =
      let e : first + suc i ≡ first + 1 + i = omega arith in
      let rest = rows_from value (first + 1) xs in
      past_row (first + suc i) first (omega arith) (value x) rest ∙ ap (λ q. lookup q rest) e ∙ lookup_rows (first + 1) i xs d (omega arith)

  pub lookup_past : (first q : ℕ) (xs : List X) → first + length xs ≤ q → lookup q (rows_from value first xs) ≡ None
  unfolding rows_from
  lookup_past first q [] le = refl
  lookup_past first q (x ∷ xs) le = past_row q first (omega arith) (value x) (rows_from value (first + 1) xs) ∙ lookup_past (first + 1) q xs (omega arith)

  -- ---- one set anew

  -- with a value, as a row for its index
  pub rows_insert : (first i : ℕ) (xs : List X) (x : X) (v : V) → i < length xs → value x ≡ Some v → rows_from value first (set xs i x) ≡ insert (first + i) v (rows_from value first xs)
  unfolding rows_from
  rows_insert first i [] x v lt e = absurd (omega arith)
  rows_insert first zero (y ∷ ys) x v lt e =
      let rest = rows_from value (first + 1) ys in
      let here : first ≡ first + 0 = omega arith in
      ap (λ o. row_of first o ++ rest) e ∙ insert_at_row first v (value y) rest (keys_above (first + 1) (first + 1) ys (omega arith)) ∙ ap (λ q. insert q v (row_of first (value y) ++ rest)) here
  rows_insert first (suc i) (y ∷ ys) x v lt e =
      let rest = rows_from value (first + 1) ys in
      let here : first + 1 + i ≡ first + suc i = omega arith in
      ap (λ r. row_of first (value y) ++ r) (rows_insert (first + 1) i ys x v (omega arith) e) ∙ insert_past_row (first + 1 + i) first v (omega arith) (value y) rest ∙ ap (λ q. insert q v (row_of first (value y) ++ rest)) here

  -- with the value that it had, as before
  pub rows_same : (first i : ℕ) (xs : List X) (x d : X) → i < length xs → value x ≡ value (get_or xs i d) → rows_from value first (set xs i x) ≡ rows_from value first xs
  unfolding rows_from
  rows_same first i [] x d lt e = absurd (omega arith)
  rows_same first zero (y ∷ ys) x d lt e = ap (λ o. row_of first o ++ rows_from value (first + 1) ys) e
  rows_same first (suc i) (y ∷ ys) x d lt e = ap (λ r. row_of first (value y) ++ r) (rows_same (first + 1) i ys x d (omega arith) e)

  -- ---- one more at the end

  pub rows_push : (first : ℕ) (xs : List X) (x : X) → rows_from value first (xs ++ x ∷ []) ≡ rows_from value first xs ++ row_of (first + length xs) (value x)
  unfolding rows_from
  rows_push first [] x = append-nil (row_of first (value x)) ∙ (let e : first ≡ first + 0 = omega arith in ap (λ q. row_of q (value x)) e)
  rows_push first (y ∷ ys) x =
      let rest = rows_from value (first + 1) ys in
      let e : first + 1 + length ys ≡ first + suc (length ys) = omega arith in
      ap (λ r. row_of first (value y) ++ r) (rows_push (first + 1) ys x) ∙ sym (append_assoc (row_of first (value y)) rest (row_of (first + 1 + length ys) (value x))) ∙ ap (λ q. (row_of first (value y) ++ rest) ++ row_of q (value x)) e

  -- ---- counts

  length_rows : (first : ℕ) (xs : List X) → length (rows_from value first xs) ≤ length xs
  unfolding rows_from
  length_rows first [] = omega arith
  length_rows first (x ∷ xs) = omega (arith, length-append (row_of first (value x)) (rows_from value (first + 1) xs), length_row first (value x), length_rows (first + 1) xs)

  -- where one has no value there are fewer rows
  fewer_rows : (first i : ℕ) (xs : List X) (d : X) → i < length xs → value (get_or xs i d) ≡ None → length (rows_from value first xs) < length xs
  unfolding rows_from
  fewer_rows first i [] d lt e = absurd (omega arith)
  fewer_rows first zero (x ∷ xs) d lt e = rw e (omega (arith, length_rows (first + 1) xs))
  fewer_rows first (suc i) (x ∷ xs) d lt e = omega (arith, length-append (row_of first (value x)) (rows_from value (first + 1) xs), length_row first (value x), fewer_rows (first + 1) i xs d (omega arith) e)

  pub count_fewer : (q : ℕ → Bool) (i : ℕ) (xs : List X) (d : X) → i < length xs → value (get_or xs i d) ≡ None → count_by (λ row. q row.0) (rows_from value 0 xs) < length xs
  count_fewer q i xs d lt e = omega (arith, count_by-le-length (λ (row : ℕ × V). q row.0) (rows_from value 0 xs), fewer_rows 0 i xs d lt e)

  pub count_rows_set : (q : ℕ → Bool) (first i : ℕ) (xs : List X) (x d : X) (v : V) → i < length xs → value x ≡ Some v → count_by (λ row. q row.0) (rows_from value first (set xs i x)) ≡ count_by (λ row. q row.0) (rows_from value first xs) + cond (is_some (value (get_or xs i d))) 0 (cond (q (first + i)) 1 0)
  unfolding rows_from
  count_rows_set q first i [] x d v lt e = absurd (omega arith)
  count_rows_set q first zero (y ∷ ys) x d v lt e =
      let rest = rows_from value (first + 1) ys in
      let here : first ≡ first + 0 = omega arith in
      ap (λ o. count_by (λ row. q row.0) (row_of first o ++ rest)) e ∙ count_at_row q first v (value y) rest ∙ ap (λ k. count_by (λ row. q row.0) (row_of first (value y) ++ rest) + cond (is_some (value y)) 0 (cond (q k) 1 0)) here
  count_rows_set q first (suc i) (y ∷ ys) x d v lt e =
      let here : first + 1 + i ≡ first + suc i = omega arith in
      let row = row_of first (value y) in
      let rest = rows_from value (first + 1) ys in
      let more = count_rows_set q (first + 1) i ys x d v (omega arith) e in
      count_both (λ (r : ℕ × V). q r.0) row (rows_from value (first + 1) (set ys i x))
      ∙ ap (λ n. count_by (λ r. q r.0) row + n) more
      ∙ regroup (count_by (λ r. q r.0) row) (count_by (λ r. q r.0) rest) (cond (is_some (value (get_or ys i d))) 0 (cond (q (first + 1 + i)) 1 0))
      ∙ ap (λ n. n + cond (is_some (value (get_or ys i d))) 0 (cond (q (first + 1 + i)) 1 0)) (sym (count_both (λ (r : ℕ × V). q r.0) row rest))
      ∙ ap (λ k. count_by (λ r. q r.0) (row ++ rest) + cond (is_some (value (get_or ys i d))) 0 (cond (q k) 1 0)) here
    where
      regroup : (a b c : ℕ) → a + (b + c) ≡ a + b + c
      regroup a b c = omega arith

-- ---- the slots of a file as it is opened

pub opened_open : (first : ℕ) (digests : List (Option (List ℕ))) → rows_from open_digest first (map slot_of_opened digests) ≡ rows_from (λ digest. digest) first digests
unfolding rows_from
opened_open first [] = refl
opened_open first (None ∷ digests) = opened_open (first + 1) digests
opened_open first (Some digest ∷ digests) = ap (λ rows. (first, digest) ∷ rows) (opened_open (first + 1) digests)

pub opened_begun : (first : ℕ) (digests : List (Option (List ℕ))) → rows_from begun_digest_in first (map slot_of_opened digests) ≡ []
unfolding rows_from
opened_begun first [] = refl
opened_begun first (None ∷ digests) = opened_begun (first + 1) digests
opened_begun first (Some digest ∷ digests) = opened_begun (first + 1) digests

pub opened_acknowledged : (first : ℕ) (digests : List (Option (List ℕ))) → keys_of (rows_from acknowledged_mark first (map slot_of_opened digests)) ≡ keys_of (rows_from (λ digest. digest) first digests)
unfolding rows_from
opened_acknowledged first [] = refl
opened_acknowledged first (None ∷ digests) = opened_acknowledged (first + 1) digests
opened_acknowledged first (Some digest ∷ digests) = ap (λ (keys : List ℕ). first ∷ keys) (opened_acknowledged (first + 1) digests)

-- ---- one slot of all

module _ {V : Type 0} (value : Slot → Option V) (slots : List Slot) where
  pub slot_value : (i : ℕ) (d : Slot) → i < length slots → lookup i (rows_from value 0 slots) ≡ value (get_or slots i d)
  slot_value i d lt = let e : i ≡ 0 + i = omega arith in ap (λ q. lookup q (rows_from value 0 slots)) e ∙ lookup_rows value 0 i slots d lt

  pub slot_past : (i : ℕ) → length slots ≤ i → lookup i (rows_from value 0 slots) ≡ None
  slot_past i le = lookup_past value 0 i slots (omega arith)

  pub slot_insert : (i : ℕ) (slot : Slot) (v : V) → i < length slots → value slot ≡ Some v → rows_from value 0 (set slots i slot) ≡ insert i v (rows_from value 0 slots)
  slot_insert i slot v lt e = let here : 0 + i ≡ i = omega arith in rows_insert value 0 i slots slot v lt e ∙ ap (λ q. insert q v (rows_from value 0 slots)) here

  pub slot_same : (i : ℕ) (slot d : Slot) → i < length slots → value slot ≡ value (get_or slots i d) → rows_from value 0 (set slots i slot) ≡ rows_from value 0 slots
  slot_same i slot d lt e = rows_same value 0 i slots slot d lt e

-- an open slot whose digest is the one that it is given
pub begun_open : (digest : List ℕ) (slot : Slot) → HasNoOther digest (open_digest slot) → open_digest (begun_slot digest slot) ≡ open_digest slot
begun_open digest slot h = step slot.is_open slot.digest h
  where
    step : (b : Bool) (other : List ℕ) → HasNoOther digest (cond b (Some other) None) → cond b (Some digest) None ≡ cond b (Some other) None
    step true other e = ap Some e
    step false other e = refl

pub marked_in : (slots : List Slot) (i : ℕ) (d : Slot) → i < length slots → has i (acknowledged_in_slots slots) ≡ (get_or slots i d).is_acknowledged
marked_in slots i d lt = has_keys i (rows_from acknowledged_mark 0 slots) ∙ ap (λ (o : Option (List ℕ)). is_some o) (slot_value acknowledged_mark slots i d lt) ∙ step (get_or slots i d).is_acknowledged []
  where
    step : (b : Bool) (mark : List ℕ) → is_some (cond b (Some mark) None) ≡ b
    step true mark = refl
    step false mark = refl

pub marked_past : (slots : List Slot) (i : ℕ) → length slots ≤ i → has i (acknowledged_in_slots slots) ≡ false
marked_past slots i le = has_keys i (rows_from acknowledged_mark 0 slots) ∙ ap (λ (o : Option (List ℕ)). is_some o) (slot_past acknowledged_mark slots i le)

pub marked_set : (slots : List Slot) (i : ℕ) (slot : Slot) → i < length slots → acknowledged_in_slots (set slots i (acknowledged_slot slot)) ≡ with_index i (acknowledged_in_slots slots)
marked_set slots i slot lt = ap keys_of (slot_insert acknowledged_mark slots i (acknowledged_slot slot) [] lt refl) ∙ keys_insert i [] (rows_from acknowledged_mark 0 slots)

-- ---- counts of open slots

count_row : (q : ℕ → Bool) (i : ℕ) (slot : Slot) → count_by (λ row. q row.0) (row_of i (open_digest slot)) ≡ counted_open slot (q i)
count_row q i slot = step slot.is_open (q i) refl
  where
    step : (b c : Bool) → q i ≡ c → count_by (λ row. q row.0) (row_of i (cond b (Some slot.digest) None)) ≡ cond b (cond c 1 0) 0
    step true c e = count_more (λ (row : ℕ × List ℕ). q row.0) (i, slot.digest) [] ∙ ap (λ x. cond x 1 0 + 0) e ∙ one c
      where
        one : (x : Bool) → cond x 1 0 + 0 ≡ cond x 1 0
        one x = omega arith
    step false c e = refl

pub count_take : (q : ℕ → Bool) (slots : List Slot) (i : ℕ) (d : Slot) → i < length slots → count_by (λ row. q row.0) (open_rows (take (i + 1) slots)) ≡ count_by (λ row. q row.0) (open_rows (take i slots)) + counted_open (get_or slots i d) (q i)
count_take q slots i d lt =
    let len : 0 + length (take i slots) ≡ i = omega (arith, length-take i slots) in
    ap (λ l. count_by (λ row. q row.0) (open_rows l)) (take_more slots i d lt)
    ∙ ap (λ rows. count_by (λ row. q row.0) rows) (rows_push open_digest 0 (take i slots) (get_or slots i d))
    ∙ count_both (λ (r : ℕ × List ℕ). q r.0) (open_rows (take i slots)) (row_of (0 + length (take i slots)) (open_digest (get_or slots i d)))
    ∙ ap (λ k. count_by (λ row. q row.0) (open_rows (take i slots)) + count_by (λ row. q row.0) (row_of k (open_digest (get_or slots i d)))) len
    ∙ ap (λ n. count_by (λ row. q row.0) (open_rows (take i slots)) + n) (count_row q i (get_or slots i d))

pub count_none : (q : ℕ → Bool) → 0 ≡ count_by (λ row. q row.0) (open_rows [])
unfolding rows_from
count_none q = refl

pub count_open_set : (q : ℕ → Bool) (slots : List Slot) (i : ℕ) (digest : List ℕ) (slot : Slot) → i < length slots → get_or slots i slot ≡ slot → count_by (λ row. q row.0) (open_rows (set slots i (opened_slot digest slot))) ≡ count_by (λ row. q row.0) (open_rows slots) + more_open slot (q i)
count_open_set q slots i digest slot lt is =
    count_rows_set open_digest q 0 i slots (opened_slot digest slot) slot digest lt refl
    ∙ ap (λ (s : Slot). count_by (λ row. q row.0) (open_rows slots) + cond (is_some (open_digest s)) 0 (cond (q (0 + i)) 1 0)) is
    ∙ (let here : 0 + i ≡ i = omega arith in ap (λ k. count_by (λ row. q row.0) (open_rows slots) + cond (is_some (open_digest slot)) 0 (cond (q k) 1 0)) here)
    ∙ ap (λ n. count_by (λ row. q row.0) (open_rows slots) + n) (step slot.is_open slot.digest (cond (q i) 1 0))
  where
    step : (b : Bool) (d : List ℕ) (n : ℕ) → cond (is_some (cond b (Some d) None)) 0 n ≡ cond b 0 n
    step true d n = refl
    step false d n = refl

pub count_step : (q : ℕ → Bool) (slots : List Slot) (i : ℕ) (d : Slot) (a b : ℕ) → i < length slots → a ≡ count_by (λ row. q row.0) (open_rows (take i slots)) → b ≡ counted_open (get_or slots i d) (q i) → a + b ≡ count_by (λ row. q row.0) (open_rows (take (i + 1) slots))
count_step q slots i d a b lt a-is b-is = ap (λ n. n + b) a-is ∙ ap (λ n. count_by (λ row. q row.0) (open_rows (take i slots)) + n) b-is ∙ sym (count_take q slots i d lt)

-- ---- one index opened

module _ (n m : ℕ) (slots : List Slot) (i : ℕ) (digest : List ℕ) (slot : Slot) (lt : i < length slots) (is : get_or slots i slot ≡ slot) where
  pub lists_opened : slot_lists n m (set slots i (opened_slot digest slot)) ≡ opened_in i digest (slot_lists n m slots)
  lists_opened =
      rw (slot_insert open_digest slots i (opened_slot digest slot) digest lt refl, slot_insert begun_digest_in slots i (opened_slot digest slot) digest lt refl, slot_same acknowledged_mark slots i (opened_slot digest slot) slot lt (ap acknowledged_mark (sym is))) refl

  not_below : (k : ℕ) → not (ltb k n) ≡ leb n k
  not_below k = grind (arith, nat_tests)

  pub holds_opened : (many other many' other' : ℕ) → HoldsSlots n m slots many other → many' ≡ many + more_open slot (ltb i n) → other' ≡ other + more_open slot (not (ltb i n)) → HoldsSlots n m (set slots i (opened_slot digest slot)) many' other'
  holds_opened many other many' other' holds data-is hash-is = record {
    each = length-set slots i (opened_slot digest slot) ∙ holds.each;
    few = holds.few;
    data_blocks = data-is ∙ ap (λ x. x + more_open slot (ltb i n)) holds.data_blocks ∙ sym (count_open_set (λ k. ltb k n) slots i digest slot lt is);
    hash_blocks =
        hash-is ∙ ap (λ b. other + more_open slot b) (not_below i) ∙ ap (λ x. x + more_open slot (leb n i)) holds.hash_blocks ∙ sym (count_open_set (λ k. leb n k) slots i digest slot lt is);
  }

  -- where it was shut, one more is counted
  pub counts_fit : (many other : ℕ) → HoldsSlots n m slots many other → slot.is_open ≡ false → (many + 1 < 2 ^ 32) × (other + 1 < 2 ^ 32)
  counts_fit many other holds shut =
      let none : open_digest (get_or slots i slot) ≡ None = ap open_digest is ∙ ap (λ b. cond b (Some slot.digest) None) shut in
      let a = count_fewer open_digest (λ k. ltb k n) i slots slot lt none in
      let b = count_fewer open_digest (λ k. leb n k) i slots slot lt none in
      let e = holds.data_blocks in
      let f = holds.hash_blocks in
      let each = holds.each in
      let few = holds.few in
      (omega arith, omega arith)
