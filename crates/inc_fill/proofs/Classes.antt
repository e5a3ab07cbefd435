-- The class of an entry in a longer file, behind a closed gate, and behind a gate that a crash has torn.
use Rattle.std.proofs.Common.{◌≡◌, ◌⊎◌, inl, inr, ℕ, ◌+◌, ◌<◌, ◌≤◌, Bool, true, false, cond, ◌&&◌, ◌||◌, List, [], ◌∷◌, refl, sym, ◌∙◌, ap, subst, arith}
use Rattle.std.specs.Prelude.{nat_le, nat_lt, ◌==◌, not}
use Rattle.std.proofs.lemmas.Bool.{and_parts, and_from, or_cases, eqb-true, leb-true, lt-ltb, le-ltb, cases_lt}
use Rattle.std.proofs.lemmas.Bool.Decides.{nat_tests}
use Rattle.inc_bytes.specs.declared.span.Span.{Span}
use Rattle.inc_tree.specs.shape.Geometry.{block_len, data_blocks}
use Rattle.inc_entry.specs.Spans.{misses, is_clear}
use Rattle.inc_entry.specs.Entry.{Places, areas_of, entry_size, fits, has_size, asks, is_open, past_end, is_compressed, is_closed, class_of}
use Rattle.inc_entry.specs.declared.classes.Class.TheVariants.{Closed, OpenAt, Compressed, Damaged}
use Rattle.inc_entry.specs.declared.entry.Entry.{Entry}
use Rattle.inc_entry.proofs.BlockLemmas.{most_len}

false_and : (a b : Bool) → a ≡ false → (a && b) ≡ false
false_and a b e = ap (λ (x : Bool). x && b) e

-- ---- sizes, and shorter ranges

pub size_at_most : (places : Places) (i size : ℕ) → has_size places i size ≡ true → (size ≤ 4096) × (block_len places.shape i ≤ size)
unfolding has_size
size_at_most places i size h =
    let most = most_len places.shape i in
    elim (or_cases (size == 4096) (size == block_len places.shape i) h) [
      | inl whole ↦ let e : size ≡ 4096 = eqb-true _ _ whole in (omega arith, omega arith)
      | inr own ↦ let e : size ≡ block_len places.shape i = eqb-true _ _ own in (omega arith, omega arith)
    ]

misses_less : (span : Span) (at n m : ℕ) → n ≤ m → misses span at m ≡ true → misses span at n ≡ true
unfolding misses
misses_less span at n m le h = grind (arith, nat_tests)

clear_less : (spans : List Span) (at n m : ℕ) → n ≤ m → is_clear spans at m ≡ true → is_clear spans at n ≡ true
clear_less [] at n m le h = refl
clear_less (span ∷ spans) at n m le h =
    let parts = and_parts (misses span at m) (is_clear spans at m) h in
    and_from _ _ (misses_less span at n m le parts.0) (clear_less spans at n m le parts.1)

pub fits_less : (places : Places) (i at n m : ℕ) → n ≤ m → fits places i at m ≡ true → fits places i at n ≡ true
unfolding fits
fits_less places i at n m le h =
    elim (cases_lt i (data_blocks places.shape)) [
      | inl lt ↦ rw (lt-ltb i (data_blocks places.shape) lt) (clear_less (areas_of places) at n m le (rw (lt-ltb i (data_blocks places.shape) lt) at h))
      | inr ge ↦ rw (le-ltb i (data_blocks places.shape) ge) (rw (le-ltb i (data_blocks places.shape) ge) at h)
    ]

-- ---- open entries

class_is_open : (b c d : Bool) (p s q r : ℕ) → cond b (OpenAt p s) (cond c Compressed (cond d Closed Damaged)) ≡ OpenAt q r → (b ≡ true) × (p ≡ q) × (s ≡ r)
class_is_open true c d p s q r h = (refl, (cc), (cc))
class_is_open false true d p s q r h = absurd (cc)
class_is_open false false true p s q r h = absurd (cc)
class_is_open false false false p s q r h = absurd (cc)

-- what an open entry tells
pub record IsOpen (places : Places) (len i : ℕ) (e : Entry) (place size : ℕ) : Type 0 where
  pub asked : asks places i e ≡ true
  pub inside : e.offset + entry_size e ≤ len
  pub here : fits places i place size ≡ true
  pub offset : e.offset ≡ place
  pub sized : entry_size e ≡ size
  pub most : size ≤ 4096
  pub least : block_len places.shape i ≤ size

asked_size : (places : Places) (i : ℕ) (e : Entry) → asks places i e ≡ true → has_size places i (entry_size e) ≡ true
unfolding asks
asked_size places i e h = (and_parts (e.flags == 0) (has_size places i (entry_size e)) ((and_parts ((e.flags == 0) && has_size places i (entry_size e)) (not (e.offset == 0)) h).0)).1

pub open_parts : (places : Places) (len i : ℕ) (e : Entry) (place size : ℕ) → class_of places len i e ≡ OpenAt place size → IsOpen places len i e place size
unfolding class_of is_open
open_parts places len i e place size h =
    let all = class_is_open (is_open places len i e) (is_compressed e) (is_closed places i e) e.offset (entry_size e) place size h in
    let parts = and_parts (asks places i e) (nat_le (e.offset + entry_size e) len && fits places i e.offset (entry_size e)) all.0 in
    let more = and_parts (nat_le (e.offset + entry_size e) len) (fits places i e.offset (entry_size e)) parts.1 in
    let sizes = size_at_most places i (entry_size e) (asked_size places i e parts.0) in
    record {
      asked = parts.0;
      inside = leb-true _ _ more.0;
      here = subst (λ (p : ℕ). fits places i p size ≡ true) all.1 (subst (λ (s : ℕ). fits places i e.offset s ≡ true) all.2 more.1);
      offset = all.1;
      sized = all.2;
      most = omega (arith, sizes.0, all.2);
      least = omega (arith, sizes.1, all.2);
    }

pub open_not_past : (places : Places) (len i : ℕ) (e : Entry) (place size : ℕ) → class_of places len i e ≡ OpenAt place size → past_end places len i e ≡ false
unfolding past_end
open_not_past places len i e place size h =
    let inside = (open_parts places len i e place size h).inside in
    let over : nat_lt len (e.offset + entry_size e) ≡ false = le-ltb _ _ inside in
    go (asks places i e) (nat_lt len (e.offset + entry_size e)) over
  where
    go : (a b : Bool) → b ≡ false → (a && b) ≡ false
    go true b e = e
    go false b e = refl

-- ---- a longer file

longer_open : (a f : Bool) (place len more : ℕ) → len ≤ more → (a && nat_lt len place) ≡ false
    → ((a && (nat_le place more && f)) ≡ (a && (nat_le place len && f))) × ((a && nat_lt more place) ≡ false)
longer_open false f place len more le h = (refl, refl)
longer_open true f place len more le h =
    let low : place ≤ len = grind (arith, nat_tests) in
    let short : nat_le place len ≡ true = grind (arith, nat_tests) in
    let long : nat_le place more ≡ true = grind (arith, nat_tests) in
    let over : nat_lt more place ≡ false = grind (arith, nat_tests) in
    (ap (λ (b : Bool). b && f) (long ∙ sym short), over)

-- an entry that doesn't name a block past the end has its class in each longer file too
pub class_longer : (places : Places) (len more i : ℕ) (e : Entry) → len ≤ more → past_end places len i e ≡ false
    → (class_of places more i e ≡ class_of places len i e) × (past_end places more i e ≡ false)
unfolding class_of is_open past_end
class_longer places len more i e le h =
    let both = longer_open (asks places i e) (fits places i e.offset (entry_size e)) (e.offset + entry_size e) len more le h in
    (ap (λ (b : Bool). cond b (OpenAt e.offset (entry_size e)) (cond (is_compressed e) Compressed (cond (is_closed places i e) Closed Damaged))) both.0, both.1)

-- ---- a closed gate

no_size_asks : (places : Places) (i : ℕ) (e : Entry) → has_size places i (entry_size e) ≡ false → asks places i e ≡ false
unfolding asks
no_size_asks places i e h = go (e.flags == 0) (has_size places i (entry_size e)) (not (e.offset == 0)) h
  where
    go : (a b c : Bool) → b ≡ false → ((a && b) && c) ≡ false
    go true b c e = ap (λ (x : Bool). x && c) e
    go false b c e = refl

plain_closed : (places : Places) (i : ℕ) (e : Entry) → e.low ≡ 0 → e.flags ≡ 0 → has_size places i (entry_size e) ≡ false
    → (is_compressed e ≡ false) × (is_closed places i e ≡ true)
unfolding is_compressed is_closed
plain_closed places i e low flags h =
    let plain : (e.flags == 0) ≡ true = grind (arith, nat_tests) in
    let zero : (e.low == 0) ≡ true = grind (arith, nat_tests) in
    (rw flags refl, and_from _ _ (and_from _ _ plain zero) (ap not h))

class_closed : (b c d : Bool) (p s : ℕ) → b ≡ false → c ≡ false → d ≡ true → cond b (OpenAt p s) (cond c Compressed (cond d Closed Damaged)) ≡ Closed
class_closed true c d p s h k l = absurd (cc)
class_closed false true d p s h k l = absurd (cc)
class_closed false false true p s h k l = refl
class_closed false false false p s h k l = absurd (cc)

-- whatever the offset and the file's length are
pub shut_class : (places : Places) (len i : ℕ) (e : Entry) → e.low ≡ 0 → e.flags ≡ 0 → has_size places i (entry_size e) ≡ false
    → (class_of places len i e ≡ Closed) × (past_end places len i e ≡ false)
unfolding class_of is_open past_end
shut_class places len i e low flags h =
    let unasked = no_size_asks places i e h in
    let shut = plain_closed places i e low flags h in
    (class_closed _ _ _ e.offset (entry_size e) (false_and _ _ unasked) shut.0 shut.1, false_and _ _ unasked)

-- ---- a gate that may hold anything

sized_asks : (places : Places) (i : ℕ) (e : Entry) → e.flags ≡ 0 → 0 < e.offset → has_size places i (entry_size e) ≡ true → asks places i e ≡ true
unfolding asks
sized_asks places i e flags some h =
    let plain : (e.flags == 0) ≡ true = grind (arith, nat_tests) in
    let placed : (e.offset == 0) ≡ false = grind (arith, nat_tests) in
    and_from _ _ (and_from _ _ plain h) (ap not placed)

-- an entry of a right size whose whole block is inside the file is open
pub sized_open : (places : Places) (len i : ℕ) (e : Entry) → e.flags ≡ 0 → 0 < e.offset → fits places i e.offset 4096 ≡ true → e.offset + 4096 ≤ len
    → has_size places i (entry_size e) ≡ true → class_of places len i e ≡ OpenAt e.offset (entry_size e)
unfolding class_of is_open
sized_open places len i e flags some here inside h =
    let sizes = size_at_most places i (entry_size e) h in
    let low : nat_le (e.offset + entry_size e) len ≡ true = let le : e.offset + entry_size e ≤ len = omega (arith, sizes.0) in grind (arith, nat_tests) in
    let whole = and_from _ _ (sized_asks places i e flags some h) (and_from _ _ low (fits_less places i e.offset (entry_size e) 4096 sizes.0 here)) in
    ap (λ (b : Bool). cond b (OpenAt e.offset (entry_size e)) (cond (is_compressed e) Compressed (cond (is_closed places i e) Closed Damaged))) whole

-- Whatever a crash has left in the gate, the entry is open with the block at its place, or closed.
pub torn_gate : (places : Places) (len i : ℕ) (e : Entry) → e.low ≡ 0 → e.flags ≡ 0 → 0 < e.offset → fits places i e.offset 4096 ≡ true → e.offset + 4096 ≤ len
    → ((class_of places len i e ≡ OpenAt e.offset (entry_size e)) ⊎ (class_of places len i e ≡ Closed)) × (past_end places len i e ≡ false)
torn_gate places len i e low flags some here inside =
    elim (has_size places i (entry_size e)) as (λ b. has_size places i (entry_size e) ≡ b
    → ((class_of places len i e ≡ OpenAt e.offset (entry_size e)) ⊎ (class_of places len i e ≡ Closed)) × (past_end places len i e ≡ false)) [
      | true ↦ λ h. let is = sized_open places len i e flags some here inside h in (inl is, open_not_past places len i e e.offset (entry_size e) is)
      | false ↦ λ h. let shut = shut_class places len i e low flags h in (inr shut.0, shut.1)
    ] refl

whole_size : (places : Places) (i size : ℕ) → size ≡ 4096 → has_size places i size ≡ true
unfolding has_size
whole_size places i size e = let whole : (size == 4096) ≡ true = grind (arith, nat_tests) in ap (λ (b : Bool). b || (size == block_len places.shape i)) whole

-- the gate that a fill writes
pub gate_class : (places : Places) (len i : ℕ) (e : Entry) → e.low ≡ 0 → e.flags ≡ 0 → e.high ≡ 16 → 0 < e.offset → fits places i e.offset 4096 ≡ true → e.offset + 4096 ≤ len
    → class_of places len i e ≡ OpenAt e.offset (entry_size e)
gate_class places len i e low flags high some here inside = sized_open places len i e flags some here inside (whole_size places i (entry_size e) (omega (arith, low, high)))
