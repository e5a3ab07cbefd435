-- All blocks, then their places, then their gates, or one index after another: the bytes are the same.
use Rattle.std.proofs.Common.{◌≡◌, ℕ, zero, suc, ◌≤◌, Bool, true, false, not, ◌||◌, cond, eqb, List, [], ◌∷◌, length, take, refl, sym, ap, ◌∙◌, arith}
use Rattle.std.specs.Prelude.{slice_index}
use Rattle.std.proofs.lemmas.Bool.{eq-eqb, ne_eqb}
use Rattle.inc_entry.specs.Entry.{area_places}
use Rattle.inc_entry.specs.Keeps.{IsLayout}
use Rattle.inc_entry.proofs.SpanLemmas.{or_false}
use Rattle.inc_layout.specs.declared.opened.Opened.{Opened}
use Rattle.inc_model.specs.relation.State.{Digests, has, is_in}
use Rattle.inc_filling.specs.Grouped.{AreDistinct, group_indices, stored_of}
use Rattle.inc_filling.specs.Shown.{SpottedBytes, with_block, with_blocks, with_gate, with_gates, with_group, with_place_of, with_places, with_stored}
use Rattle.inc_filling.specs.declared.filling.Filling.{Filling}
use Rattle.inc_filling.proofs.contents.Spotted.{IsHere, block_length, gate_length, gate_then_block, gate_then_place, place_length, place_then_block}
use Rattle.inc_filling.proofs.steps.PutLoop.{stored_has}

-- ---- distinct indices, from the front

abbrev pub Differ : List ℕ → Type 0
Differ [] = Unit {0}
Differ (x ∷ xs) = (has x xs ≡ false) × Differ xs

distinct_tail : (x : ℕ) (xs : List ℕ) → AreDistinct (x ∷ xs) → AreDistinct xs
distinct_tail x xs h k lt = (or_false (eqb (slice_index xs k) x) (has (slice_index xs k) (take k xs)) (h (suc k) (omega arith))).1

-- without the second one
distinct_skip : (x y : ℕ) (ys : List ℕ) → AreDistinct (x ∷ y ∷ ys) → AreDistinct (x ∷ ys)
distinct_skip x y ys h zero lt = refl
distinct_skip x y ys h (suc k) lt =
    let all = or_false (eqb (slice_index ys k) x) (eqb (slice_index ys k) y || has (slice_index ys k) (take k ys)) (h (suc (suc k)) (omega arith)) in
    let rest = or_false (eqb (slice_index ys k) y) (has (slice_index ys k) (take k ys)) all.1 in
    both (eqb (slice_index ys k) x) (has (slice_index ys k) (take k ys)) all.0 rest.1
  where
    both : (a b : Bool) → a ≡ false → b ≡ false → (a || b) ≡ false
    both true b e f = absurd (cc)
    both false b e f = f

first_differs : (x : ℕ) (xs : List ℕ) → AreDistinct (x ∷ xs) → has x xs ≡ false
first_differs x [] h = refl
first_differs x (y ∷ ys) h =
    let second : eqb y x ≡ false = (or_false (eqb y x) false (h 1 (omega arith))).0 in
    let turned : eqb x y ≡ false = ne_eqb x y (λ e. absurd (let own : eqb y x ≡ true = eq-eqb y x (sym e) in cc)) in
    ap (λ b. b || has x ys) turned ∙ first_differs x ys (distinct_skip x y ys h)

pub distinct_differ : (xs : List ℕ) → AreDistinct xs → Differ xs
distinct_differ [] h = tt
distinct_differ (x ∷ xs) h = (first_differs x xs h, distinct_differ xs (distinct_tail x xs h))

-- ---- one index after another

abbrev pub with_one : Opened → SpottedBytes → Filling → Bool → SpottedBytes
with_one opened file filling put = cond put (with_gate opened (with_place_of opened (with_block opened file filling) filling.index) filling.index) file

abbrev pub with_each : Opened → Digests → SpottedBytes → List Filling → SpottedBytes
with_each opened open_ones file [] = file
with_each opened open_ones file (f ∷ fs) = with_each opened open_ones (with_one opened file f (not (is_in f.index open_ones))) fs

-- `len` bytes hold the areas of the file
module _ (opened : Opened) (is_fixed : ℕ → Bool) (len : ℕ) (layout : IsLayout (area_places opened.areas) is_fixed len) (open_ones : Digests) where
  abbrev pub AreHere : List ℕ → Type 0
  AreHere [] = Unit {0}
  AreHere (i ∷ is) = IsHere opened is_fixed len layout i × AreHere is

  abbrev pub AreBlocks : List Filling → Type 0
  AreBlocks [] = Unit {0}
  AreBlocks (f ∷ fs) = (IsHere opened is_fixed len layout f.index × (length f.block.bytes ≡ 4096)) × AreBlocks fs

  stored_here : (group : List Filling) → AreBlocks group → AreHere (stored_of open_ones (group_indices group))
  stored_here [] h = tt
  stored_here (f ∷ fs) h = step (not (is_in f.index open_ones)) (stored_here fs h.1)
    where
      step : (b : Bool) → AreHere (stored_of open_ones (group_indices fs)) → AreHere (cond b (f.index ∷ stored_of open_ones (group_indices fs)) (stored_of open_ones (group_indices fs)))
      step true rest = (h.0.0, rest)
      step false rest = rest

  -- ---- lengths

  stored_long : (file : SpottedBytes) (f : Filling) (b : Bool) → IsHere opened is_fixed len layout f.index → len ≤ length file.bytes → len ≤ length (with_stored opened file f b).bytes
  stored_long file f true here long = let more = block_length opened is_fixed len layout file long f here in omega arith
  stored_long file f false here long = long

  blocks_long : (group : List Filling) (file : SpottedBytes) → AreBlocks group → len ≤ length file.bytes → len ≤ length (with_blocks opened open_ones file group).bytes
  blocks_long [] file h long = long
  blocks_long (f ∷ fs) file h long = blocks_long fs (with_stored opened file f (not (is_in f.index open_ones))) h.1 (stored_long file f (not (is_in f.index open_ones)) h.0.0 long)

  place_long : (file : SpottedBytes) (i : ℕ) → IsHere opened is_fixed len layout i → len ≤ length file.bytes → len ≤ length (with_place_of opened file i).bytes
  place_long file i here long = let e = place_length opened is_fixed len layout file long i here in omega arith

  gate_long : (file : SpottedBytes) (i : ℕ) → IsHere opened is_fixed len layout i → len ≤ length file.bytes → len ≤ length (with_gate opened file i).bytes
  gate_long file i here long = let e = gate_length opened is_fixed len layout file long i here in omega arith

  pub one_long : (file : SpottedBytes) (f : Filling) (b : Bool) → IsHere opened is_fixed len layout f.index → len ≤ length file.bytes → len ≤ length (with_one opened file f b).bytes
  one_long file f true here long =
      gate_long (with_place_of opened (with_block opened file f) f.index) f.index here (place_long (with_block opened file f) f.index here (stored_long file f true here long))
  one_long file f false here long = long

  -- ---- a write after those of other indices, or before them

  place_first : (group : List Filling) (file : SpottedBytes) (i : ℕ) → IsHere opened is_fixed len layout i → has i (group_indices group) ≡ false → AreBlocks group → len ≤ length file.bytes
      → with_place_of opened (with_blocks opened open_ones file group) i ≡ with_blocks opened open_ones (with_place_of opened file i) group
  place_first [] file i here new h long = refl
  place_first (f ∷ fs) file i here new h long =
      let other = or_false (eqb i f.index) (has i (group_indices fs)) new in
      let b = not (is_in f.index open_ones) in
      place_first fs (with_stored opened file f b) i here other.1 h.1 (stored_long file f b h.0.0 long) ∙ ap (λ (s : SpottedBytes). with_blocks opened open_ones s fs) (step b other.0)
    where
      step : (b : Bool) → eqb i f.index ≡ false → with_place_of opened (with_stored opened file f b) i ≡ with_stored opened (with_place_of opened file i) f b
      step true other = place_then_block opened is_fixed len layout file long f i h.0.0 here h.0.1 other
      step false other = refl

  gate_first : (group : List Filling) (file : SpottedBytes) (i : ℕ) → IsHere opened is_fixed len layout i → AreBlocks group → len ≤ length file.bytes
      → with_gate opened (with_blocks opened open_ones file group) i ≡ with_blocks opened open_ones (with_gate opened file i) group
  gate_first [] file i here h long = refl
  gate_first (f ∷ fs) file i here h long =
      let b = not (is_in f.index open_ones) in
      gate_first fs (with_stored opened file f b) i here h.1 (stored_long file f b h.0.0 long) ∙ ap (λ (s : SpottedBytes). with_blocks opened open_ones s fs) (step b)
    where
      step : (b : Bool) → with_gate opened (with_stored opened file f b) i ≡ with_stored opened (with_gate opened file i) f b
      step true = gate_then_block opened is_fixed len layout file long f i h.0.0 here h.0.1
      step false = refl

  gate_before_places : (js : List ℕ) (file : SpottedBytes) (i : ℕ) → IsHere opened is_fixed len layout i → has i js ≡ false → AreHere js → len ≤ length file.bytes
      → with_gate opened (with_places opened file js) i ≡ with_places opened (with_gate opened file i) js
  gate_before_places [] file i here new all long = refl
  gate_before_places (j ∷ js) file i here new all long =
      let other = or_false (eqb i j) (has i js) new in
      gate_before_places js (with_place_of opened file j) i here other.1 all.1 (place_long file j all.0 long)
      ∙ ap (λ (s : SpottedBytes). with_places opened s js) (gate_then_place opened is_fixed len layout file long i j here all.0 other.0)

  -- ---- the whole group

  pub in_order : (group : List Filling) (file : SpottedBytes) → Differ (group_indices group) → AreBlocks group → len ≤ length file.bytes → with_group opened open_ones file group ≡ with_each opened open_ones file group
  in_order [] file new h long = refl
  in_order (f ∷ fs) file new h long = step (not (is_in f.index open_ones)) (λ next. in_order fs next new.1 h.1)
    where
      st : List ℕ
      st = stored_of open_ones (group_indices fs)

      ends : SpottedBytes → SpottedBytes
      ends s = with_gates opened (with_places opened s st) st

      step : (b : Bool) → ((next : SpottedBytes) → len ≤ length next.bytes → ends (with_blocks opened open_ones next fs) ≡ with_each opened open_ones next fs)
          → with_gates opened (with_places opened (with_blocks opened open_ones (with_stored opened file f b) fs) (cond b (f.index ∷ st) st)) (cond b (f.index ∷ st) st) ≡ with_each opened open_ones (with_one opened file f b) fs
      step true rest =
          let i = f.index in
          let blocked = with_block opened file f in
          let placed = with_place_of opened blocked i in
          let blocked_long = stored_long file f true h.0.0 long in
          let placed_long = place_long blocked i h.0.0 blocked_long in
          ap (λ (s : SpottedBytes). with_gates opened (with_gate opened (with_places opened s st) i) st) (place_first fs blocked i h.0.0 new.0 h.1 blocked_long)
          ∙ ap (λ (s : SpottedBytes). with_gates opened s st) (gate_before_places st (with_blocks opened open_ones placed fs) i h.0.0 (stored_has open_ones (group_indices fs) i new.0) (stored_here fs h.1) (blocks_long fs placed h.1 placed_long))
          ∙ ap ends (gate_first fs placed i h.0.0 h.1 placed_long)
          ∙ rest (with_gate opened placed i) (gate_long placed i h.0.0 placed_long)
      step false rest = rest file long
