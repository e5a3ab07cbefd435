-- The areas of a file by their bytes: no byte lies in two of them.
use Rattle.std.proofs.Common.{◌≡◌, ◌⊎◌, inl, inr, ℕ, ◌+◌, ◌<◌, ◌≤◌, Bool, true, ◌&&◌, ◌||◌, eqb, leb, List, [], ◌∷◌, ◌++◌, refl, sym, subst, arith}
use Rattle.std.specs.Prelude.{nat_le, nat_lt, All}
use Rattle.std.proofs.lemmas.Bool.{and_parts, and_from, or_cases, eqb-true, eq-eqb, leb-true, ltb-true, lt-ltb, le-ltb, cases_lt}
use Rattle.std.proofs.lemmas.Bool.Decides.{nat_tests}
use Rattle.std.proofs.lemmas.List.Elements.{All-head, All-tail}
use Rattle.inc_bytes.specs.declared.span.Span.{Span}
use Rattle.inc_tree.specs.shape.Geometry.{data_blocks}
use Rattle.inc_entry.specs.Spans.{IsClear, IsDisjoint, misses, is_clear}
use Rattle.inc_entry.specs.Entry.{Places, areas_of, entries, entry_at, fits, hash_place, map_span, tree_span}
use Rattle.inc_entry.specs.Spans.{AreApart, IsInside}
use Rattle.inc_entry.specs.Keeps.{IsLayout}
use Rattle.inc_entry.specs.Spans.{in_spans}

abbrev pub InSpan : ℕ → Span → Type 0
InSpan j span = (span.at ≤ j) × (j < span.at + span.len)

abbrev pub InSpans : ℕ → List Span → Type 0
InSpans j [] = ⊥
InSpans j (span ∷ spans) = InSpan j span ⊎ InSpans j spans

abbrev in_span : ℕ → Span → Bool
in_span j span = nat_le span.at j && nat_lt j (span.at + span.len)

in_span_means : (j : ℕ) (span : Span) → in_span j span ≡ true → InSpan j span
in_span_means j span h = let parts = and_parts (nat_le span.at j) (nat_lt j (span.at + span.len)) h in (leb-true _ _ parts.0, ltb-true _ _ parts.1)

pub in_spans_means : (spans : List Span) (j : ℕ) → in_spans spans j ≡ true → InSpans j spans
in_spans_means [] j h = absurd (cc)
in_spans_means (span ∷ spans) j h =
    elim (or_cases (in_span j span) (in_spans spans j) h) [
      | inl here ↦ inl (in_span_means j span here)
      | inr there ↦ inr (in_spans_means spans j there)
    ]

in_later : (xs ys : List Span) (j : ℕ) → InSpans j ys → InSpans j (xs ++ ys)
in_later [] ys j there = there
in_later (x ∷ xs) ys j there = inr (in_later xs ys j there)

in_sooner : (xs ys : List Span) (j : ℕ) → InSpans j xs → InSpans j (xs ++ ys)
in_sooner [] ys j here = absurd here
in_sooner (x ∷ xs) ys j (inl here) = inl here
in_sooner (x ∷ xs) ys j (inr there) = inr (in_sooner xs ys j there)

-- ---- a range clear of spans has none of their bytes

misses_byte : (span : Span) (at n j : ℕ) → misses span at n ≡ true → InSpan j span → at ≤ j → j < at + n → ⊥
unfolding misses
misses_byte span at n j h here from until =
    elim (or_cases (eqb span.len 0 || eqb n 0) _ h) [
      | inl empty ↦ elim (or_cases (eqb span.len 0) (eqb n 0) empty) [
        | inl e ↦ let zero : span.len ≡ 0 = eqb-true _ _ e in omega (arith, here.0, here.1)
        | inr e ↦ let zero : n ≡ 0 = eqb-true _ _ e in omega arith
      ]
      | inr apart ↦ elim (or_cases (leb (at + n) span.at) (leb (span.at + span.len) at) apart) [
        | inl e ↦ let before : at + n ≤ span.at = leb-true _ _ e in omega (arith, here.0, here.1)
        | inr e ↦ let behind : span.at + span.len ≤ at = leb-true _ _ e in omega (arith, here.0, here.1)
      ]
    ]

clear_byte : (spans : List Span) (at n j : ℕ) → is_clear spans at n ≡ true → InSpans j spans → at ≤ j → j < at + n → ⊥
clear_byte [] at n j clear here from until = here
clear_byte (span ∷ spans) at n j clear (inl here) from until = misses_byte span at n j (and_parts (misses span at n) (is_clear spans at n) clear).0 here from until
clear_byte (span ∷ spans) at n j clear (inr there) from until = clear_byte spans at n j (and_parts (misses span at n) (is_clear spans at n) clear).1 there from until

apart_byte : (spans : List Span) (at n j : ℕ) → IsClear spans at n → InSpans j spans → at ≤ j → j < at + n → ⊥
apart_byte [] at n j clear here from until = here
apart_byte (span ∷ spans) at n j clear (inl here) from until = All-head (λ (s : Span). IsDisjoint s at n) span spans clear j here.0 here.1 from until
apart_byte (span ∷ spans) at n j clear (inr there) from until = apart_byte spans at n j (All-tail (λ (s : Span). IsDisjoint s at n) span spans clear) there from until

two_apart : (xs ys : List Span) (j : ℕ) → AreApart (xs ++ ys) → InSpans j xs → InSpans j ys → ⊥
two_apart [] ys j apart here there = here
two_apart (x ∷ xs) ys j apart (inl here) there = apart_byte (xs ++ ys) x.at x.len j apart.0 (in_later xs ys j there) here.0 here.1
two_apart (x ∷ xs) ys j apart (inr more) there = two_apart xs ys j apart.1 more there

apart_rest : (xs ys : List Span) → AreApart (xs ++ ys) → AreApart ys
apart_rest [] ys apart = apart
apart_rest (x ∷ xs) ys apart = apart_rest xs ys apart.1

in_inside : (spans : List Span) (len j : ℕ) → All (IsInside len) spans → InSpans j spans → j < len
in_inside [] len j inside here = absurd here
in_inside (span ∷ spans) len j inside (inl here) = omega (arith, here.0, here.1, All-head (IsInside len) span spans inside (omega (arith, here.0, here.1)))
in_inside (span ∷ spans) len j inside (inr there) = in_inside spans len j (All-tail (IsInside len) span spans inside) there

-- behind all spans a range is clear of them
past_misses : (span : Span) (len at n : ℕ) → IsInside len span → len ≤ at → misses span at n ≡ true
unfolding misses
past_misses span len at n inside past =
    elim (cases_lt 0 span.len) [
      | inl some ↦ let end = inside some in grind (arith, nat_tests)
      | inr none ↦ grind (arith, nat_tests)
    ]

past_clear : (spans : List Span) (len at n : ℕ) → All (IsInside len) spans → len ≤ at → is_clear spans at n ≡ true
past_clear [] len at n inside past = refl
past_clear (span ∷ spans) len at n inside past =
    and_from (misses span at n) (is_clear spans at n) (past_misses span len at n (All-head (IsInside len) span spans inside) past)
    (past_clear spans len at n (All-tail (IsInside len) span spans inside) past)

-- ---- the areas of a layout

abbrev map_and_tree : Places → List Span
map_and_tree places = map_span places ∷ tree_span places ∷ []

pub spans_or_map : (places : Places) (is_fixed : ℕ → Bool) (len j : ℕ) → IsLayout places is_fixed len → in_spans places.spans j ≡ true → InSpan j (map_span places) → ⊥
spans_or_map places is_fixed len j layout here there = two_apart places.spans (map_and_tree places) j layout.all_apart (in_spans_means places.spans j here) (inl there)

pub spans_or_tree : (places : Places) (is_fixed : ℕ → Bool) (len j : ℕ) → IsLayout places is_fixed len → in_spans places.spans j ≡ true → InSpan j (tree_span places) → ⊥
spans_or_tree places is_fixed len j layout here there = two_apart places.spans (map_and_tree places) j layout.all_apart (in_spans_means places.spans j here) (inr (inl there))

pub map_or_tree : (places : Places) (is_fixed : ℕ → Bool) (len j : ℕ) → IsLayout places is_fixed len → InSpan j (map_span places) → InSpan j (tree_span places) → ⊥
map_or_tree places is_fixed len j layout here there =
    apart_byte (tree_span places ∷ []) (map_span places).at (map_span places).len j (apart_rest places.spans (map_and_tree places) layout.all_apart).0 (inl there) here.0 here.1

pub spans_inside : (places : Places) (is_fixed : ℕ → Bool) (len j : ℕ) → IsLayout places is_fixed len → in_spans places.spans j ≡ true → j < len
spans_inside places is_fixed len j layout here = in_inside (areas_of places) len j layout.inside (in_sooner places.spans (map_and_tree places) j (in_spans_means places.spans j here))

pub map_inside : (places : Places) (is_fixed : ℕ → Bool) (len j : ℕ) → IsLayout places is_fixed len → InSpan j (map_span places) → j < len
map_inside places is_fixed len j layout here = in_inside (areas_of places) len j layout.inside (in_later places.spans (map_and_tree places) j (inl here))

pub tree_inside : (places : Places) (is_fixed : ℕ → Bool) (len j : ℕ) → IsLayout places is_fixed len → InSpan j (tree_span places) → j < len
tree_inside places is_fixed len j layout here = in_inside (areas_of places) len j layout.inside (in_later places.spans (map_and_tree places) j (inr (inl here)))

pub fixed_inside : (places : Places) (is_fixed : ℕ → Bool) (len j : ℕ) → IsLayout places is_fixed len → is_fixed j ≡ true → j < len
fixed_inside places is_fixed len j layout here = spans_inside places is_fixed len j layout (layout.fixed_in j here)

-- ---- entries

pub in_map : (places : Places) (i k : ℕ) → i < entries places → k < 10 → InSpan (entry_at places i + k) (map_span places)
in_map places i k here lt = (omega arith, omega arith)

pub entry_inside : (places : Places) (is_fixed : ℕ → Bool) (len i k : ℕ) → IsLayout places is_fixed len → i < entries places → k < 10 → entry_at places i + k < len
entry_inside places is_fixed len i k layout here lt = map_inside places is_fixed len _ layout (in_map places i k here lt)

-- ---- blocks

pub fits_cases : (places : Places) (i at n : ℕ) → fits places i at n ≡ true
    → ((i < data_blocks places.shape) × (is_clear (areas_of places) at n ≡ true)) ⊎ ((data_blocks places.shape ≤ i) × (at ≡ hash_place places i))
unfolding fits
fits_cases places i at n h =
    elim (cases_lt i (data_blocks places.shape)) [
      | inl lt ↦ inl (lt, rw (lt-ltb i (data_blocks places.shape) lt) at h)
      | inr ge ↦ inr (ge, eqb-true at (hash_place places i) (rw (le-ltb i (data_blocks places.shape) ge) at h))
    ]

pub hash_in_tree : (places : Places) (i k : ℕ) → data_blocks places.shape ≤ i → i < entries places → k < 4096 → InSpan (hash_place places i + k) (tree_span places)
hash_in_tree places i k ge here lt = (omega arith, omega arith)

pub block_or_spans : (places : Places) (is_fixed : ℕ → Bool) (len i at n k : ℕ) → IsLayout places is_fixed len → i < entries places → n ≤ 4096 → fits places i at n ≡ true
    → k < n → in_spans places.spans (at + k) ≡ true → ⊥
block_or_spans places is_fixed len i at n k layout here small fit lt there =
    elim (fits_cases places i at n fit) [
      | inl both ↦ clear_byte (areas_of places) at n (at + k) both.1 (in_sooner places.spans (map_and_tree places) (at + k) (in_spans_means places.spans (at + k) there)) (omega arith) (omega arith)
      | inr both ↦
          let tree : InSpan (at + k) (tree_span places) = subst (λ (p : ℕ). InSpan (p + k) (tree_span places)) (sym both.1) (hash_in_tree places i k both.0 here (omega arith)) in
          spans_or_tree places is_fixed len (at + k) layout there tree
    ]

pub block_or_map : (places : Places) (is_fixed : ℕ → Bool) (len i at n k : ℕ) → IsLayout places is_fixed len → i < entries places → n ≤ 4096 → fits places i at n ≡ true
    → k < n → InSpan (at + k) (map_span places) → ⊥
block_or_map places is_fixed len i at n k layout here small fit lt there =
    elim (fits_cases places i at n fit) [
      | inl both ↦ clear_byte (areas_of places) at n (at + k) both.1 (in_later places.spans (map_and_tree places) (at + k) (inl there)) (omega arith) (omega arith)
      | inr both ↦
          let tree : InSpan (at + k) (tree_span places) = subst (λ (p : ℕ). InSpan (p + k) (tree_span places)) (sym both.1) (hash_in_tree places i k both.0 here (omega arith)) in
          map_or_tree places is_fixed len (at + k) layout there tree
    ]

-- a data block has no byte in the tree
pub data_or_tree : (places : Places) (i at n k : ℕ) → i < data_blocks places.shape → fits places i at n ≡ true → k < n → InSpan (at + k) (tree_span places) → ⊥
data_or_tree places i at n k content fit lt there =
    elim (fits_cases places i at n fit) [
      | inl both ↦ clear_byte (areas_of places) at n (at + k) both.1 (in_later places.spans (map_and_tree places) (at + k) (inr (inl there))) (omega arith) (omega arith)
      | inr both ↦ absurd (omega (arith, both.0))
    ]

-- ---- the place of a new block

pub end_fits : (places : Places) (is_fixed : ℕ → Bool) (len i at : ℕ) → IsLayout places is_fixed len → i < data_blocks places.shape → len ≤ at → fits places i at 4096 ≡ true
unfolding fits
end_fits places is_fixed len i at layout content past = rw (lt-ltb i (data_blocks places.shape) content) (past_clear (areas_of places) len at 4096 layout.inside past)

pub hash_fits : (places : Places) (i at : ℕ) → data_blocks places.shape ≤ i → at ≡ hash_place places i → fits places i at 4096 ≡ true
unfolding fits
hash_fits places i at ge is = rw (le-ltb i (data_blocks places.shape) ge) (eq-eqb at (hash_place places i) is)

-- no block stands at 0, where the header is
pub some_place : (places : Places) (is_fixed : ℕ → Bool) (len i at : ℕ) → IsLayout places is_fixed len → i < entries places → fits places i at 4096 ≡ true → 0 < at
some_place places is_fixed len i at layout here fit =
    elim (cases_lt 0 at) [
      | inl lt ↦ lt
      | inr le ↦
          let zero : at + 0 ≡ 0 = omega arith in
          absurd (block_or_spans places is_fixed len i at 4096 0 layout here (omega arith) fit (omega arith) (subst (λ (j : ℕ). in_spans places.spans j ≡ true) (sym zero) layout.header))
    ]
