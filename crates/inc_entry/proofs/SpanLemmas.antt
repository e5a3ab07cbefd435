-- Spans that are inside a file, and spans with no byte in common: the tests and the words.
use Rattle.std.proofs.Common.{◌≡◌, ℕ, ◌+◌, ◌<◌, ◌≤◌, Bool, true, false, ◌||◌, eqb, leb, List, [], ◌∷◌, get_or, refl, arith, inl, inr}
use Rattle.std.proofs.lemmas.Bool.{leb-true, eqb-true, eqb-false, leb-false, or_cases, cases_lt, and_parts, and_from}
use Rattle.std.proofs.lemmas.Bool.Decides.{nat_tests}
use Rattle.std.proofs.lemmas.List.Sums.{AllPass-from_list_all, list_all-from_AllPass}
use Rattle.inc_bytes.specs.declared.span.Span.{Span}
use Rattle.inc_entry.specs.Spans.{AreApart, IsClear, IsDisjoint, IsInside, are_apart, is_clear, is_inside, misses}

pub or_false : (a b : Bool) → a || b ≡ false → (a ≡ false) × (b ≡ false)
or_false true b h = absurd cc
or_false false b h = (refl, h)

misses_means : (span : Span) (at len : ℕ) → misses span at len ≡ true → IsDisjoint span at len
unfolding misses
misses_means span at len h j from until start end =
    elim (or_cases (eqb span.len 0 || eqb len 0) _ h) [
      | inl empty ↦ elim (or_cases (eqb span.len 0) (eqb len 0) empty) [
        | inl e ↦ let zero : span.len ≡ 0 = eqb-true _ _ e in omega arith
        | inr e ↦ let zero : len ≡ 0 = eqb-true _ _ e in omega arith
      ]
      | inr apart ↦ elim (or_cases (leb (at + len) span.at) (leb (span.at + span.len) at) apart) [
        | inl e ↦ let before : at + len ≤ span.at = leb-true _ _ e in omega arith
        | inr e ↦ let behind : span.at + span.len ≤ at = leb-true _ _ e in omega arith
      ]
    ]

-- of two ranges that meet, the later first byte is in both
common_byte : (span : Span) (at len : ℕ) → IsDisjoint span at len → 0 < span.len → 0 < len → span.at < at + len → at < span.at + span.len → ⊥
common_byte span at len apart some more before behind =
    elim (cases_lt at span.at) [
      | inl lt ↦ apart span.at (omega arith) (omega arith) (omega arith) (omega arith)
      | inr le ↦ apart at (omega arith) (omega arith) (omega arith) (omega arith)
    ]

disjoint_misses : (span : Span) (at len : ℕ) → IsDisjoint span at len → misses span at len ≡ true
unfolding misses
disjoint_misses span at len apart =
    elim (((eqb span.len 0) || (eqb len 0)) || (leb (at + len) span.at || leb (span.at + span.len) at)) as (λ b. ((eqb span.len 0) || (eqb len 0)) || (leb (at + len) span.at || leb (span.at + span.len) at) ≡ b → b ≡ true) [
      | true ↦ λ h. refl
      | false ↦ λ h.
          let all = or_false _ _ h in
          let empty = or_false (eqb span.len 0) (eqb len 0) all.0 in
          let order = or_false (leb (at + len) span.at) (leb (span.at + span.len) at) all.1 in
          let some = eqb-false span.len 0 empty.0 in
          let more = eqb-false len 0 empty.1 in
          let before = leb-false (at + len) span.at order.0 in
          let behind = leb-false (span.at + span.len) at order.1 in
          absurd (common_byte span at len apart (omega arith) (omega arith) before behind)
    ] refl

pub clear_means : (spans : List Span) (at len : ℕ) → is_clear spans at len ≡ true → IsClear spans at len
clear_means spans at len h k d lt = misses_means (get_or spans k d) at len (AllPass-from_list_all (λ span. misses span at len) spans h k d lt)

pub means_clear : (spans : List Span) (at len : ℕ) → IsClear spans at len → is_clear spans at len ≡ true
means_clear spans at len h = list_all-from_AllPass (λ span. misses span at len) spans (λ k d lt. disjoint_misses (get_or spans k d) at len (h k d lt))

pub apart_means : (spans : List Span) → are_apart spans ≡ true → AreApart spans
apart_means [] e = tt
apart_means (span ∷ spans) e = (clear_means spans span.at span.len (and_parts _ _ e).0, apart_means spans (and_parts _ _ e).1)

pub means_apart : (spans : List Span) → AreApart spans → are_apart spans ≡ true
means_apart [] e = refl
means_apart (span ∷ spans) e = and_from _ _ (means_clear spans span.at span.len e.0) (means_apart spans e.1)

pub inside_means : (len : ℕ) (span : Span) → is_inside len span ≡ true → IsInside len span
inside_means len span e some = grind (arith, nat_tests)

pub means_inside : (len : ℕ) (span : Span) → IsInside len span → is_inside len span ≡ true
means_inside len span e =
    elim (cases_lt 0 span.len) [
      | inl lt ↦ let le = e lt in grind (arith, nat_tests)
      | inr le ↦ grind (arith, nat_tests)
    ]
