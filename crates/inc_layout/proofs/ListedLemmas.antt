-- Lists of values by their numbers, and the least number that passes a test.
use Rattle.std.proofs.Common.{◌≡◌, ◌⊎◌, ℕ, zero, suc, ◌<◌, Bool, true, false, List, [], ◌∷◌, ◌++◌, length, get_or, Option, Some, None, inl, inr, refl, sym, ap, ◌∙◌, subst, arith, length-append}
use Rattle.std.proofs.Math.ListN.{get_or-append}
use Rattle.std.proofs.Math.Seq.{get_or-append_seam}
use Rattle.std.proofs.lemmas.Bool.{cases_lt}
use Rattle.std.proofs.lemmas.List.{ext_get_or}
use Rattle.inc_layout.specs.opening.Listed.{IsFirst, first_below, found_or, listed}

pub length-listed : {T : Type 0} (value : ℕ → T) (count : ℕ) → length (listed value count) ≡ count
unfolding listed
length-listed value zero = refl
length-listed value (suc count) = length-append (listed value count) (value count ∷ []) ∙ (let e = length-listed value count in omega arith)

pub listed_more : {T : Type 0} (value : ℕ → T) (count : ℕ) → listed value count ++ value count ∷ [] ≡ listed value (suc count)
unfolding listed
listed_more value count = refl

pub listed_at : {T : Type 0} (value : ℕ → T) (count i : ℕ) (d : T) → i < count → get_or (listed value count) i d ≡ value i
unfolding listed
listed_at value zero i d lt = absurd (omega arith)
listed_at value (suc count) i d lt =
    let sized = length-listed value count in
    elim (cases_lt i count) [
      | inl below ↦ get_or-append (listed value count) (value count ∷ []) d i (omega arith) ∙ listed_at value count i d below
      | inr above ↦ let last : i ≡ length (listed value count) = omega arith in let same : length (listed value count) ≡ count = sized in
          ap (λ (n : ℕ). get_or (listed value count ++ value count ∷ []) n d) last ∙ get_or-append_seam (listed value count) (value count) [] d ∙ ap value (sym same ∙ sym last)
    ]

pub listed_from : {T : Type 0} (value : ℕ → T) (count : ℕ) (items : List T) (d : T) → length items ≡ count → ((i : ℕ) → i < count → get_or items i d ≡ value i) → items ≡ listed value count
listed_from value count items d sized each =
    let whole = length-listed value count in
    ext_get_or d items (listed value count) (sized ∙ sym whole) (λ i lt. each i (omega arith) ∙ sym (listed_at value count i d (omega arith)))

pub none_yet : (passes : ℕ → Bool) → first_below 0 passes ≡ None
unfolding first_below
none_yet passes = refl

-- none below, and not this one
pub none_more : (count : ℕ) (passes : ℕ → Bool) → first_below count passes ≡ None → passes count ≡ false → first_below (suc count) passes ≡ None
unfolding first_below
none_more count passes none here = rw (none, here) refl

first_here : (count : ℕ) (passes : ℕ → Bool) → first_below count passes ≡ None → passes count ≡ true → first_below (suc count) passes ≡ Some count
unfolding first_below
first_here count passes none here = rw (none, here) refl

first_stays : (count : ℕ) (passes : ℕ → Bool) (found : ℕ) → first_below count passes ≡ Some found → first_below (suc count) passes ≡ Some found
unfolding first_below
first_stays count passes found e = rw e refl

-- none below, but this one
pub first_found : (most found : ℕ) (passes : ℕ → Bool) → first_below found passes ≡ None → passes found ≡ true → found < most → first_below most passes ≡ Some found
first_found zero found passes none here lt = absurd (omega arith)
first_found (suc most) found passes none here lt =
    elim (cases_lt found most) [
      | inl below ↦ first_stays most passes found (first_found most found passes none here below)
      | inr above ↦ let last : found ≡ most = omega arith in
          subst (λ (n : ℕ). first_below (suc n) passes ≡ Some found) last (first_here found passes none here)
    ]

-- ---- in words

split_none : (found : Option ℕ) (count : ℕ) (here : Bool) → found_or found count here ≡ None → (found ≡ None) × (here ≡ false)
split_none None count true e = absurd cc
split_none None count false e = (refl, refl)
split_none (Some at) count here e = absurd cc

pub none_below : (count : ℕ) (passes : ℕ → Bool) → first_below count passes ≡ None → (i : ℕ) → i < count → passes i ≡ false
unfolding first_below
none_below zero passes e i lt = absurd (omega arith)
none_below (suc count) passes e i lt =
    let parts = split_none (first_below count passes) count (passes count) e in
    elim (cases_lt i count) [
      | inl below ↦ none_below count passes parts.0 i below
      | inr above ↦ let last : i ≡ count = omega arith in ap passes last ∙ parts.1
    ]

pub below_none : (count : ℕ) (passes : ℕ → Bool) → ((i : ℕ) → i < count → passes i ≡ false) → first_below count passes ≡ None
below_none zero passes each = none_yet passes
below_none (suc count) passes each = none_more count passes (below_none count passes (λ i lt. each i (omega arith))) (each count (omega arith))

split_some : (found : Option ℕ) (count at : ℕ) (here : Bool) → found_or found count here ≡ Some at → (found ≡ Some at) ⊎ ((found ≡ None) × (here ≡ true) × (count ≡ at))
split_some None count at true e = inr (refl, refl, cc)
split_some None count at false e = absurd cc
split_some (Some before) count at here e = inl e

pub first_means : (count : ℕ) (passes : ℕ → Bool) (found : ℕ) → first_below count passes ≡ Some found → IsFirst count passes found
unfolding first_below
first_means zero passes found e = absurd cc
first_means (suc count) passes found e =
    elim (split_some (first_below count passes) count found (passes count) e) [
      | inl below ↦ let is = first_means count passes found below in record { within = (let lt = is.within in omega arith); here = is.here; first = is.first }
      | inr last ↦ record {
        within = omega (arith, last.2);
        here = ap passes (sym last.2) ∙ last.1;
        first = λ lower lt. none_below count passes last.0 lower (omega (arith, last.2));
      }
    ]
