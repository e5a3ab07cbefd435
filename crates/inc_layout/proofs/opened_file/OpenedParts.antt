-- The parts of an opened file, as lists, are found by their indices.
use Rattle.std.proofs.Common.{◌≡◌, ℕ, zero, suc, ◌+◌, ◌<◌, Bool, true, false, cond, ◌||◌, List, [], ◌∷◌, get_or, Option, Some, None, refl, sym, ◌∙◌, ap, arith}
use Rattle.std.proofs.lemmas.Bool.{eq-eqb, ne_eqb}
use Rattle.inc_entry.specs.declared.classes.Class.{Class}
use Rattle.inc_entry.specs.declared.classes.Class.TheVariants.{Closed, Compressed, Damaged, OpenAt}
use Rattle.inc_entry.specs.Stored.{is_compressed_class, is_damaged_class}
use Rattle.inc_layout.specs.state.Reopening.{AreOpened, indices_passing, kind_from, opened_kind, opened_parts, rows_of}
use Rattle.inc_layout.specs.state.State.{StateParts, has_index, kind_in, kind_of, kind_with, row_digest, unfilled_kind}
use Rattle.inc_layout.specs.declared.opened.Opened.{Opened}

-- ---- indices

other_first : (first i : ℕ) (rest : List ℕ) → (first ≡ i → ⊥) → has_index (first ∷ rest) i ≡ has_index rest i
other_first first i rest other = ap (λ b. b || has_index rest i) (ne_eqb first i other)

none_below : (passes : Class → Bool) (first : ℕ) (classes : List Class) (i : ℕ) → i < first → has_index (indices_passing passes first classes) i ≡ false
none_below passes first [] i lt = refl
none_below passes first (class ∷ classes) i lt =
    elim (passes class) as (λ b. has_index (cond b (first ∷ indices_passing passes (suc first) classes) (indices_passing passes (suc first) classes)) i ≡ false) [
      | true ↦ other_first first i (indices_passing passes (suc first) classes) (λ e. omega arith) ∙ none_below passes (suc first) classes i (omega arith)
      | false ↦ none_below passes (suc first) classes i (omega arith)
    ]

index_there : (passes : Class → Bool) (first : ℕ) (classes : List Class) (k i : ℕ) → passes Closed ≡ false → i ≡ first + k → has_index (indices_passing passes first classes) i ≡ passes (get_or classes k Closed)
index_there passes first [] k i closed is = sym closed
index_there passes first (class ∷ classes) zero i closed is =
    elim (passes class) as (λ b. has_index (cond b (first ∷ indices_passing passes (suc first) classes) (indices_passing passes (suc first) classes)) i ≡ b) [
      | true ↦ ap (λ b. b || has_index (indices_passing passes (suc first) classes) i) (eq-eqb first i (omega arith))
      | false ↦ none_below passes (suc first) classes i (omega arith)
    ]
index_there passes first (class ∷ classes) (suc k) i closed is =
    let rest = index_there passes (suc first) classes k i closed (omega arith) in
    elim (passes class) as (λ b. has_index (cond b (first ∷ indices_passing passes (suc first) classes) (indices_passing passes (suc first) classes)) i ≡ passes (get_or classes k Closed)) [
      | true ↦ other_first first i (indices_passing passes (suc first) classes) (λ e. omega arith) ∙ rest
      | false ↦ rest
    ]

-- ---- rows

other_row : (first i : ℕ) (digest : List ℕ) (rest : List (ℕ × List ℕ)) → (first ≡ i → ⊥) → row_digest ((first, digest) ∷ rest) i ≡ row_digest rest i
other_row first i digest rest other = ap (λ b. cond b (Some digest) (row_digest rest i)) (ne_eqb first i other)

no_row_below : (first : ℕ) (digests : List (Option (List ℕ))) (i : ℕ) → i < first → row_digest (rows_of first digests) i ≡ None
no_row_below first [] i lt = refl
no_row_below first (Some digest ∷ digests) i lt = other_row first i digest (rows_of (suc first) digests) (λ e. omega arith) ∙ no_row_below (suc first) digests i (omega arith)
no_row_below first (None ∷ digests) i lt = no_row_below (suc first) digests i (omega arith)

row_there : (first : ℕ) (digests : List (Option (List ℕ))) (k i : ℕ) → i ≡ first + k → row_digest (rows_of first digests) i ≡ get_or digests k None
row_there first [] k i is = refl
row_there first (Some digest ∷ digests) zero i is = ap (λ b. cond b (Some digest) (row_digest (rows_of (suc first) digests) i)) (eq-eqb first i (omega arith))
row_there first (Some digest ∷ digests) (suc k) i is =
    other_row first i digest (rows_of (suc first) digests) (λ e. omega arith) ∙ row_there (suc first) digests k i (omega arith)
row_there first (None ∷ digests) zero i is = no_row_below (suc first) digests i (omega arith)
row_there first (None ∷ digests) (suc k) i is = row_there (suc first) digests k i (omega arith)

-- ---- the parts

pub has_parts : (opened : Opened) → AreOpened opened (opened_parts opened)
has_parts opened = record {
  state = record { id_is = refl; root_is = refl; data_is = refl; hash_is = refl };
  damaged_is = λ i. index_there is_damaged_class 0 opened.classes i i refl (omega arith);
  compressed_is = λ i. index_there is_compressed_class 0 opened.classes i i refl (omega arith);
  acknowledged_is = λ i. row_there 0 opened.digests i i (omega arith);
  none_begun = refl;
}

-- ---- the kinds

kind_said : (found : Option (List ℕ)) (class : Class) → kind_with found None (unfilled_kind (is_damaged_class class) (is_compressed_class class)) ≡ kind_from found class
kind_said (Some digest) class = refl
kind_said None (OpenAt place size) = refl
kind_said None Damaged = refl
kind_said None Compressed = refl
kind_said None Closed = refl

pub kinds_agree : (opened : Opened) (parts : StateParts) → AreOpened opened parts → (i : ℕ) → kind_in parts i ≡ opened_kind opened i
unfolding kind_of
kinds_agree opened parts are i =
    let begun : row_digest parts.begun i ≡ None = ap (λ (rows : List (ℕ × List ℕ)). row_digest rows i) are.none_begun in
    (λ k. kind_with (are.acknowledged_is i k) (begun k) (unfilled_kind (are.damaged_is i k) (are.compressed_is i k)))
    ∙ kind_said (get_or opened.digests i None) (get_or opened.classes i Closed)
