-- The kind of an index by what is looked up in the state, and what the state of the parts says of it.
use Rattle.std.proofs.Common.{◌≡◌, ℕ, false, ◌||◌, cond, eqb, List, [], ◌∷◌, Option, None, refl, sym, ap, ◌∙◌, arith}
use Rattle.std.proofs.lemmas.Bool.Decides.{nat_tests}
use Rattle.inc_pending.specs.Keyed.{lookup}
use Rattle.inc_entry.specs.Keeps.{Kind, Shut}
use Rattle.inc_layout.specs.state.State.{has_index, kind_in, kind_of, kind_with, row_digest, unfilled_kind}
use Rattle.inc_model.specs.relation.Openings.{acknowledged_rows}
use Rattle.inc_model.specs.relation.State.{Digests, has}
use Rattle.inc_model.specs.declared.words.file_state.FileState.{FileState}
use Rattle.inc_model.proofs.runs.Openings.{acknowledged_found}
use Rattle.inc_cell.specs.seen.Parts.{parts_of}

-- ---- the two ways to look up

pub same_row : (rows : Digests) (i : ℕ) → row_digest rows i ≡ lookup i rows
same_row [] i = refl
same_row (row ∷ rows) i = grind (arith, nat_tests, same_row rows i)

pub same_index : (indices : List ℕ) (i : ℕ) → has_index indices i ≡ has i indices
same_index [] i = refl
same_index (index ∷ rest) i = ap (λ b. b || has_index rest i) (turned index i) ∙ ap (λ b. eqb i index || b) (same_index rest i)
  where
    turned : (a b : ℕ) → eqb a b ≡ eqb b a
    turned a b = grind (arith, nat_tests)

-- ---- the kind

-- the digest with which an index is acknowledged
abbrev pub held_digest : FileState → ℕ → Option (List ℕ)
held_digest s i = cond (has i s.acknowledged) (lookup i s.map) None

abbrev pub state_kind : FileState → ℕ → Kind
state_kind s i = kind_with (held_digest s i) (lookup i s.begun) (unfilled_kind (has i s.damaged) (has i s.compressed))

pub held_is : (s : FileState) (i : ℕ) → row_digest (acknowledged_rows s) i ≡ held_digest s i
held_is s i = same_row (acknowledged_rows s) i ∙ acknowledged_found s i

pub kind_is : (s : FileState) (i : ℕ) → kind_in (parts_of s) i ≡ state_kind s i
unfolding kind_of
kind_is s i =
    let held = held_is s i in
    let begun = same_row s.begun i in
    let damaged = same_index s.damaged i in
    let compressed = same_index s.compressed i in
    λ k. kind_with (held k) (begun k) (unfilled_kind (damaged k) (compressed k))

-- what two states say alike
pub same_kind : (s t : FileState) (i : ℕ) → held_digest t i ≡ held_digest s i → lookup i t.begun ≡ lookup i s.begun → t.damaged ≡ s.damaged → t.compressed ≡ s.compressed
    → kind_in (parts_of t) i ≡ kind_in (parts_of s) i
same_kind s t i held begun damaged compressed =
    kind_is t i ∙ (λ k. kind_with (held k) (begun k) (unfilled_kind (has i (damaged k)) (has i (compressed k)))) ∙ sym (kind_is s i)

-- nothing is known of it
pub shut_kind : (s : FileState) (i : ℕ) → has i s.acknowledged ≡ false → lookup i s.begun ≡ None → has i s.damaged ≡ false → has i s.compressed ≡ false → kind_in (parts_of s) i ≡ Shut
shut_kind s i unheld begun damaged compressed =
    kind_is s i ∙ (λ k. kind_with (cond (unheld k) (lookup i s.map) None) (begun k) (unfilled_kind (damaged k) (compressed k)))
