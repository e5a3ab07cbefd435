-- Names that differ from each other, and names in their order, each once.
use Rattle.std.proofs.Common.{◌≡◌, ◌⊎◌, inl, inr, if◌then◌else◌, ℕ, List, [], ◌∷◌, ◌++◌, Bool, true, false, ◌||◌, cond, refl, sym, ap, ◌∙◌, subst, append_assoc}
use Rattle.std.specs.Prelude.{◌&&◌, Contains, not}
use Rattle.std.specs.List.{list_any}
use Rattle.std.specs.Str.{bytes_eq}
use Rattle.std.proofs.lemmas.List.{append-nil}
use Rattle.std.proofs.lemmas.List.Folds.{list_any-append}
use Rattle.std.proofs.lemmas.Slice.Eq.{bytes_eq-Decides}
use Rattle.inc_disk.proofs.NamesLemmas.{is_there}
use Rattle.inc_io.specs.Names.{without}
use Rattle.inc_volume.specs.mounting.Cells.{AreDifferent, all_differ, each_once, with_name_once}

-- ---- one name more

pub same_bytes : (one other : List ℕ) → bytes_eq one other ≡ true → one ≡ other
same_bytes one other e = (bytes_eq-Decides one other).0 e

pub bytes_self : (one : List ℕ) → bytes_eq one one ≡ true
bytes_self one = (bytes_eq-Decides one one).1 refl

pub bytes_turned : (one other : List ℕ) → bytes_eq one other ≡ false → bytes_eq other one ≡ false
bytes_turned one other e =
    elim (bytes_eq other one) as (λ b. bytes_eq other one ≡ b → bytes_eq other one ≡ false) [
      | true ↦ λ same. absurd (let back : bytes_eq one other ≡ true = (bytes_eq-Decides one other).1 (sym (same_bytes other one same)) in cc)
      | false ↦ λ differ. differ
    ] refl

none_of : (a b : Bool) → (a || b) ≡ false → (a ≡ false) × (b ≡ false)
none_of true b e = absurd (cc)
none_of false b e = (refl, e)

neither : (a b : Bool) → a ≡ false → b ≡ false → (a || b) ≡ false
neither a b one other = rw one other

any_more : (name last : List ℕ) (names : List (List ℕ)) → list_any (bytes_eq name) (names ++ last ∷ []) ≡ (list_any (bytes_eq name) names || (bytes_eq name last || false))
any_more name last names = list_any-append (bytes_eq name) names (last ∷ [])

or_false : (b : Bool) → (b || false) ≡ b
or_false true = refl
or_false false = refl

-- the first differs from all others, and these from each other
both : (a b : Bool) → (a && b) ≡ true → (a ≡ true) × (b ≡ true)
both true b e = (refl, e)
both false b e = absurd (cc)

not_so : (a : Bool) → not a ≡ true → a ≡ false
not_so true e = absurd (cc)
not_so false e = refl

pub differ_first : (name : List ℕ) (names : List (List ℕ)) → AreDifferent (name ∷ names) → list_any (bytes_eq name) names ≡ false
differ_first name names differ = not_so (list_any (bytes_eq name) names) ((both (not (list_any (bytes_eq name) names)) (all_differ names) differ).0)

pub differ_rest : (name : List ℕ) (names : List (List ℕ)) → AreDifferent (name ∷ names) → AreDifferent names
differ_rest name names differ = (both (not (list_any (bytes_eq name) names)) (all_differ names) differ).1

pub differ_with : (name : List ℕ) (names : List (List ℕ)) → list_any (bytes_eq name) names ≡ false → AreDifferent names → AreDifferent (name ∷ names)
differ_with name names new differ = rw (new, differ) refl

pub different_more : (name : List ℕ) (names : List (List ℕ)) → AreDifferent names → list_any (bytes_eq name) names ≡ false → AreDifferent (names ++ name ∷ [])
different_more name [] differ new = refl
different_more name (other ∷ names) differ new =
    let apart = none_of (bytes_eq name other) (list_any (bytes_eq name) names) new in
    let last = neither (list_any (bytes_eq other) names) (bytes_eq other name || false) (differ_first other names differ) (or_false (bytes_eq other name) ∙ bytes_turned name other apart.0) in
    differ_with other (names ++ name ∷ []) (any_more other name names ∙ last) (different_more name names (differ_rest other names differ) apart.1)

pub without_last : (name : List ℕ) (names : List (List ℕ)) → list_any (bytes_eq name) names ≡ false → without name (names ++ name ∷ []) ≡ names
without_last name [] new = ap (λ (b : Bool). cond b [] (name ∷ [])) (bytes_self name)
without_last name (other ∷ names) new =
    let apart = none_of (bytes_eq name other) (list_any (bytes_eq name) names) new in
    ap (λ (b : Bool). cond b (without name (names ++ name ∷ [])) (other ∷ without name (names ++ name ∷ []))) apart.0
    ∙ ap (λ (more : List (List ℕ)). other ∷ more) (without_last name names apart.1)

-- a name that no test finds isn't there, and one that was put last is
pub not_there : (name : List ℕ) (names : List (List ℕ)) → list_any (bytes_eq name) names ≡ false → Contains names name → ⊥
not_there name names new there = let is : list_any (bytes_eq name) names ≡ true = is_there name names there in let clash : false ≡ true = sym new ∙ is in cc

-- ---- in their order, each once

-- the names that come to those that are there
abbrev pub added : List (List ℕ) → List (List ℕ) → List (List ℕ)
added taken [] = taken
added taken (name ∷ names) = cond (list_any (bytes_eq name) taken) (added taken names) (added (taken ++ name ∷ []) names)

abbrev but_for : List (List ℕ) → List (List ℕ) → List (List ℕ)
but_for taken [] = []
but_for taken (name ∷ names) = cond (list_any (bytes_eq name) taken) (but_for taken names) (name ∷ but_for taken names)

but_for_none : (names : List (List ℕ)) → but_for [] names ≡ names
but_for_none [] = refl
but_for_none (name ∷ names) = ap (λ (more : List (List ℕ)). name ∷ more) (but_for_none names)

but_for_known : (name : List ℕ) (taken names : List (List ℕ)) → list_any (bytes_eq name) taken ≡ true → but_for taken (without name names) ≡ but_for taken names
but_for_known name taken [] known = refl
but_for_known name taken (other ∷ names) known =
    elim (bytes_eq name other) as (λ b. bytes_eq name other ≡ b → but_for taken (cond b (without name names) (other ∷ without name names)) ≡ but_for taken (other ∷ names)) [
      | true ↦ λ e.
          but_for_known name taken names known
          ∙ sym (ap (λ (b : Bool). cond b (but_for taken names) (other ∷ but_for taken names)) (subst (λ (n : List ℕ). list_any (bytes_eq n) taken ≡ true) (same_bytes name other e) known))
      | false ↦ λ e. ap (λ (more : List (List ℕ)). cond (list_any (bytes_eq other) taken) more (other ∷ more)) (but_for_known name taken names known)
    ] refl

but_for_more : (name : List ℕ) (taken names : List (List ℕ)) → but_for (taken ++ name ∷ []) names ≡ but_for taken (without name names)
but_for_more name taken [] = refl
but_for_more name taken (other ∷ names) =
    elim (bytes_eq name other) as (λ b. bytes_eq name other ≡ b → but_for (taken ++ name ∷ []) (other ∷ names) ≡ but_for taken (cond b (without name names) (other ∷ without name names))) [
      | true ↦ λ e.
          ap (λ (b : Bool). cond b (but_for (taken ++ name ∷ []) names) (other ∷ but_for (taken ++ name ∷ []) names))
          (any_more other name taken ∙ here other name taken (subst (λ (n : List ℕ). bytes_eq n name ≡ true) (same_bytes name other e) (bytes_self name)))
          ∙ but_for_more name taken names
      | false ↦ λ e.
          ap (λ (b : Bool). cond b (but_for (taken ++ name ∷ []) names) (other ∷ but_for (taken ++ name ∷ []) names))
          (any_more other name taken ∙ elsewhere (list_any (bytes_eq other) taken) (bytes_eq other name) (bytes_turned name other e))
          ∙ ap (λ (more : List (List ℕ)). cond (list_any (bytes_eq other) taken) more (other ∷ more)) (but_for_more name taken names)
    ] refl
  where
    here_by : (a b : Bool) → b ≡ true → (a || (b || false)) ≡ true
    here_by true b e = refl
    here_by false b e = rw e refl

    here : (other name : List ℕ) (taken : List (List ℕ)) → bytes_eq other name ≡ true → (list_any (bytes_eq other) taken || (bytes_eq other name || false)) ≡ true
    here other name taken e = here_by (list_any (bytes_eq other) taken) (bytes_eq other name) e

    elsewhere : (a b : Bool) → b ≡ false → (a || (b || false)) ≡ a
    elsewhere a b e = rw e (or_false a)

added_is : (taken names : List (List ℕ)) → added taken names ≡ taken ++ but_for taken (each_once names)
added_is taken [] = sym (append-nil taken)
added_is taken (name ∷ names) =
    elim (list_any (bytes_eq name) taken) as (λ b. list_any (bytes_eq name) taken ≡ b
    → cond b (added taken names) (added (taken ++ name ∷ []) names) ≡ taken ++ cond b (but_for taken (without name (each_once names))) (name ∷ but_for taken (without name (each_once names)))) [
      | true ↦ λ e. added_is taken names ∙ ap (λ (more : List (List ℕ)). taken ++ more) (sym (but_for_known name taken (each_once names) e))
      | false ↦ λ e.
          added_is (taken ++ name ∷ []) names
          ∙ ap (λ (more : List (List ℕ)). (taken ++ name ∷ []) ++ more) (but_for_more name taken (each_once names))
          ∙ append_assoc taken (name ∷ []) (but_for taken (without name (each_once names)))
    ] refl

pub all_added : (names : List (List ℕ)) → added [] names ≡ each_once names
all_added names = added_is [] names ∙ but_for_none (each_once names)

-- the next name is there already, or comes to them
pub added_next : (name : List ℕ) (taken names : List (List ℕ)) → added taken (name ∷ names) ≡ added (with_name_once taken name) names
added_next name taken names =
    elim (list_any (bytes_eq name) taken) as (λ b. cond b (added taken names) (added (taken ++ name ∷ []) names) ≡ added (if b then taken else taken ++ name ∷ []) names) [
      | true ↦ refl
      | false ↦ refl
    ]

-- the names with one more are among some, where they and that one are
pub once_within : (name : List ℕ) (taken wanted : List (List ℕ)) → ((other : List ℕ) → list_any (bytes_eq other) taken ≡ true → list_any (bytes_eq other) wanted ≡ true)
    → list_any (bytes_eq name) wanted ≡ true → (other : List ℕ) → list_any (bytes_eq other) (with_name_once taken name) ≡ true → list_any (bytes_eq other) wanted ≡ true
once_within name taken wanted within here other there =
    elim (list_any (bytes_eq name) taken) as (λ b. list_any (bytes_eq other) (if b then taken else taken ++ name ∷ []) ≡ true → list_any (bytes_eq other) wanted ≡ true) [
      | true ↦ λ e. within other e
      | false ↦ λ e.
          elim (either (list_any (bytes_eq other) taken) (bytes_eq other name || false) (sym (any_more other name taken) ∙ e)) [
            | inl before ↦ within other before
            | inr last ↦ subst (λ (n : List ℕ). list_any (bytes_eq n) wanted ≡ true) (sym (same_bytes other name (sym (or_false (bytes_eq other name)) ∙ last))) here
          ]
    ] there
  where
    either : (a b : Bool) → (a || b) ≡ true → (a ≡ true) ⊎ (b ≡ true)
    either true b e = inl refl
    either false b e = inr e
