-- What it means that a path breaks nowhere, or first at a level.
use Rattle.std.proofs.Common.{◌≡◌, ◌≢◌, ◌⊎◌, ℕ, zero, suc, ◌+◌, ◌<◌, ◌≤◌, true, false, cond, List, length, Option, Some, None, refl, subst, arith, inl, inr}
use Rattle.std.specs.Prelude.{bytes_eq}
use Rattle.std.proofs.lemmas.Bool.{cases_lt}
use Rattle.std.proofs.lemmas.Slice.Eq.{bytes_eq-Decides}
use Rattle.inc_tree.specs.shape.Geometry.{Shape, depth}
use Rattle.inc_tree.specs.read_block.Path.{BreaksFirst, IsProof, break_from, digest_below, digest_wanted, first_break}

abbrev Agree : List ℕ → ℕ → List ℕ → List (List ℕ) → ℕ → Type 0
Agree root index bytes path level = digest_below bytes path level ≡ digest_wanted root index path level

-- ---- nowhere

same_level : (a b : List ℕ) (later : Option ℕ) (level : ℕ) → cond (bytes_eq a b) later (Some level) ≡ None → (a ≡ b) × (later ≡ None)
same_level a b later level =
    elim (bytes_eq a b) as (λ t. bytes_eq a b ≡ t → cond t later (Some level) ≡ None → (a ≡ b) × (later ≡ None)) [
      | true ↦ λ is e. ((bytes_eq-Decides a b).0 is, e)
      | false ↦ λ is e. absurd (cc)
    ] refl

levels_agree : (root : List ℕ) (index : ℕ) (bytes : List ℕ) (path : List (List ℕ)) (more level : ℕ) → break_from root index bytes path more level ≡ None
    → (l : ℕ) → level ≤ l → l ≤ level + more → Agree root index bytes path l
unfolding break_from
levels_agree root index bytes path zero level none l low high =
    let here : level ≡ l = omega arith in
    let same = same_level (digest_below bytes path level) (digest_wanted root index path level) None level none in
    subst (λ (n : ℕ). Agree root index bytes path n) here same.0
levels_agree root index bytes path (suc more) level none l low high =
    let same = same_level (digest_below bytes path level) (digest_wanted root index path level) (break_from root index bytes path more (suc level)) level none in
    elim (cases_lt level l) [
      | inl above ↦ levels_agree root index bytes path more (suc level) same.1 l (omega arith) (omega arith)
      | inr here ↦ let is : level ≡ l = omega arith in subst (λ (n : ℕ). Agree root index bytes path n) is same.0
    ]

pub proof_of : (root : List ℕ) (shape : Shape) (index : ℕ) (bytes : List ℕ) (path : List (List ℕ)) → length path ≡ depth shape → first_break root index bytes path ≡ None → IsProof root shape index bytes path
unfolding first_break
proof_of root shape index bytes path full none = record {
  full = full;
  each = λ level le. levels_agree root index bytes path (length path) 0 none level (omega arith) (omega arith);
}

-- ---- first at a level

record BreaksFrom (root : List ℕ) (index : ℕ) (bytes : List ℕ) (path : List (List ℕ)) (more level at : ℕ) : Type 0 where
  within : at ≤ level + more
  differs : digest_below bytes path at ≢ digest_wanted root index path at
  first : (l : ℕ) → level ≤ l → l < at → Agree root index bytes path l

-- the break is here, or later
other_level : (a b : List ℕ) (later : Option ℕ) (level at : ℕ) → cond (bytes_eq a b) later (Some level) ≡ Some at → ((a ≡ b) × (later ≡ Some at)) ⊎ ((a ≢ b) × (level ≡ at))
other_level a b later level at =
    elim (bytes_eq a b) as (λ t. bytes_eq a b ≡ t → cond t later (Some level) ≡ Some at → ((a ≡ b) × (later ≡ Some at)) ⊎ ((a ≢ b) × (level ≡ at))) [
      | true ↦ λ is e. inl ((bytes_eq-Decides a b).0 is, e)
      | false ↦ λ is e. inr (λ same. (let yes = (bytes_eq-Decides a b).1 same in absurd (cc)), cc)
    ] refl

break_at : (root : List ℕ) (index : ℕ) (bytes : List ℕ) (path : List (List ℕ)) (more level at : ℕ) → break_from root index bytes path more level ≡ Some at → BreaksFrom root index bytes path more level at
unfolding break_from
break_at root index bytes path zero level at e =
    elim (other_level (digest_below bytes path level) (digest_wanted root index path level) None level at e) [
      | inl later ↦ absurd (let none = later.1 in cc)
      | inr here ↦ record {
        within = omega (arith, here.1);
        differs = subst (λ (n : ℕ). digest_below bytes path n ≢ digest_wanted root index path n) here.1 here.0;
        first = λ l low high. absurd (omega (arith, here.1));
      }
    ]
break_at root index bytes path (suc more) level at e =
    elim (other_level (digest_below bytes path level) (digest_wanted root index path level) (break_from root index bytes path more (suc level)) level at e) [
      | inl later ↦
          let rest = break_at root index bytes path more (suc level) at later.1 in
          record {
            within = (let w = rest.within in omega arith);
            differs = rest.differs;
            first = λ l low high. elim (cases_lt level l) [
              | inl above ↦ rest.first l (omega arith) high
              | inr le ↦ let is : level ≡ l = omega arith in subst (λ (n : ℕ). Agree root index bytes path n) is later.0
            ];
          }
      | inr here ↦ record {
        within = omega (arith, here.1);
        differs = subst (λ (n : ℕ). digest_below bytes path n ≢ digest_wanted root index path n) here.1 here.0;
        first = λ l low high. absurd (omega (arith, here.1));
      }
    ]

pub break_of : (root : List ℕ) (index : ℕ) (bytes : List ℕ) (path : List (List ℕ)) (level : ℕ) → first_break root index bytes path ≡ Some level → BreaksFirst root index bytes path level
unfolding first_break
break_of root index bytes path level e =
    let b = break_at root index bytes path (length path) 0 level e in
    record { within = (let w = b.within in omega arith); differs = b.differs; first = λ lower lt. b.first lower (omega arith) lt }
