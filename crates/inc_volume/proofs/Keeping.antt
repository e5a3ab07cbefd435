-- The first of all names under which a plain file with an id stands is that of the file that keeps it.
use Rattle.std.proofs.Common.{◌≡◌, ◌⊎◌, ℕ, List, [], ◌∷◌, map, Bool, true, false, ◌&&◌, ◌||◌, Option, Some, None, refl, sym, ap, ◌∙◌, subst, inl, inr}
use Rattle.std.specs.Prelude.{T, IsTrue, is_some, option_map}
use Rattle.std.specs.List.{list_any}
use Rattle.std.specs.Ordering.{nat_cmp, is_eq, is_lt, eq_by_cmp, ordering_reverse}
use Rattle.std.specs.declared.cmp.Ordering.{Ordering}
use Rattle.std.specs.declared.cmp.Ordering.TheVariants.{Less, Equal, Greater}
use Rattle.std.specs.Cmp.Lexicographic.{slice_cmp, nat_list_cmp_total}
use Rattle.std.specs.FinMap.{get, entries, entries_sorted, contains_key-keys, slice_cmp-IsAntisymmetric, nat_cmp-IsAntisymmetric}
use Rattle.std.specs.FinMap.Entries.{is_sorted, below_all}
use Rattle.inc_io.specs.Contents.{Contents}
use Rattle.std.proofs.lemmas.Map.Text.{is_eq-slice_cmp}
use Rattle.std.proofs.lemmas.Slice.Eq.{bytes_eq-Decides}
use Rattle.inc_volume.specs.Standings.{standing_of}
use Rattle.inc_volume.specs.Verdicts.{IsHolder, NoneHolds, first_holder, holder_of, holder_or, size_held, size_of_any}
use Rattle.inc_volume.specs.declared.holder.Holder.{Holder}

is_equal : (o : Ordering) → is_eq o ≡ true → o ≡ Equal
is_equal Less e = absurd (cc)
is_equal Equal e = refl
is_equal Greater e = absurd (cc)

in_order : (b : Bool) → T b → IsTrue b
in_order true h = refl
in_order false h = absurd h

same_holder : (one other : Holder) → Some one ≡ Some other → one ≡ other
same_holder one other e = cc

is_less : (o : Ordering) → is_lt o ≡ true → o ≡ Less
is_less Less e = refl
is_less Equal e = absurd (cc)
is_less Greater e = absurd (cc)

same_name : (name other : List ℕ) → eq_by_cmp (slice_cmp nat_cmp) name other ≡ true → name ≡ other
same_name name other e = slice_cmp-IsAntisymmetric nat_cmp-IsAntisymmetric name other (is_equal _ e)

never_lower : (name : List ℕ) → slice_cmp nat_cmp name name ≡ Less → ⊥
never_lower name lt =
    let flipped : slice_cmp nat_cmp name name ≡ Greater = nat_list_cmp_total.antisymm name name ∙ ap ordering_reverse lt in
    let clash : Less ≡ Greater = sym lt ∙ flipped in cc

never_both : (name other : List ℕ) → slice_cmp nat_cmp name other ≡ Less → slice_cmp nat_cmp other name ≡ Less → ⊥
never_both name other lt gt = never_lower name (nat_list_cmp_total.trans name other name lt gt)

true_both : (a b : Bool) → IsTrue (a && b) → (a ≡ true) × (IsTrue b)
true_both true b h = (refl, h)
true_both false b h = absurd (cc)

either : (a b : Bool) → (a || b) ≡ true → (a ≡ true) ⊎ (b ≡ true)
either true b e = inl refl
either false b e = inr e

abbrev among : List ℕ → List (List ℕ × List ℕ) → Bool
among name es = list_any (eq_by_cmp (slice_cmp nat_cmp) name) (map (λ (e : List ℕ × List ℕ). e.0) es)

-- what stands behind a name in order is higher
higher : (first name : List ℕ) (es : List (List ℕ × List ℕ)) → IsTrue (below_all (slice_cmp nat_cmp) first es) → among name es ≡ true → slice_cmp nat_cmp first name ≡ Less
higher first name [] below here = absurd (cc)
higher first name (e ∷ es) below here =
    let parts = true_both (is_lt (slice_cmp nat_cmp first e.0)) (below_all (slice_cmp nat_cmp) first es) below in
    elim (either (eq_by_cmp (slice_cmp nat_cmp) name e.0) (among name es) here) [
      | inl same ↦ rw (same_name name e.0 same) (is_less _ parts.0)
      | inr later ↦ higher first name es parts.1 later
    ]

pub itself : (name : List ℕ) → eq_by_cmp (slice_cmp nat_cmp) name name ≡ true
itself name = is_eq-slice_cmp name name ∙ (bytes_eq-Decides name name).1 refl

-- the first of names in order under which a plain file with the id stands
record Finds (files : Contents) (id : List ℕ) (es : List (List ℕ × List ℕ)) (holder : Holder) : Type 0 where
  stands : size_held files id holder.name ≡ Some holder.size
  there : among holder.name es ≡ true
  first : (other : List ℕ) → among other es ≡ true → slice_cmp nat_cmp other holder.name ≡ Less → size_held files id other ≡ None

-- it stands under the first name
found_here : (files : Contents) (id : List ℕ) (e : List ℕ × List ℕ) (es : List (List ℕ × List ℕ)) (size : ℕ) → IsTrue (below_all (slice_cmp nat_cmp) e.0 es) → size_held files id e.0 ≡ Some size
    → Finds files id (e ∷ es) (record { name = e.0; size = size })
found_here files id e es size below held = record {
  stands = held;
  there = ap (λ (b : Bool). b || among e.0 es) (itself e.0);
  first = λ other here lower.
      elim (either (eq_by_cmp (slice_cmp nat_cmp) other e.0) (among other es) here) [
        | inl same ↦ absurd (never_lower e.0 (subst (λ (name : List ℕ). slice_cmp nat_cmp name e.0 ≡ Less) (same_name other e.0 same) lower))
        | inr later ↦ absurd (never_both other e.0 lower (higher e.0 other es below later))
      ];
}

pub true_after : (a b : Bool) → b ≡ true → (a || b) ≡ true
true_after true b e = refl
true_after false b e = e

found_later : (files : Contents) (id : List ℕ) (e : List ℕ × List ℕ) (es : List (List ℕ × List ℕ)) (holder : Holder) → size_held files id e.0 ≡ None → Finds files id es holder
    → Finds files id (e ∷ es) holder
found_later files id e es holder none finds = record {
  stands = finds.stands;
  there = true_after (eq_by_cmp (slice_cmp nat_cmp) holder.name e.0) (among holder.name es) finds.there;
  first = λ other here lower.
      elim (either (eq_by_cmp (slice_cmp nat_cmp) other e.0) (among other es) here) [
        | inl same ↦ ap (size_held files id) (same_name other e.0 same) ∙ none
        | inr later ↦ finds.first other later lower
      ];
}

finds : (files : Contents) (id : List ℕ) (es : List (List ℕ × List ℕ)) → IsTrue (is_sorted (slice_cmp nat_cmp) es) → (holder : Holder)
    → first_holder files id (map (λ (e : List ℕ × List ℕ). e.0) es) ≡ Some holder → Finds files id es holder
finds files id [] sorted holder found = absurd (cc)
finds files id (e ∷ es) sorted holder found =
    let parts = true_both (below_all (slice_cmp nat_cmp) e.0 es) (is_sorted (slice_cmp nat_cmp) es) sorted in
    elim (size_held files id e.0) as (λ held. size_held files id e.0 ≡ held
    → holder_or e.0 held (first_holder files id (map (λ (e : List ℕ × List ℕ). e.0) es)) ≡ Some holder → Finds files id (e ∷ es) holder) [
      | Some size ↦ λ held is. subst (Finds files id (e ∷ es)) (same_holder _ _ is) (found_here files id e es size parts.0 held)
      | None ↦ λ none is. found_later files id e es holder none (finds files id es parts.1 holder is)
    ] refl found

finds_none : (files : Contents) (id : List ℕ) (es : List (List ℕ × List ℕ)) → first_holder files id (map (λ (e : List ℕ × List ℕ). e.0) es) ≡ None
    → (other : List ℕ) → among other es ≡ true → size_held files id other ≡ None
finds_none files id [] none other here = absurd (cc)
finds_none files id (e ∷ es) none other here =
    elim (size_held files id e.0) as (λ held. size_held files id e.0 ≡ held
    → holder_or e.0 held (first_holder files id (map (λ (e : List ℕ × List ℕ). e.0) es)) ≡ None → size_held files id other ≡ None) [
      | Some size ↦ λ held is. absurd (cc)
      | None ↦ λ nothing is.
          elim (either (eq_by_cmp (slice_cmp nat_cmp) other e.0) (among other es) here) [
            | inl same ↦ ap (size_held files id) (same_name other e.0 same) ∙ nothing
            | inr later ↦ finds_none files id es is other later
          ]
    ] refl none

-- under a name that isn't there no file stands
no_size : (id : List ℕ) (bytes : Option (List ℕ)) → is_some bytes ≡ false → size_of_any id (option_map standing_of bytes) ≡ None
no_size id None e = refl
no_size id (Some bytes) e = absurd (cc)

not_there : (files : Contents) (id name : List ℕ) → among name (entries files) ≡ false → size_held files id name ≡ None
not_there files id name out = no_size id (get files name) (contains_key-keys files name ∙ out)

pub holder_keeps : (files : Contents) (id : List ℕ) (holder : Holder) → holder_of files id ≡ Some holder → IsHolder files id holder
holder_keeps files id holder found =
    let all = finds files id (entries files) (in_order _ (entries_sorted files)) holder found in
    record {
      stands = all.stands;
      first = λ other lower. elim (among other (entries files)) as (λ b. among other (entries files) ≡ b → size_held files id other ≡ None) [
        | true ↦ λ here. all.first other here lower
        | false ↦ λ out. not_there files id other out
      ] refl;
    }

pub none_keeps : (files : Contents) (id : List ℕ) → holder_of files id ≡ None → NoneHolds files id
none_keeps files id none = λ other. elim (among other (entries files)) as (λ b. among other (entries files) ≡ b → size_held files id other ≡ None) [
  | true ↦ λ here. finds_none files id (entries files) none other here
  | false ↦ λ out. not_there files id other out
] refl
