use Rattle.std.proofs.Common.{◌≡◌, ℕ, suc, ◌+◌, ◌<◌, ◌≤◌, List, ◌∷◌, ◌++◌, length, take, drop, get_or, Bool, true, false, ◌&&◌, ◌||◌, refl, sym, ap, ◌∙◌, drop-cons, arith}
use Rattle.std.proofs.lemmas.List.{get_or_default, take_at, drop_at, length-append, length-take}
use Rattle.std.proofs.lemmas.Slice.Eq.{bytes_eq-Decides}
use Rattle.std.specs.List.{list_any}
use Rattle.std.specs.Str.{bytes_eq}
use Rattle.std.specs.Str.{is_utf8, IsUtf8}
use Rattle.std.proofs.lemmas.Str.{IsUtf8-from_is_utf8, is_utf8-from_IsUtf8}
use Rattle.inc_io.specs.Names.{is_name, without}

-- `IsUtf8` and its test
pub ruleset utf8_tests = (IsUtf8-from_is_utf8, is_utf8-from_IsUtf8)

false_inside : (a b c : Bool) → ((a && false) && b) && c ≡ false
false_inside true b c = refl
false_inside false b c = refl

fails : (bytes : List ℕ) → ¬ (IsUtf8 bytes) → is_utf8 bytes ≡ false
fails bytes broken =
    elim (is_utf8 bytes) as (λ b. is_utf8 bytes ≡ b → is_utf8 bytes ≡ false) [
      | true ↦ λ e. absurd (broken (IsUtf8-from_is_utf8 bytes e))
      | false ↦ λ e. e
    ] refl

-- a name is text
pub no_text_no_name : (bytes : List ℕ) → ¬ (IsUtf8 bytes) → is_name bytes ≡ false
unfolding is_name
no_text_no_name bytes broken = rw (fails bytes broken) (false_inside _ _ _)

or_true : (b : Bool) → true ≡ (b || true)
or_true true = refl
or_true false = refl

-- a name that stands at this place is among the names from there on
pub found_here : (name : List ℕ) (names : List (List ℕ)) (at : ℕ) (item : List ℕ) (before all : Bool) → at < length names → item ≡ get_or names at item → bytes_eq name item ≡ true
    → (before || list_any (bytes_eq name) (drop at names)) ≡ all → true ≡ all
found_here name names at item before all lt here same e =
    or_true before
    ∙ ap (λ (b : Bool). before || b) (ap (λ (b : Bool). b || list_any (bytes_eq name) (drop (suc at) names)) (sym same ∙ ap (bytes_eq name) here) ∙ ap (list_any (bytes_eq name)) (sym (drop-cons names at item lt)))
    ∙ e

pub same_there : (name : List ℕ) (names : List (List ℕ)) (at : ℕ) (item removed : List ℕ) → at < length names → item ≡ get_or names at item → bytes_eq name item ≡ true
    → removed ≡ get_or names at removed → removed ≡ name
same_there name names at item removed lt here same is =
    is ∙ get_or_default names at removed item lt ∙ sym here ∙ sym ((bytes_eq-Decides name item).0 same)

-- of the list without its item at this place, this place is still inside or at the end
pub within_rest : (names rest : List (List ℕ)) (at : ℕ) → at < length names → rest ≡ take at names ++ drop (at + 1) names → at ≤ length rest
within_rest names rest at lt e = rw e (omega (arith, lt, length-append (take at names) (drop (at + 1) names), length-take at names))

-- what a list holds but for a name, where that name stands at this place and is taken out
pub without_here : (name : List ℕ) (names rest : List (List ℕ)) (at : ℕ) (item : List ℕ) → at < length names → item ≡ get_or names at item → bytes_eq name item ≡ true
    → rest ≡ take at names ++ drop (at + 1) names → take at rest ++ without name (drop at rest) ≡ take at names ++ without name (drop at names)
without_here name names rest at item lt here same e =
    let len : length (take at names) ≡ at = omega (arith, lt, length-take at names) in
    let first : bytes_eq name (get_or names at item) ≡ true = ap (bytes_eq name) (sym here) ∙ same in
    let next : suc at ≡ at + 1 = omega arith in
    let cons : drop at names ≡ get_or names at item ∷ drop (at + 1) names = drop-cons names at item lt ∙ ap (λ (k : ℕ). get_or names at item ∷ drop k names) next in
    let gone : without name (get_or names at item ∷ drop (at + 1) names) ≡ without name (drop (at + 1) names) = rw first refl in
    rw (e, take_at (take at names) (drop (at + 1) names) at len, drop_at (take at names) (drop (at + 1) names) at len)
    (ap (λ (x : List (List ℕ)). take at names ++ x) (sym (ap (without name) cons ∙ gone)))
