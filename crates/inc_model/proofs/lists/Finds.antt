-- What is found in a list is found after a change of it.
use Rattle.std.proofs.Common.{◌≡◌, Bool, true, false, cond, List, [], ◌∷◌, ◌++◌, Option, Some, None, refl, sym, ap, ◌∙◌}
use Rattle.std.specs.Prelude.{find, filter, map}
use Rattle.std.proofs.lemmas.Bool.{true≢false}

some_is : {X : Type 0} (x y : X) → Some x ≡ Some y → x ≡ y
some_is {X} x y e = ap (λ (o : Option X). elim o as (λ _. X) [ Some r ↦ r | None ↦ x ]) e

module _ {X : Type 0} (p : X → Bool) where
  -- it passes the test
  pub find_passes : (xs : List X) (found : X) → find p xs ≡ Some found → p found ≡ true
  find_passes [] found e = absurd (cc)
  find_passes (x ∷ xs) found e = step (p x) refl e (find_passes xs found)
    where
      step : (b : Bool) → p x ≡ b → cond b (Some x) (find p xs) ≡ Some found → (find p xs ≡ Some found → p found ≡ true) → p found ≡ true
      step true t here later = ap p (sym (some_is x found here)) ∙ t
      step false t here later = later here

  -- in a longer list
  pub find_append : (xs ys : List X) (found : X) → find p xs ≡ Some found → find p (xs ++ ys) ≡ Some found
  find_append [] ys found e = absurd (cc)
  find_append (x ∷ xs) ys found e = step (p x) e (find_append xs ys found)
    where
      step : (b : Bool) → cond b (Some x) (find p xs) ≡ Some found → (find p xs ≡ Some found → find p (xs ++ ys) ≡ Some found) → cond b (Some x) (find p (xs ++ ys)) ≡ Some found
      step true here later = here
      step false here later = later here

  -- among those that pass another test, if it does
  pub find_filter : (q : X → Bool) (xs : List X) (found : X) → find p xs ≡ Some found → q found ≡ true → find p (filter q xs) ≡ Some found
  find_filter q [] found e passes = absurd (cc)
  find_filter q (x ∷ xs) found e passes = step (p x) refl e (q x) refl (λ rest. find_filter q xs found rest passes)
    where
      step : (b : Bool) → p x ≡ b → cond b (Some x) (find p xs) ≡ Some found → (c : Bool) → q x ≡ c → (find p xs ≡ Some found → find p (filter q xs) ≡ Some found) → find p (cond c (x ∷ filter q xs) (filter q xs)) ≡ Some found
      step true t here true keeps later = ap (λ b. cond b (Some x) (find p (filter q xs))) t ∙ here
      step true t here false drops later = absurd (true≢false (sym passes ∙ ap q (sym (some_is x found here)) ∙ drops))
      step false t here true keeps later = ap (λ b. cond b (Some x) (find p (filter q xs))) t ∙ later here
      step false t here false drops later = later here

  -- after a change that the test doesn't see
  pub find_map : (f : X → X) → ((x : X) → p (f x) ≡ p x) → (xs : List X) (found : X) → find p xs ≡ Some found → find p (map f xs) ≡ Some (f found)
  find_map f keeps [] found e = absurd (cc)
  find_map f keeps (x ∷ xs) found e = ap (λ b. cond b (Some (f x)) (find p (map f xs))) (keeps x) ∙ step (p x) e (find_map f keeps xs found)
    where
      step : (b : Bool) → cond b (Some x) (find p xs) ≡ Some found → (find p xs ≡ Some found → find p (map f xs) ≡ Some (f found)) → cond b (Some (f x)) (find p (map f xs)) ≡ Some (f found)
      step true here later = ap (λ (r : X). Some (f r)) (some_is x found here)
      step false here later = later here
