-- What is still in a list after a change of it.
use Rattle.std.proofs.Common.{◌≡◌, suc, ◌⊎◌, Bool, true, false, cond, ltb, List, [], ◌∷◌, get_or, refl, arith, inl, inr}
use Rattle.std.specs.Prelude.{All, Any, Contains, filter, map}
use Rattle.std.proofs.lemmas.Bool.{cond_both}
use Rattle.std.proofs.lemmas.List.Elements.{All-nil, All-cons, All-contains_itself}
use Rattle.inc_model.specs.declared.words.file_state.FlightRow.{FlightRow}
use Rattle.inc_model.specs.relation.State.{fly}

module _ {X : Type 0} where
  head_in : (x : X) (xs : List X) → Contains (x ∷ xs) x
  head_in x xs = (0, omega arith, refl)

  tail_in : (y : X) (xs : List X) (x : X) → Contains xs x → Contains (y ∷ xs) x
  tail_in y xs x c = (suc c.0, (let lt = c.1 in omega arith), c.2)

  pub any_of : (P : X → Type 0) (xs : List X) (x : X) → Contains xs x → P x → Any P xs
  any_of P xs x c p = (c.0, x, c.1, c.2, p)

  pub filter_has : (p : X → Bool) (xs : List X) → All (λ x. Contains (filter p xs) x ⊎ (p x ≡ false)) xs
  filter_has p [] = All-nil (λ (x : X). Contains {X = X} [] x ⊎ (p x ≡ false))
  filter_has p (y ∷ ys) = step (p y) refl (filter_has p ys)
    where
      step : (b : Bool) → p y ≡ b → All (λ x. Contains (filter p ys) x ⊎ (p x ≡ false)) ys → All (λ x. Contains (cond b (y ∷ filter p ys) (filter p ys)) x ⊎ (p x ≡ false)) (y ∷ ys)
      step true t h =
          All-cons (λ x. Contains (y ∷ filter p ys) x ⊎ (p x ≡ false)) y ys (inl (head_in y (filter p ys)))
          (λ k d lt. elim (h k d lt) [ inl c ↦ inl (tail_in y (filter p ys) (get_or ys k d) c) | inr out ↦ inr out ])
      step false t h = All-cons (λ x. Contains (filter p ys) x ⊎ (p x ≡ false)) y ys (inr t) h

  pub map_has : {Y : Type 0} (f : X → Y) (xs : List X) → All (λ x. Contains (map f xs) (f x)) xs
  map_has f [] = λ k d lt. absurd (omega arith)
  map_has f (y ∷ ys) =
      All-cons (λ x. Contains (f y ∷ map f ys) (f x)) y ys (0, omega arith, refl)
      (λ k d lt. let c = map_has f ys k d lt in (suc c.0, (let inside = c.1 in omega arith), c.2))

pub fly_has : (new : FlightRow) (rows : List FlightRow) → All (Contains (fly new rows)) rows
fly_has new [] = λ k d lt. absurd (omega arith)
fly_has new (row ∷ rows) =
    cond_both (ltb new.index row.index) (new ∷ row ∷ rows) (row ∷ fly new rows) (λ l. All (Contains l) (row ∷ rows))
    (λ _ k d lt. tail_in new (row ∷ rows) (get_or (row ∷ rows) k d) (All-contains_itself (row ∷ rows) k d lt))
    (λ _. All-cons (Contains (row ∷ fly new rows)) row rows (head_in row (fly new rows)) (λ k d lt. tail_in row (fly new rows) (get_or rows k d) (fly_has new rows k d lt)))
