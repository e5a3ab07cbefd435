-- The times of a user, and the rows after they were set, from the place of the user's row. The rows that the type shows and the
-- slice that was searched are those of the vector.
use Rattle.std.proofs.Common.{◌≡◌, ℕ, cond, eqb, List, ◌∷◌, ◌++◌, length, get_or, set, take, drop, Option, Some, None, sym, ap, subst, ◌∙◌, arith}
use Rattle.std.specs.Prelude.{unwrap_or}
use Rattle.std.proofs.lemmas.List.{length-append, length-take, length-drop}
use Rattle.inc_pending.specs.declared.timeouts.Times.{Times}
use Rattle.inc_pending.specs.Keyed.{lookup, insert, Stands, Lacks}
use Rattle.inc_pending.specs.Times.{default_times, times_of, HoldsTimes}
use Rattle.inc_pending.proofs.KeyedLemmas.{lookup_insert, rise_insert, lookup_stands, insert_stands, lookup_lacks, insert_lacks}

module _ (rows shown slice : List (ℕ × Times)) (at uid : ℕ) (same : rows ≡ shown) (searched : slice ≡ rows) where
  stands : Stands slice at uid → Stands rows at uid
  stands h = let P : List (ℕ × Times) → Type 0 = λ xs. Stands xs at uid in subst P searched h

  lacks : Lacks slice at uid → Lacks rows at uid
  lacks h = let P : List (ℕ × Times) → Type 0 = λ xs. Lacks xs at uid in subst P searched h

  pub times_there : (row : ℕ × Times) → Stands slice at uid → row ≡ get_or rows at row → row.1 ≡ times_of uid shown
  times_there row h is =
      ap (λ (r : ℕ × Times). r.1) is
      ∙ sym (ap (λ (found : Option Times). unwrap_or found default_times) (lookup_stands rows at uid row (stands h)))
      ∙ ap (λ (xs : List (ℕ × Times)). times_of uid xs) same

  missing : HoldsTimes rows → Lacks slice at uid → lookup uid shown ≡ None
  missing holds h = sym (ap (λ (xs : List (ℕ × Times)). lookup uid xs) same) ∙ lookup_lacks rows at uid holds.rise (lacks h)

  pub times_missing : HoldsTimes rows → Lacks slice at uid → default_times ≡ times_of uid shown
  times_missing holds h = sym (ap (λ (found : Option Times). unwrap_or found default_times) (missing holds h))

  -- ---- a row that is there

  pub set_is : (t : Times) → Stands slice at uid → set rows at (uid, t) ≡ insert uid t shown
  set_is t h = sym (insert_stands rows at uid t (stands h)) ∙ ap (λ (xs : List (ℕ × Times)). insert uid t xs) same

  pub set_map : (t : Times) → Stands slice at uid → (other : ℕ) → lookup other (set rows at (uid, t)) ≡ cond (eqb other uid) (Some t) (lookup other shown)
  set_map t h other = ap (λ (xs : List (ℕ × Times)). lookup other xs) (set_is t h) ∙ lookup_insert other uid t shown

  pub is_there : Stands slice at uid → lookup uid shown ≡ None → ⊥
  is_there h none =
      let some = lookup_stands rows at uid (uid, default_times) (stands h) in
      let found : lookup uid rows ≡ None = ap (λ (xs : List (ℕ × Times)). lookup uid xs) same ∙ none in
      cc

  -- ---- a row that isn't

  pub full_is : HoldsTimes rows → Lacks slice at uid → length rows ≡ 256 → (length shown ≡ 256) × (lookup uid shown ≡ None)
  full_is holds h len = (sym (ap length same) ∙ len, missing holds h)

  pub insert_is : (t : Times) → Lacks slice at uid → take at rows ++ (uid, t) ∷ drop at rows ≡ insert uid t shown
  insert_is t h = sym (insert_lacks rows at uid t (lacks h)) ∙ ap (λ (xs : List (ℕ × Times)). insert uid t xs) same

  pub insert_map : (t : Times) → Lacks slice at uid → (other : ℕ) → lookup other (take at rows ++ (uid, t) ∷ drop at rows) ≡ cond (eqb other uid) (Some t) (lookup other shown)
  insert_map t h other = ap (λ (xs : List (ℕ × Times)). lookup other xs) (insert_is t h) ∙ lookup_insert other uid t shown

  pub insert_holds : (t : Times) → HoldsTimes rows → Lacks slice at uid → (length rows ≡ 256 → ⊥) → HoldsTimes (take at rows ++ (uid, t) ∷ drop at rows)
  insert_holds t holds h room =
      let is = insert_lacks rows at uid t (lacks h) in
      let P : List (ℕ × Times) → Type 0 = λ xs. HoldsTimes xs in
      let few = holds.few in
      subst P is (record {
        rise = rise_insert uid t rows holds.rise;
        few = let len = ap length is in omega (arith, length-append (take at rows) ((uid, t) ∷ drop at rows), length-take at rows, length-drop at rows);
      })
