-- What is kept after one of it was used: the cache's own words for it, and what is found then.
use Rattle.std.proofs.Common.{◌≡◌, ◌⊎◌, ℕ, zero, suc, ◌+◌, ◌-◌, ◌<◌, ◌≤◌, true, false, List, [], ◌∷◌, length, take, nat_eq, Option, Some, None, refl, sym, ap, subst, ◌∙◌, inl, inr, arith}
use Rattle.std.specs.Map.{lookup_entry, remove_entry}
use Rattle.std.proofs.lemmas.Bool.{eqb-true}
use Rattle.std.proofs.lemmas.List.{take_all}
use Rattle.lru.specs.LruCache.{LruCache, IsValid, promoted, put_entries}
use Rattle.inc_tree.specs.shape.Geometry.{Shape}
use Rattle.inc_cache.specs.Kept.{WereVerified, WasVerified}
use Rattle.inc_cache.specs.Used.{kept_at, used_again, used_first}

module _ {V : Type 0} where
  -- what a front has, the whole has
  kept_at-take : (q n : ℕ) (es : List (ℕ × V)) (x : V) → kept_at q (take n es) ≡ Some x → kept_at q es ≡ Some x
  kept_at-take q zero es x h = cc
  kept_at-take q (suc n) [] x h = h
  kept_at-take q (suc n) (e ∷ es) x h = (elim (nat_eq q e.0) as (λ y. nat_eq q e.0 ≡ y → kept_at q (e ∷ es) ≡ Some x) [
    | true ↦ λ t. rw t (rw t at h)
    | false ↦ λ t. rw t (kept_at-take q n es x (rw t at h))
  ]) refl

  -- what goes is found under its own number alone
  kept_at-remove : (q k : ℕ) (es : List (ℕ × V)) → nat_eq q k ≡ false → kept_at q (remove_entry (nat_eq k) es) ≡ kept_at q es
  kept_at-remove q k [] other = refl
  kept_at-remove q k (e ∷ es) other = (elim (nat_eq k e.0) as (λ y. nat_eq k e.0 ≡ y → kept_at q (remove_entry (nat_eq k) (e ∷ es)) ≡ kept_at q (e ∷ es)) [
    | true ↦ λ t. let here : nat_eq q e.0 ≡ false = ap (λ n. nat_eq q n) (sym (eqb-true k e.0 t)) ∙ other in rw (t, here)
    | false ↦ λ t. rw t (rw (kept_at-remove q k es other))
  ]) refl

  -- what is found after a use is what was used, or was found before
  pub kept_at-used : (room q k : ℕ) (v : V) (es : List (ℕ × V)) (x : V) → kept_at q (used_first room k v es) ≡ Some x
      → ((k ≡ q) × (v ≡ x)) ⊎ (kept_at q es ≡ Some x)
  kept_at-used room q k v es x h =
      let found = kept_at-take q room ((k, v) ∷ remove_entry (nat_eq k) es) x h in
      (elim (nat_eq q k) as (λ y. nat_eq q k ≡ y → ((k ≡ q) × (v ≡ x)) ⊎ (kept_at q es ≡ Some x)) [
        | true ↦ λ t. let same : Some v ≡ Some x = rw t at found in inl (sym (eqb-true q k t), cc)
        | false ↦ λ t. let same : kept_at q (remove_entry (nat_eq k) es) ≡ Some x = rw t at found in inr (sym (kept_at-remove q k es t) ∙ same)
      ]) refl

  -- the entry of a number, where there is none and where there is one
  remove_none : (k : ℕ) (es : List (ℕ × V)) → lookup_entry (nat_eq k) es ≡ None → (remove_entry (nat_eq k) es ≡ es) × (kept_at k es ≡ None)
  remove_none k [] h = (refl, refl)
  remove_none k (e ∷ es) h = (elim (nat_eq k e.0) as (λ y. nat_eq k e.0 ≡ y → (remove_entry (nat_eq k) (e ∷ es) ≡ e ∷ es) × (kept_at k (e ∷ es) ≡ None)) [
    | true ↦ λ t. let h' = rw t at h in cc
    | false ↦ λ t. let more = remove_none k es (rw t at h) in rw t (ap (λ l. e ∷ l) more.0, more.1)
  ]) refl

  remove_some : (k : ℕ) (es : List (ℕ × V)) (f : ℕ × V) → lookup_entry (nat_eq k) es ≡ Some f
      → (length (remove_entry (nat_eq k) es) + 1 ≡ length es) × (kept_at k es ≡ Some f.1) × (f.0 ≡ k)
  remove_some k [] f h = cc
  remove_some k (e ∷ es) f h = (elim (nat_eq k e.0) as (λ y. nat_eq k e.0 ≡ y → (length (remove_entry (nat_eq k) (e ∷ es)) + 1 ≡ length (e ∷ es)) × (kept_at k (e ∷ es) ≡ Some f.1) × (f.0 ≡ k)) [
    | true ↦ λ t. let h' = rw t at h in let same : e ≡ f = cc in rw t (omega arith, ap (λ (p : ℕ × V). Some p.1) same, sym (ap (λ (p : ℕ × V). p.0) same) ∙ sym (eqb-true k e.0 t))
    | false ↦ λ t. let more = remove_some k es f (rw t at h) in rw t (omega (arith, more.0), more.1, more.2)
  ]) refl

  take_first : (n : ℕ) (e : ℕ × V) (es : List (ℕ × V)) → 0 < n → take n (e ∷ es) ≡ e ∷ take (n - 1) es
  take_first zero e es h = absurd (omega arith)
  take_first (suc n) e es h = let less : suc n - 1 ≡ n = omega arith in rw less

  put_cases : (c : LruCache ℕ V) (k : ℕ) (v : V) (o : Option (ℕ × V)) → IsValid nat_eq c → lookup_entry (nat_eq k) c.entries ≡ o
      → put_entries nat_eq c k v ≡ used_first c.cap k v c.entries
  put_cases c k v None valid h =
      rw (h, (remove_none k c.entries h).0) (sym (take_first c.cap (k, v) c.entries valid.2))
  put_cases c k v (Some f) valid h =
      let found = remove_some k c.entries f h in
      let fits : length ((k, v) ∷ remove_entry (nat_eq k) c.entries) ≤ c.cap = omega (arith, found.0, valid.1) in
      rw (h, found.2) (sym (take_all c.cap ((k, v) ∷ remove_entry (nat_eq k) c.entries) fits))

  -- a put is a use
  pub put_is_used : (c : LruCache ℕ V) (k : ℕ) (v : V) → IsValid nat_eq c → put_entries nat_eq c k v ≡ used_first c.cap k v c.entries
  put_is_used c k v valid = put_cases c k v (lookup_entry (nat_eq k) c.entries) valid refl

  promoted_cases : (c : LruCache ℕ V) (k : ℕ) (o : Option (ℕ × V)) → IsValid nat_eq c → lookup_entry (nat_eq k) c.entries ≡ o
      → promoted (nat_eq k) c.entries ≡ used_again c.cap k (kept_at k c.entries) c.entries
  promoted_cases c k None valid h = rw (h, (remove_none k c.entries h).1)
  promoted_cases c k (Some f) valid h =
      let found = remove_some k c.entries f h in
      let fits : length ((k, f.1) ∷ remove_entry (nat_eq k) c.entries) ≤ c.cap = omega (arith, found.0, valid.1) in
      let same : f ≡ (k, f.1) = ap (λ (n : ℕ). (n, f.1)) found.2 in
      rw (h, found.1) (ap (λ (p : ℕ × V). p ∷ remove_entry (nat_eq k) c.entries) same ∙ sym (take_all c.cap ((k, f.1) ∷ remove_entry (nat_eq k) c.entries) fits))

  -- and so is a promotion, of what is there
  pub promoted_is_used : (c : LruCache ℕ V) (k : ℕ) → IsValid nat_eq c → promoted (nat_eq k) c.entries ≡ used_again c.cap k (kept_at k c.entries) c.entries
  promoted_is_used c k valid = promoted_cases c k (lookup_entry (nat_eq k) c.entries) valid refl

  -- of what was used again each was found before
  pub kept_at-again : (room q k : ℕ) (o : Option V) (es : List (ℕ × V)) (x : V) → kept_at k es ≡ o → kept_at q (used_again room k o es) ≡ Some x → kept_at q es ≡ Some x
  kept_at-again room q k None es x is h = h
  kept_at-again room q k (Some v) es x is h = elim (kept_at-used room q k v es x h) [
    | inl same ↦ ap (λ n. kept_at n es) (sym same.0) ∙ (is ∙ ap (λ (w : V). Some w) same.1)
    | inr before ↦ before
  ]

-- what was verified stays so, and what is kept now was verified
pub vouched_after_use : (root : List ℕ) (shape : Shape) (room hash : ℕ) (block : List ℕ) (kept : List (ℕ × List ℕ)) → WereVerified root shape kept → WasVerified root shape hash block
    → WereVerified root shape (used_first room hash block kept)
vouched_after_use root shape room hash block kept before now number found h = elim (kept_at-used room number hash block kept found h) [
  | inl same ↦ subst (λ (n : ℕ). WasVerified root shape n found) same.0 (subst (WasVerified root shape hash) same.1 now)
  | inr there ↦ before number found there
]
