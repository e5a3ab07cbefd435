-- What the map and the begun indices hold is kept by a gate, whether it opens its entry or fails.
use Rattle.std.proofs.Common.{◌≡◌, ℕ, Bool, true, false, ◌||◌, cond, eqb, List, Option, Some, refl, sym, ap, ◌∙◌}
use Rattle.std.specs.Prelude.{is_some}
use Rattle.std.proofs.lemmas.Bool.{eqb-true, true≢false}
use Rattle.inc_pending.specs.Keyed.{lookup, insert}
use Rattle.inc_pending.proofs.KeyedLemmas.{lookup_insert}
use Rattle.inc_model.specs.relation.State.{Digests, is_in, has, AreSound}
use Rattle.inc_model.specs.relation.Facts.{KeptFacts}
use Rattle.inc_model.proofs.lists.Sets.{in_insert}

module _ (first digests begun : Digests) (acknowledged : List ℕ) (index : ℕ) (digest : List ℕ) (h : KeptFacts first digests begun acknowledged) (new : is_in index first ≡ false) where
  fresh_now : (q : ℕ) → is_in q (insert index digest begun) ≡ true → is_in q first ≡ false
  fresh_now q e = go (eqb q index) refl (sym (in_insert q index digest begun) ∙ e)
    where
      go : (b : Bool) → eqb q index ≡ b → (b || is_in q begun) ≡ true → is_in q first ≡ false
      go true t e = ap (λ i. is_in i first) (eqb-true q index t) ∙ new
      go false t e = h.fresh q e

  -- the gate write failed, so the map is what it was
  pub begun_kept : is_in index digests ≡ false → KeptFacts first digests (insert index digest begun) acknowledged
  begun_kept absent = record { opened = h.opened; fresh = fresh_now; same = same_now }
    where
      same_now : (q : ℕ) (a b : List ℕ) → lookup q (insert index digest begun) ≡ Some a → lookup q digests ≡ Some b → a ≡ b
      same_now q a b e there = go (eqb q index) refl (sym (lookup_insert q index digest begun) ∙ e)
        where
          go : (c : Bool) → eqb q index ≡ c → cond c (Some digest) (lookup q begun) ≡ Some a → a ≡ b
          go true t e =
              let in_map : is_in q digests ≡ true = ap (λ (o : Option (List ℕ)). is_some o) there in
              absurd (true≢false (sym in_map ∙ ap (λ i. is_in i digests) (eqb-true q index t) ∙ absent))
          go false t e = h.same q a b e there

  pub opened_kept : KeptFacts first (insert index digest digests) (insert index digest begun) acknowledged
  opened_kept = record { opened = h.opened; fresh = fresh_now; same = same_now }
    where
      same_now : (q : ℕ) (a b : List ℕ) → lookup q (insert index digest begun) ≡ Some a → lookup q (insert index digest digests) ≡ Some b → a ≡ b
      same_now q a b e there = go (eqb q index) (sym (lookup_insert q index digest begun) ∙ e) (sym (lookup_insert q index digest digests) ∙ there)
        where
          go : (c : Bool) → cond c (Some digest) (lookup q begun) ≡ Some a → cond c (Some digest) (lookup q digests) ≡ Some b → a ≡ b
          go true e there = cc
          go false e there = h.same q a b e there

-- one more key that is neither damaged nor compressed
pub sound_insert : (digests : Digests) (damaged compressed : List ℕ) (index : ℕ) (digest : List ℕ) → has index damaged ≡ false → has index compressed ≡ false → AreSound digests damaged compressed → AreSound (insert index digest digests) damaged compressed
sound_insert digests damaged compressed index digest d c h q e = go (eqb q index) refl (sym (in_insert q index digest digests) ∙ e)
  where
    go : (b : Bool) → eqb q index ≡ b → (b || is_in q digests) ≡ true → (has q damaged ≡ false) × (has q compressed ≡ false)
    go true t e = (ap (λ i. has i damaged) (eqb-true q index t) ∙ d, ap (λ i. has i compressed) (eqb-true q index t) ∙ c)
    go false t e = h q e
